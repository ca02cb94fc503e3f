-- Literals that are true under some bits: their inverses, and lists of them.
use Rattle.std.proofs.Common.{◌≡◌, ◌-◌, Bool, true, false, not, List, [], ◌∷◌, ◌++◌, map, inl, inr, refl, ap, ◌∙◌, if◌then◌else◌}
use Rattle.std.specs.List.{list_any, list_all, slice_index_or}
use Rattle.cg_formula.specs.declared.formula.Lit.{Lit}
use Rattle.cg_formula.specs.Lits.{inverse, same_lit, is_in}
use Rattle.cg_formula.specs.Satisfiable.{lit_bit}
use Rattle.cg_formula.proofs.Members.{same_lit_equal}
use Rattle.std.proofs.lemmas.Bool.{and_parts, or_cases}

flipped : (bit inverted : Bool) → (if not inverted then not bit else bit) ≡ not (if inverted then not bit else bit)
flipped true true = refl
flipped true false = refl
flipped false true = refl
flipped false false = refl

pub lit_bit-inverse : (bits : List Bool) (lit : Lit) → lit_bit bits (inverse lit) ≡ not (lit_bit bits lit)
lit_bit-inverse bits lit = flipped (slice_index_or bits (lit.variable - 1) false) lit.inverted

-- a literal among true ones is true
pub found_true : (bits : List Bool) (lit : Lit) (trues : List Lit) → is_in lit trues ≡ true → list_all (lit_bit bits) trues ≡ true
    → lit_bit bits lit ≡ true
found_true bits lit [] e all = absurd (cc)
found_true bits lit (t ∷ ts) e all =
    let parts = and_parts (lit_bit bits t) (list_all (lit_bit bits) ts) all in
    elim (or_cases (same_lit lit t) (is_in lit ts) e)
    [ inl same ↦ ap (lit_bit bits) (same_lit_equal lit t same) ∙ parts.0 | inr later ↦ found_true bits lit ts later parts.1 ]

-- one more true literal
pub all_more : (bits : List Bool) (trues : List Lit) (lit : Lit) → list_all (lit_bit bits) trues ≡ true → lit_bit bits lit ≡ true
    → list_all (lit_bit bits) (trues ++ lit ∷ []) ≡ true
all_more bits [] lit all e = rw e refl
all_more bits (t ∷ ts) lit all e =
    let parts = and_parts (lit_bit bits t) (list_all (lit_bit bits) ts) all in
    rw (parts.0, all_more bits ts lit parts.1 e) refl

-- where no literal is true, each inverse is
pub all_false : (bits : List Bool) (lits : List Lit) → list_any (lit_bit bits) lits ≡ false
    → list_all (lit_bit bits) (map inverse lits) ≡ true
all_false bits [] e = refl
all_false bits (l ∷ ls) e = pick (lit_bit bits l) refl (all_false bits ls) where
  pick : (b : Bool) → lit_bit bits l ≡ b → (list_any (lit_bit bits) ls ≡ false → list_all (lit_bit bits) (map inverse ls) ≡ true)
      → list_all (lit_bit bits) (map inverse (l ∷ ls)) ≡ true
  pick true f later = let no : true ≡ false = rw f at e in absurd (cc)
  pick false f later =
      let here : lit_bit bits (inverse l) ≡ true = lit_bit-inverse bits l ∙ rw f refl in
      rw here (later (rw f at e))
