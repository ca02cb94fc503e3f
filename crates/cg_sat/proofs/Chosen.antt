-- Bits and the clauses that they satisfy.
use Rattle.std.proofs.Common.{◌≡◌, ℕ, ◌+◌, ◌-◌, zero, suc, ◌<◌, ◌≤◌, Bool, true, false, not, List, [], ◌∷◌}
use Rattle.std.proofs.Common.{Some, inl, inr, refl, sym, ap, ◌∙◌, subst, length, map, take, arith}
use Rattle.std.proofs.Common.{if◌then◌else◌}
use Rattle.std.specs.List.{slice_get, list_any, list_all, AllByRecursion, slice_index_or}
use Rattle.cg_formula.specs.declared.formula.Lit.{Lit}
use Rattle.cg_formula.specs.declared.formula.Clause.{Clause}
use Rattle.cg_formula.specs.declared.formula.Formula.{Formula}
use Rattle.cg_formula.specs.Lits.{inverse, same_lit, is_in}
use Rattle.cg_formula.specs.Bounds.{IsLit, IsClause, IsFormula}
use Rattle.cg_formula.specs.Satisfiable.{lit_bit, clause_bit}
use Rattle.cg_formula.proofs.Members.{same_lit_equal}
use Rattle.cg_formula.specs.Assignments.{IsUnassigned}
use Rattle.cg_sat_state.specs.declared.trail.Entry.{Entry}
use Rattle.cg_sat_state.specs.Store.{Store, clause_at, given}
use Rattle.cg_sat.specs.inner.Search.{ShowsBits, IsSearch, HasPrefix}
use Rattle.std.proofs.lemmas.Bool.{and_parts, or_cases}

all_at : {X : Type 0} (P : X → Type 0) (xs : List X) (k : ℕ) (x : X) → AllByRecursion P xs → slice_get xs k ≡ Some x → P x
all_at P [] k x all e = absurd (cc)
all_at P (y ∷ ys) zero x all e = let same : y ≡ x = cc in subst P same all.0
all_at P (y ∷ ys) (suc k) x all e = all_at P ys k x all.1 e

in_all : (P : Lit → Type 0) (lits : List Lit) (lit : Lit) → AllByRecursion P lits → is_in lit lits ≡ true → P lit
in_all P [] lit all e = absurd (cc)
in_all P (l ∷ ls) lit all e = elim (or_cases (same_lit lit l) (is_in lit ls) e) [
  | inl same ↦ subst P (sym (same_lit_equal lit l same)) all.0
  | inr later ↦ in_all P ls lit all.1 later
]

pub clause_named : (formula : Formula) (k : ℕ) (clause : Clause) (lit : Lit) → IsFormula formula → slice_get formula.clauses k ≡ Some clause → is_in lit clause.lits ≡ true → (0 < lit.variable) × (lit.variable ≤ formula.variables)
clause_named formula k clause lit is at e =
    let one = in_all (IsLit formula.variables) clause.lits lit (all_at (IsClause formula.variables) formula.clauses k clause is.clauses at) e in
    let low = one.from_one in
    (omega arith, one.within)

any_false : (bits : List Bool) (lits : List Lit) (lit : Lit) → list_any (lit_bit bits) lits ≡ false → is_in lit lits ≡ true → lit_bit bits lit ≡ false
any_false bits [] lit off e = absurd (cc)
any_false bits (l ∷ ls) lit off e = pick (lit_bit bits l) refl (any_false bits ls lit) where
  pick : (b : Bool) → lit_bit bits l ≡ b → (list_any (lit_bit bits) ls ≡ false → is_in lit ls ≡ true → lit_bit bits lit ≡ false) → lit_bit bits lit ≡ false
  pick true f later = let bad : true ≡ false = rw f at off in absurd (cc)
  pick false f later = elim (or_cases (same_lit lit l) (is_in lit ls) e) [
    | inl same ↦ ap (lit_bit bits) (same_lit_equal lit l same) ∙ f
    | inr rest ↦ later (rw f at off) rest
  ]

-- a literal that is neither made true by the bits nor false in the trail is open
pub open_by_bits : (trues : List Lit) (bits : List Bool) (lits : List Lit) (lit : Lit) → ShowsBits trues bits → 0 < lit.variable → lit.variable ≤ length bits → list_any (lit_bit bits) lits ≡ false → is_in lit lits ≡ true
    → is_in (inverse lit) trues ≡ false → IsUnassigned trues lit
open_by_bits trues bits lits lit shows low high off e free = record { not_true = go lit.inverted refl; not_false = free } where
  make : ℕ → Bool → Lit
  make v s = record { variable = v; inverted = s }

  dark : lit_bit bits lit ≡ false
  dark = any_false bits lits lit off e

  back : lit.variable - 1 + 1 ≡ lit.variable
  back = omega arith

  shown : slice_index_or bits (lit.variable - 1) false ≡ is_in (record { variable = lit.variable; inverted = false }) trues
  shown = subst (λ v. slice_index_or bits (lit.variable - 1) false ≡ is_in (record { variable = v; inverted = false }) trues) back (shows (lit.variable - 1) (omega arith))

  go : (s : Bool) → lit.inverted ≡ s → is_in lit trues ≡ false
  go false f =
      let same : lit ≡ record { variable = lit.variable; inverted = false } = ap (λ (b : Bool). let l : Lit = record { variable = lit.variable; inverted = b } in l) f in
      let bit : slice_index_or bits (lit.variable - 1) false ≡ false = rw f at dark in
      ap (λ l. is_in l trues) same ∙ sym shown ∙ bit
  go true f =
      let same : inverse lit ≡ record { variable = lit.variable; inverted = false } = ap (λ (b : Bool). let l : Lit = record { variable = lit.variable; inverted = not b } in l) f in
      let bit : not (slice_index_or bits (lit.variable - 1) false) ≡ false = rw f at dark in
      let none : slice_index_or bits (lit.variable - 1) false ≡ false = shown ∙ ap (λ l. is_in l trues) (sym same) ∙ free in
      let bad : true ≡ false = rw none at bit in absurd (cc)

-- the formula's clauses stand first
given_at : (clauses : List Clause) (k : ℕ) (clause : Clause) → slice_get clauses k ≡ Some clause → clause_at (map (λ (c : Clause). Some c.lits) clauses) k ≡ Some clause.lits
given_at [] k clause e = absurd (cc)
given_at (c ∷ cs) zero clause e = let same : c ≡ clause = cc in ap (λ (d : Clause). Some d.lits) same
given_at (c ∷ cs) (suc k) clause e = given_at cs k clause e

given_found : (clauses : List Clause) (k : ℕ) (lits : List Lit) → clause_at (map (λ (c : Clause). Some c.lits) clauses) k ≡ Some lits → (clause : Clause) × (slice_get clauses k ≡ Some clause) × (clause.lits ≡ lits)
given_found [] k lits e = absurd (cc)
given_found (c ∷ cs) zero lits e = (c, refl, cc)
given_found (c ∷ cs) (suc k) lits e = given_found cs k lits e

pub begin_search : (formula : Formula) (clauses : Store) (trail : List Entry) → IsFormula formula → clauses ≡ given formula → trail ≡ [] → IsSearch (formula.variables + 1) clauses trail
begin_search formula clauses trail is e f = rw (e, f) (record {
  stands = record { open_at = λ i entry g. absurd (cc); reason_at = λ i entry g. absurd (cc) };
  named = record {
    in_clauses = λ k lits lit at among.
        let found = given_found formula.clauses k lits at in
        let named = clause_named formula k found.0 lit is found.1 (subst (λ ls. is_in lit ls ≡ true) (sym found.2) among) in
        omega (arith, named.1);
    in_trail = λ k entry g. absurd (cc);
  };
  ones = record {
    in_clauses = λ k lits lit at among.
        let found = given_found formula.clauses k lits at in
        let named = clause_named formula k found.0 lit is found.1 (subst (λ ls. is_in lit ls ≡ true) (sym found.2) among) in
        named.0;
    in_trail = λ k entry g. absurd (cc);
  };
})

pub begin_prefix : (formula : Formula) (clauses : Store) → clauses ≡ given formula → HasPrefix formula clauses
begin_prefix formula clauses e = record { all = λ k clause at. rw e (given_at formula.clauses k clause at) }

pub measure_down : (w old new : ℕ) (a b : Bool) → old < new → new < w → (w - new) + (w - new) + (if a then 0 else 1) < (w - old) + (w - old) + (if b then 0 else 1)
measure_down w old new true true h k = omega arith
measure_down w old new true false h k = omega arith
measure_down w old new false true h k = omega arith
measure_down w old new false false h k = omega arith

-- one more clause is satisfied
pub satisfied_more : (bits : List Bool) (clauses : List Clause) (place : ℕ) (clause : Clause) → slice_get clauses place ≡ Some clause → clause_bit bits clause ≡ true
    → list_all (clause_bit bits) (take place clauses) ≡ true → list_all (clause_bit bits) (take (suc place) clauses) ≡ true
satisfied_more bits [] place clause at on all = absurd (cc)
satisfied_more bits (c ∷ cs) zero clause at on all = let same : c ≡ clause = cc in rw (same, on) refl
satisfied_more bits (c ∷ cs) (suc place) clause at on all =
    let parts = and_parts (clause_bit bits c) (list_all (clause_bit bits) (take place cs)) all in
    rw (parts.0, satisfied_more bits cs place clause at on parts.1) refl
