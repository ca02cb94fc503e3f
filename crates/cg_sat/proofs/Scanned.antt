-- A clause looked at literal by literal.
use Rattle.std.proofs.Common.{◌≡◌, ℕ, ◌+◌, ◌<◌, Bool, true, false, not, ◌||◌, ◌&&◌, List, [], ◌∷◌, ◌++◌, inl, inr, refl, sym, ap, ◌∙◌}
use Rattle.std.proofs.Common.{subst, length, take, get_or, add-one}
use Rattle.std.proofs.Math.Seq.{take-suc}
use Rattle.cg_formula.specs.declared.formula.Lit.{Lit}
use Rattle.cg_formula.specs.Lits.{inverse, same_lit, is_in}
use Rattle.cg_formula.proofs.Members.{same_lit_equal}
use Rattle.cg_sat.proofs.Marks.{blank_lit}
use Rattle.cg_sat.specs.declared.scan.Found.{Found}
use Rattle.cg_sat.specs.declared.scan.Found.TheVariants.{Another, One, Nothing}
use Rattle.cg_sat.specs.inner.Scan.{Finds, rest_found}
use Rattle.cg_formula.proofs.Members.{pushed_in, in_pushed, last_in}

-- one more literal, which is false
pub finds_false : (trues front : List Lit) (given lit : Lit) (found : Found) → is_in (inverse lit) trues ≡ true → Finds trues front given found → Finds trues (front ++ lit ∷ []) given found
finds_false trues front given lit (Another other) off finds = tt
finds_false trues front given lit One off finds = record {
  among = in_pushed given lit front finds.among;
  others = λ other e. elim (pushed_in other lit front e) [ inl early ↦ finds.others other early | inr same ↦ inr (subst (λ l. is_in (inverse l) trues ≡ true) (sym same) off) ];
}
finds_false trues front given lit Nothing off finds = record {
  all = λ other e. elim (pushed_in other lit front e) [ inl early ↦ finds.all other early | inr same ↦ subst (λ l. is_in (inverse l) trues ≡ true) (sym same) off ];
}

-- one more literal, the given one
pub finds_given : (trues front : List Lit) (given : Lit) (found : Found) → ((other : Lit) → found ≡ Another other → ⊥) → Finds trues front given found → Finds trues (front ++ given ∷ []) given One
finds_given trues front given (Another other) off finds = absurd (off other refl)
finds_given trues front given One off finds = record {
  among = last_in given front;
  others = λ other e. elim (pushed_in other given front e) [ inl early ↦ finds.others other early | inr same ↦ inl same ];
}
finds_given trues front given Nothing off finds = record {
  among = last_in given front;
  others = λ other e. elim (pushed_in other given front e) [ inl early ↦ inr (finds.all other early) | inr same ↦ inl same ];
}

pub take_one_more : (lits : List Lit) (i : ℕ) (lit : Lit) → i < length lits → lit ≡ get_or lits i lit → take (i + 1) lits ≡ take i lits ++ lit ∷ []
take_one_more lits i lit within e = rw add-one (take-suc lits i lit within ∙ ap (λ l. take i lits ++ l ∷ []) (sym e))

more_whole : (clause : List Lit) (i : ℕ) → i < length clause → take (i + 1) clause ≡ take i clause ++ get_or clause i blank_lit ∷ []
more_whole clause i within = rw add-one (take-suc clause i blank_lit within)

pub more_given : (trues clause : List Lit) (given : Lit) (found : Found) (i : ℕ) → i < length clause → same_lit (get_or clause i blank_lit) given ≡ true → ((other : Lit) → found ≡ Another other → ⊥)
    → Finds trues (take i clause) given found → Finds trues (take (i + 1) clause) given One
more_given trues clause given found i within same early finds =
    let e : get_or clause i blank_lit ≡ given = same_lit_equal (get_or clause i blank_lit) given same in
    let whole : take (i + 1) clause ≡ take i clause ++ given ∷ [] = more_whole clause i within ∙ ap (λ l. take i clause ++ l ∷ []) e in
    subst (λ ls. Finds trues ls given One) (sym whole) (finds_given trues (take i clause) given found early finds)

pub more_false : (trues clause : List Lit) (given : Lit) (found : Found) (i : ℕ) → i < length clause → is_in (inverse (get_or clause i blank_lit)) trues ≡ true
    → Finds trues (take i clause) given found → Finds trues (take (i + 1) clause) given found
more_false trues clause given found i within off finds =
    subst (λ ls. Finds trues ls given found) (sym (more_whole clause i within)) (finds_false trues (take i clause) given (get_or clause i blank_lit) found off finds)

found_one : (left : Bool) (other : Lit) → rest_found left ≡ Another other → ⊥
found_one true other e = cc
found_one false other e = cc

-- one more literal, after which all but the given one are false still
pub rest_more : (trues clause : List Lit) (given : Lit) (more left off same : Bool) (i : ℕ) → i < length clause → is_in (inverse (get_or clause i blank_lit)) trues ≡ off
    → same_lit (get_or clause i blank_lit) given ≡ same → (more ≡ false → Finds trues (take i clause) given (rest_found left))
    → (more || (not off && not same)) ≡ false → Finds trues (take (i + 1) clause) given (rest_found (left || not off))
rest_more trues clause given true left off same i within o s before e = cc
rest_more trues clause given false true true same i within o s before e = more_false trues clause given One i within o (before refl)
rest_more trues clause given false false true same i within o s before e = more_false trues clause given Nothing i within o (before refl)
rest_more trues clause given false true false true i within o s before e = more_given trues clause given One i within s (found_one true) (before refl)
rest_more trues clause given false false false true i within o s before e = more_given trues clause given Nothing i within s (found_one false) (before refl)
rest_more trues clause given false left false false i within o s before e = cc
