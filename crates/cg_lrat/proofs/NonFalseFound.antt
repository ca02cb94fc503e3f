-- Literals that are found one by one not to be false make what is not false of the list.
use Rattle.std.proofs.Common.{◌≡◌, ℕ, ◌≤◌, Bool, true, false, List, [], ◌∷◌, length, drop, refl, sym, ap, ◌∙◌, if◌then◌else◌}
use Rattle.std.proofs.Math.ListN.{drop_of_length-le}
use Rattle.std.specs.List.{list_all}
use Rattle.cg_formula.specs.declared.formula.Lit.{Lit}
use Rattle.cg_lrat.specs.declared.hint.NonFalse.{NonFalse}
use Rattle.cg_lrat.specs.declared.hint.NonFalse.TheVariants.{Nothing, One, Many}
use Rattle.cg_formula.specs.Lits.{same_lit}
use Rattle.cg_lrat.specs.inner.NonFalse.{with_lit}
use Rattle.cg_lrat.specs.Accepted.{non_false_of, non_false_lits}

abbrev pub non_false_on : NonFalse → List Lit → NonFalse
non_false_on found [] = found
non_false_on found (lit ∷ lits) = non_false_on (with_lit found lit) lits

many_stay : (lits : List Lit) → non_false_on Many lits ≡ Many
many_stay [] = refl
many_stay (lit ∷ lits) = many_stay lits

one_stays : (one : Lit) (lits : List Lit) → non_false_on (One one) lits ≡ (if list_all (same_lit one) lits then One one else Many)
one_stays one [] = refl
one_stays one (lit ∷ lits) = pick (one_stays one lits) (same_lit one lit) refl where
  pick : non_false_on (One one) lits ≡ (if list_all (same_lit one) lits then One one else Many)
      → (b : Bool) → same_lit one lit ≡ b
      → non_false_on (One one) (lit ∷ lits) ≡ (if list_all (same_lit one) (lit ∷ lits) then One one else Many)
  pick later true e = rw e later
  pick later false e = rw e (many_stay lits)

pub non_false_on_nothing : (lits : List Lit) → non_false_on Nothing lits ≡ non_false_of lits
non_false_on_nothing [] = refl
non_false_on_nothing (lit ∷ lits) = one_stays lit lits

-- where all literals are looked at, what was found is what is not false
pub non_false_found : (found : NonFalse) (trues clause : List Lit) (i : ℕ) → length clause ≤ i
    → non_false_on found (non_false_lits trues (drop i clause)) ≡ non_false_on Nothing (non_false_lits trues clause)
    → found ≡ non_false_of (non_false_lits trues clause)
non_false_found found trues clause i done so_far =
    let none : drop i clause ≡ [] = drop_of_length-le clause done in
    sym (ap (λ left. non_false_on found (non_false_lits trues left)) none) ∙ so_far ∙ non_false_on_nothing (non_false_lits trues clause)
