-- Levels of operators that are one input and nothing else.
use Rattle.std.proofs.Common.{◌≡◌, ℕ, zero, suc, true, false, List, [], ◌∷◌, None, refl}
use Rattle.cg_cell.specs.Term.{Term, Bit, Both, Either, Differ, inverse_times, join_all, join_left, lone_among, lone_input}

both_none : (s t : Term) (ts : List Term) → lone_input (join_left Both (Both s t) ts) ≡ None
both_none s t [] = refl
both_none s t (u ∷ us) = both_none (Both s t) u us

either_none : (s t : Term) (ts : List Term) → lone_input (join_left Either (Either s t) ts) ≡ None
either_none s t [] = refl
either_none s t (u ∷ us) = either_none (Either s t) u us

differ_none : (s t : Term) (ts : List Term) → lone_input (join_left Differ (Differ s t) ts) ≡ None
differ_none s t [] = refl
differ_none s t (u ∷ us) = differ_none (Differ s t) u us

pub lone_both : (ts : List Term) → lone_input (join_all Both (Bit true) ts) ≡ lone_among ts
lone_both [] = refl
lone_both (t ∷ []) = refl
lone_both (t ∷ u ∷ us) = both_none t u us

pub lone_either : (ts : List Term) → lone_input (join_all Either (Bit false) ts) ≡ lone_among ts
lone_either [] = refl
lone_either (t ∷ []) = refl
lone_either (t ∷ u ∷ us) = either_none t u us

pub lone_differ : (ts : List Term) → lone_input (join_all Differ (Bit false) ts) ≡ lone_among ts
lone_differ [] = refl
lone_differ (t ∷ []) = refl
lone_differ (t ∷ u ∷ us) = differ_none t u us

pub ruleset alone = (lone_both, lone_either, lone_differ)

-- what is inverted is no input
pub lone_inverse : (signs : ℕ) (t : Term) → (signs ≡ 0 → ⊥) → lone_input (inverse_times signs t) ≡ None
lone_inverse zero t some = absurd (some refl)
lone_inverse (suc signs) t some = refl
