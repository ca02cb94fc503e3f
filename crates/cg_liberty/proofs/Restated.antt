-- What a register's function is over its own pins.
use Rattle.std.proofs.Common.{◌≡◌, ◌≤◌, ◌<◌, ◌+◌, ◌-◌, ◌==◌, ℕ, zero, suc, nat_lt, Bool, true, false, cond, ◌&&◌, IsTrue, List, []}
use Rattle.std.proofs.Common.{◌∷◌, map, refl, ap, arith}
use Rattle.std.proofs.lemmas.Bool.Decides.{nat_tests}
use Rattle.cg_cell.specs.Term.{Term, Bit, Input, Inverse, Both, Either, Differ, inverse_times, is_within, join_all, join_left}
use Rattle.cg_liberty.specs.Kinds.{restated, slot}
use Rattle.std.proofs.lemmas.Bool.{and_from}

-- signs of inversion stay
pub restated-inverse_times : (inputs clock signs : ℕ) (t : Term) → restated inputs clock (inverse_times signs t) ≡ inverse_times signs (restated inputs clock t)
restated-inverse_times inputs clock zero t = refl
restated-inverse_times inputs clock (suc signs) t = ap Inverse (restated-inverse_times inputs clock signs t)

-- operands of one level stay on it
both_left : (inputs clock : ℕ) (t : Term) (ts : List Term) → restated inputs clock (join_left Both t ts) ≡ join_left Both (restated inputs clock t) (map (restated inputs clock) ts)
both_left inputs clock t [] = refl
both_left inputs clock t (u ∷ us) = both_left inputs clock (Both t u) us

pub restated-both : (inputs clock : ℕ) (ts : List Term) → restated inputs clock (join_all Both (Bit true) ts) ≡ join_all Both (Bit true) (map (restated inputs clock) ts)
restated-both inputs clock [] = refl
restated-both inputs clock (t ∷ ts) = both_left inputs clock t ts

either_left : (inputs clock : ℕ) (t : Term) (ts : List Term) → restated inputs clock (join_left Either t ts) ≡ join_left Either (restated inputs clock t) (map (restated inputs clock) ts)
either_left inputs clock t [] = refl
either_left inputs clock t (u ∷ us) = either_left inputs clock (Either t u) us

pub restated-either : (inputs clock : ℕ) (ts : List Term) → restated inputs clock (join_all Either (Bit false) ts) ≡ join_all Either (Bit false) (map (restated inputs clock) ts)
restated-either inputs clock [] = refl
restated-either inputs clock (t ∷ ts) = either_left inputs clock t ts

differ_left : (inputs clock : ℕ) (t : Term) (ts : List Term) → restated inputs clock (join_left Differ t ts) ≡ join_left Differ (restated inputs clock t) (map (restated inputs clock) ts)
differ_left inputs clock t [] = refl
differ_left inputs clock t (u ∷ us) = differ_left inputs clock (Differ t u) us

pub restated-differ : (inputs clock : ℕ) (ts : List Term) → restated inputs clock (join_all Differ (Bit false) ts) ≡ join_all Differ (Bit false) (map (restated inputs clock) ts)
restated-differ inputs clock [] = refl
restated-differ inputs clock (t ∷ ts) = differ_left inputs clock t ts

pub ruleset steps = (restated-inverse_times, restated-both, restated-either, restated-differ)

-- the function of a cell is over its own pins
slot_at : (inputs clock k : ℕ) (inverse later : Bool) → (inverse ≡ true → k ≡ inputs + 1) → (inverse ≡ false → k < inputs + 1) → (later ≡ true → clock < k) → (later ≡ false → k ≤ clock) → clock < inputs → IsTrue (is_within inputs (cond inverse (Inverse (Input (inputs - 1))) (cond later (Input (k - 1)) (Input k))))
slot_at inputs clock k true later is below after before inside = let e : inputs - 1 < inputs = omega arith in grind (arith, nat_tests)
slot_at inputs clock k false true is below after before inside = let e : k - 1 < inputs = omega (arith, below refl, after refl) in grind (arith, nat_tests)
slot_at inputs clock k false false is below after before inside = let e : k < inputs = omega (arith, before refl) in grind (arith, nat_tests)

slot_within : (inputs clock k : ℕ) → clock < inputs → nat_lt k (inputs + 2) ≡ true → IsTrue (is_within inputs (slot inputs clock k))
slot_within inputs clock k inside range = slot_at inputs clock k (k == inputs + 1) (nat_lt clock k) (λ e. grind (arith, nat_tests)) (λ e. grind (arith, nat_tests)) (λ e. grind (arith, nat_tests)) (λ e. grind (arith, nat_tests)) inside

left_of : (a b : Bool) → (a && b) ≡ true → a ≡ true
left_of true b e = refl
left_of false b e = e

right_of : (a b : Bool) → (a && b) ≡ true → b ≡ true
right_of true b e = e
right_of false b e = absurd_of e
  where
    absurd_of : false ≡ true → b ≡ true
    absurd_of e = cc

pub restated_within : (inputs clock : ℕ) (t : Term) → clock < inputs → IsTrue (is_within (inputs + 2) t) → IsTrue (is_within inputs (restated inputs clock t))
restated_within inputs clock (Bit bit) inside range = refl
restated_within inputs clock (Input k) inside range = slot_within inputs clock k inside range
restated_within inputs clock (Inverse t) inside range = restated_within inputs clock t inside range
restated_within inputs clock (Both s t) inside range = and_from (is_within inputs (restated inputs clock s)) (is_within inputs (restated inputs clock t)) (restated_within inputs clock s inside (left_of (is_within (inputs + 2) s) (is_within (inputs + 2) t) range)) (restated_within inputs clock t inside (right_of (is_within (inputs + 2) s) (is_within (inputs + 2) t) range))
restated_within inputs clock (Either s t) inside range = and_from (is_within inputs (restated inputs clock s)) (is_within inputs (restated inputs clock t)) (restated_within inputs clock s inside (left_of (is_within (inputs + 2) s) (is_within (inputs + 2) t) range)) (restated_within inputs clock t inside (right_of (is_within (inputs + 2) s) (is_within (inputs + 2) t) range))
restated_within inputs clock (Differ s t) inside range = and_from (is_within inputs (restated inputs clock s)) (is_within inputs (restated inputs clock t)) (restated_within inputs clock s inside (left_of (is_within (inputs + 2) s) (is_within (inputs + 2) t) range)) (restated_within inputs clock t inside (right_of (is_within (inputs + 2) s) (is_within (inputs + 2) t) range))
