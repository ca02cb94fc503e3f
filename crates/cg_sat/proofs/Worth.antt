-- Appending raises what a trail is worth, and so does an implied literal in a decision's place.
use Rattle.std.proofs.Common.{◌≡◌, ℕ, zero, suc, ◌+◌, ◌<◌, ◌≤◌, List, [], ◌∷◌, ◌++◌, Option, Some, None, length, arith}
use Rattle.cg_sat_state.specs.declared.trail.Entry.{Entry}
use Rattle.cg_sat.specs.inner.Worth.{weight, digit, worth}

weight_positive : (n : ℕ) → 0 < weight n
weight_positive zero = omega arith
weight_positive (suc n) = omega (arith, weight_positive n)

digit_within : (reason : Option ℕ) (one : ℕ) → (one ≤ digit reason one) × (digit reason one ≤ one + one)
digit_within (Some r) one = (omega arith, omega arith)
digit_within None one = (omega arith, omega arith)

pub worth_below : (n : ℕ) (trail : List Entry) → worth n trail < weight n
worth_below zero trail = omega arith
worth_below (suc n) [] = omega (arith, weight_positive n)
worth_below (suc n) (e ∷ later) =
    let d = digit_within e.reason (weight n) in
    omega (arith, worth_below n later, d.1)

pub worth_pushed : (n : ℕ) (trail : List Entry) (entry : Entry) → length trail < n → worth n trail < worth n (trail ++ entry ∷ [])
worth_pushed zero trail entry room = absurd (omega arith)
worth_pushed (suc n) [] entry room =
    let d = digit_within entry.reason (weight n) in
    omega (arith, weight_positive n, d.0)
worth_pushed (suc n) (e ∷ later) entry room = omega (arith, worth_pushed n later entry (omega arith))

pub worth_raised : (n : ℕ) (before behind : List Entry) (decision entry : Entry) (reason : ℕ) → length before < n → decision.reason ≡ None → entry.reason ≡ Some reason
    → worth n (before ++ decision ∷ behind) < worth n (before ++ entry ∷ [])
worth_raised zero before behind decision entry reason room off has = absurd (omega arith)
worth_raised (suc n) [] behind decision entry reason room off has = rw (off, has) (omega (arith, worth_below n behind))
worth_raised (suc n) (e ∷ later) behind decision entry reason room off has = omega (arith, worth_raised n later behind decision entry reason (omega arith) off has)
