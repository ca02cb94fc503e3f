-- What stands before the first item that passes a test, told by its place.
use Rattle.std.proofs.Common.{◌≡◌, ℕ, Bool, true, false, cond, List, length, take, nat_lt, Some, None, refl, sym, ap}
use Rattle.std.specs.List.{position, position_or_len, before_first}
use Rattle.std.proofs.lemmas.Bool.{ltb-false}
use Rattle.std.proofs.lemmas.List.{take_all}

pub before_place : (test : ℕ → Bool) (xs : List ℕ) (at : ℕ) → position test xs ≡ Some at → take at xs ≡ before_first test xs
before_place test xs at e = pick (nat_lt (position_or_len test xs) (length xs)) e where
  pick : (b : Bool) → cond b (Some (position_or_len test xs)) None ≡ Some at → take at xs ≡ before_first test xs
  pick true there = let same : position_or_len test xs ≡ at = cc in ap (λ n. take n xs) (sym same)
  pick false there = absurd (cc)

pub before_none : (test : ℕ → Bool) (xs : List ℕ) → position test xs ≡ None → xs ≡ before_first test xs
before_none test xs e = pick (nat_lt (position_or_len test xs) (length xs)) refl e where
  pick : (b : Bool) → nat_lt (position_or_len test xs) (length xs) ≡ b → cond b (Some (position_or_len test xs)) None ≡ None → xs ≡ before_first test xs
  pick true f there = absurd (cc)
  pick false f there = sym (take_all (position_or_len test xs) xs (ltb-false (position_or_len test xs) (length xs) f))
