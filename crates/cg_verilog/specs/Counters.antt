-- Numbers by their decimal digits, from the lowest on.
use Rattle.std.specs.Prelude.{◌≡◌, ℕ, ◌+◌, ◌*◌, ◌<◌, List, [], ◌∷◌}

abbrev pub value_of : List ℕ → ℕ
value_of [] = 0
value_of (digit ∷ digits) = digit + 10 * value_of digits

-- digits above the lowest: each is below 10, and the highest is no zero
abbrev pub AreHigher : List ℕ → Type 0
AreHigher [] = Unit {0}
AreHigher (digit ∷ digits) = (digit < 10) × (digits ≡ [] → 0 < digit) × AreHigher digits

-- the digits of a number: there is a lowest one
abbrev pub AreDigits : List ℕ → Type 0
AreDigits [] = ⊥
AreDigits (digit ∷ digits) = (digit < 10) × AreHigher digits
