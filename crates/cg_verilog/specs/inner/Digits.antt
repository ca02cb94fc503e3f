-- Digits of a number, as they are counted up and down, compared and written.
use Rattle.std.specs.Prelude.{ℕ, ◌+◌, ◌-◌, ◌==◌, Bool, true, false, not, ◌&&◌, if◌then◌else◌, nat_lt, List, [], ◌∷◌, ◌++◌}

-- the digits that bytes write, the lowest first
abbrev pub lowest_first : List ℕ → List ℕ
lowest_first [] = []
lowest_first (byte ∷ bytes) = lowest_first bytes ++ (byte - 48) ∷ []

-- the bytes that write digits, the highest first
abbrev pub written : List ℕ → List ℕ
written [] = []
written (digit ∷ digits) = written digits ++ (48 + digit) ∷ []

-- digits with one more, if one is carried to them
abbrev pub raised : Bool → List ℕ → List ℕ
raised false digits = digits
raised true [] = 1 ∷ []
raised true (digit ∷ digits) = if digit == 9 then 0 ∷ raised true digits else (digit + 1) ∷ digits

-- digits with one less, if one is borrowed from them; a highest one that becomes zero is left out, unless it is the lowest
abbrev pub is_last : List ℕ → Bool
is_last [] = true
is_last (digit ∷ digits) = false

abbrev pub falls_away : Bool → ℕ → List ℕ → Bool
falls_away lowest digit digits = not lowest && (digit == 1 && is_last digits)

abbrev pub lowered : Bool → Bool → List ℕ → List ℕ
lowered lowest false digits = digits
lowered lowest true [] = []
lowered lowest true (digit ∷ digits) =
    if digit == 0 then 9 ∷ lowered false true digits
    else (if falls_away lowest digit digits then [] else (digit - 1) ∷ digits)

-- whether digits say at most the number of as many others, where the digits below them do or not
abbrev pub at_most : Bool → List ℕ → List ℕ → Bool
at_most below [] others = below
at_most below (digit ∷ digits) [] = below
at_most below (digit ∷ digits) (other ∷ others) = at_most (if digit == other then below else nat_lt digit other) digits others
