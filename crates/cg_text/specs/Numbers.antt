-- Numbers in decimal digits.
use Rattle.std.specs.Prelude.{ℕ, ◌+◌, ◌-◌, ◌*◌, ◌^◌, ◌==◌, ◌&&◌, ◌||◌, not, Bool, List, [], ◌∷◌, length, if◌then◌else◌, nat_lt}
use Rattle.std.specs.Prelude.{slice_index}
use Rattle.std.specs.Str.{all_ascii_digits}
use Rattle.cg_text.specs.declared.number.Number.{Number}
use Rattle.cg_text.specs.declared.number.Number.TheVariants.{Small, Large, Misspelled}

-- the word is a number: decimal digits without a leading zero, `0` itself apart
abbrev pub is_number : List ℕ → Bool
is_number word = not (length word == 0) && (not (slice_index word 0 == 48) || length word == 1) && all_ascii_digits word

-- the number that digits go on with, after the digits of n
abbrev pub digits_after : ℕ → List ℕ → ℕ
digits_after n [] = n
digits_after n (c ∷ cs) = digits_after (10 * n + (c - 48)) cs

-- what a word says as a number, told apart at 2 ^ 64
abbrev pub number_of : List ℕ → Number
number_of word =
    if is_number word then (if nat_lt (digits_after 0 word) (2 ^ 64) then Small (digits_after 0 word) else Large) else Misspelled
