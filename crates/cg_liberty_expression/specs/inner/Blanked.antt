-- Readings without their terms: where they stand, and that alone.
use Rattle.std.specs.Prelude.{ℕ, Bool, false, if◌then◌else◌, ◌&&◌, not, slice_index, List, [], ◌∷◌, map, Result, Ok, Err}
use Rattle.std.specs.List.{list_any}
use Rattle.std.specs.Str.{bytes_eq}
use Rattle.cg_cell.specs.Term.{Bit}
use Rattle.cg_liberty_expression.specs.Reading.{Expects, Has, Mode, Pending, OrLeft, AndLeft, XorLeft, Inversion, Bracket}
use Rattle.cg_liberty_expression.specs.Tokens.{TokenKind, Token, Word, is_digit, is_letter}
use Rattle.cg_liberty_expression.specs.declared.fault.ExprFault.{ExprFault}

abbrev pub blank : Pending → Pending
blank (OrLeft t) = OrLeft (Bit false)
blank (AndLeft t) = AndLeft (Bit false)
blank (XorLeft t) = XorLeft (Bit false)
blank Inversion = Inversion
blank Bracket = Bracket

abbrev pub blanks : List Pending → List Pending
blanks pending = map blank pending

abbrev pub blank_mode : Mode → Mode
blank_mode (Expects pending) = Expects (blanks pending)
blank_mode (Has t pending) = Has (Bit false) (blanks pending)

abbrev pub blanked : Result Mode ExprFault → Result Mode ExprFault
blanked (Ok mode) = Ok (blank_mode mode)
blanked (Err fault) = Err fault

-- whether a word is one of the names
abbrev pub is_known : List (List ℕ) → List ℕ → Bool
is_known names word = not (is_digit (slice_index word 0)) && (is_letter (slice_index word 0) && list_any (bytes_eq word) names)

-- a word that is one of the names gives its place to the constant 1
abbrev pub stand_in : List (List ℕ) → TokenKind → TokenKind
stand_in names (Word word) = Word (if is_known names word then 49 ∷ [] else word)
stand_in names kind = kind

abbrev pub with_constants : List (List ℕ) → Token → Token
with_constants names token = record { at = token.at; kind = stand_in names token.kind }
