-- The words of many lines in a row, each with the number of its line.
use Rattle.std.specs.Prelude.{ℕ, List, map}
use Rattle.std.specs.List.{flat_map}
use Rattle.cg_text.specs.declared.lines.Line.{Line}
use Rattle.cg_text.specs.declared.tokens.Token.{Token}

-- a word and the number of its line
pub record Spot : Type 0 where
  pub line : ℕ
  pub text : List ℕ

abbrev pub spot_of : Token → Spot
spot_of token = record { line = token.line; text = token.text.now }

abbrev pub line_spots : Line → List Spot
line_spots line = map (λ word. record { line = line.number; text = word }) line.words

abbrev pub spots_of : List Line → List Spot
spots_of ls = flat_map line_spots ls

-- what a reader of words has left: words, and the number of the line behind the last
pub record SpotsLeft : Type 0 where
  pub left : List Spot
  pub end : ℕ

abbrev pub texts_of : List Spot → List (List ℕ)
texts_of spots = map (λ spot. spot.text) spots
