-- The stimulus texts of rows, said of their lines.
use Rattle.std.specs.Prelude.{◌≡◌, ◌≤◌, ◌==◌, ℕ, true, false, Bool, List, ◌∷◌, [], length, slice_get, Some, codes, if◌then◌else◌}
use Rattle.std.specs.List.{AllByRecursion, AllZip, list_all}
use Rattle.cg_text.specs.declared.lines.Line.{Line}
use Rattle.cg_limit.specs.declared.TheConstants.{MOST_ROWS}
use Rattle.cg_net.specs.Names.{is_known}
use Rattle.cg_stimulus.specs.Lines.{stimulus_lines}
use Rattle.cg_stimulus.specs.Reading.{is_bit_byte}

-- a bit as a byte
abbrev pub bit_byte : Bool → ℕ
bit_byte bit = if bit then 49 else 48

-- no name stands twice
abbrev pub StandOnce : List (List ℕ) → Type 0
StandOnce [] = Unit {0}
StandOnce (name ∷ later) = (is_known later name ≡ false) × StandOnce later

-- at the place of the data input's name among the names stands its bit in the word
pub record ShowsBit (names : List (List ℕ)) (word : List ℕ) (input : List ℕ) (bit : Bool) : Type 0 where
  pub place : ℕ
  pub named : slice_get names place ≡ Some input
  pub shown : slice_get word place ≡ Some (bit_byte bit)

-- a line says a row of the data inputs: it is one word, `-` where there is no name, with a `0` or a `1` for each name, and
-- each data input has the bit at the place of its name
pub record SaysRow (inputs names : List (List ℕ)) (line : Line) (row : List Bool) : Type 0 where
  pub word : List ℕ
  pub alone : line.words ≡ (if length names == 0 then codes "-" else word) ∷ []
  pub count : length word ≡ length names
  pub bytes : list_all is_bit_byte word ≡ true
  pub bits : AllZip (ShowsBit names word) inputs row

-- the text stands for the rows, where the data inputs have these names: its first line has the word `inputs` and each name
-- once, in any order, and each other line says a row
pub record StimText (inputs : List (List ℕ)) (text : List ℕ) (rows : List (List Bool)) : Type 0 where
  pub first : Line
  pub later : List Line
  pub names : List (List ℕ)
  pub lines : stimulus_lines text ≡ first ∷ later
  pub headed : first.words ≡ codes "inputs" ∷ names
  pub once : StandOnce names
  pub known : AllByRecursion (λ name. is_known inputs name ≡ true) names
  pub all : AllByRecursion (λ input. is_known names input ≡ true) inputs
  pub say : AllZip (SaysRow inputs names) later rows
  pub few : length rows ≤ MOST_ROWS
