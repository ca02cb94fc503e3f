-- A logical line, as a reader puts it together of physical lines.
use Rattle.std.specs.Prelude.{◌≡◌, ℕ, Bool, true, false, List, [], ◌∷◌, ◌++◌}
use Rattle.std.specs.List.{list_all}
use Rattle.cg_cell.specs.Name.{is_name}
use Rattle.cg_text.specs.Lines.{put_line}
use Rattle.cg_text.specs.Words.{words}
use Rattle.cg_text.specs.declared.blanks.Blanks.TheVariants.{Controls}
use Rattle.cg_text.specs.declared.lines.Line.{Line}
use Rattle.cg_blif_text.specs.LogicalLines.{Logical, word_lines}
use Rattle.cg_blif_text.specs.declared.fault.BlifFault.{BlifFault}
use Rattle.cg_blif_text.specs.declared.fault.BlifFault.TheVariants.{BadLine, NoMemory}

-- the words of a line
abbrev pub words_in : List ℕ → List (List ℕ)
words_in line = words Controls line

-- what is left where a line of this number has begun with these words, and the next lines go on with it
abbrev pub begun : ℕ → List (List ℕ) → List Logical → List Line
begun number front [] = put_line number front []
begun number front (next ∷ later) = put_line number (front ++ words_in next.bytes) (word_lines later)

-- words were put behind others: all of them, each a name, or some of them up to one that is no name
abbrev pub PushedWords : List (List ℕ) → List (List ℕ) → List (List ℕ) → Bool → Type 0
PushedWords old more new true = (new ≡ old ++ more) × (list_all is_name new ≡ true)
PushedWords old more new false = list_all is_name more ≡ false

-- the next line has this number, and a word that is no name
pub record IsUnnamed (left : List Line) (number : ℕ) : Type 0 where
  pub words : List (List ℕ)
  pub later : List Line
  pub next : left ≡ record { number = number; words = words } ∷ later
  pub unnamed : list_all is_name words ≡ false

abbrev pub IsUnnamedLine : List Line → BlifFault → Type 0
IsUnnamedLine left (BadLine number) = IsUnnamed left number
IsUnnamedLine left NoMemory = Unit {0}
IsUnnamedLine left fault = ⊥
