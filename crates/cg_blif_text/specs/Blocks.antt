-- The lines of a text in blocks: a line that is a command, and the rows behind it.
use Rattle.std.specs.Prelude.{Bool, true, false, List, [], ◌∷◌}
use Rattle.cg_text.specs.declared.lines.Line.{Line}
use Rattle.cg_blif_text.specs.Commands.{are_row}

-- a command, and the lines behind it up to the next command
pub record Block : Type 0 where
  pub head : Line
  pub rows : List Line

-- lines in blocks, and the lines before the first command
pub record Cut : Type 0 where
  pub rows : List Line
  pub blocks : List Block

abbrev pub put_in : Bool → Line → Cut → Cut
put_in true line later = record { rows = line ∷ later.rows; blocks = later.blocks }
put_in false line later = record { rows = []; blocks = record { head = line; rows = later.rows } ∷ later.blocks }

abbrev pub cut : List Line → Cut
cut [] = record { rows = []; blocks = [] }
cut (line ∷ later) = put_in (are_row line.words) line (cut later)
