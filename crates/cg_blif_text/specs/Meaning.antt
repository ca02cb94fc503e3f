-- What a line says that is a command: a statement, or why it says none.
use Rattle.std.specs.Prelude.{ℕ, ◌+◌, ◌-◌, ◌==◌, if◌then◌else◌, List, [], ◌∷◌, length, map, nat_lt, take, slice_index_or, Result}
use Rattle.std.specs.Prelude.{Ok, Err}
use Rattle.std.specs.List.{list_all}
use Rattle.cg_cell.specs.Name.{is_name}
use Rattle.cg_limit.specs.declared.Limit.TheVariants.{CoverInputs}
use Rattle.cg_limit.specs.declared.TheConstants.{MOST_COVER_INPUTS}
use Rattle.cg_blif_text.specs.declared.statement.Command.{Command}
use Rattle.cg_blif_text.specs.declared.statement.Command.TheVariants as commands
use Rattle.cg_blif_text.specs.declared.fault.LineFault.{LineFault}
use Rattle.cg_blif_text.specs.declared.fault.LineFault.TheVariants.{BadLine, Limit}
use Rattle.cg_blif_text.specs.declared.statement.Statement.{Statement}
use Rattle.cg_blif_text.specs.declared.statement.Statement.TheVariants.{Model, Inputs, Outputs, Clocks, Names, Gate, Skipped, End}
use Rattle.cg_blif_text.specs.Commands.{command_of}
use Rattle.cg_blif_text.specs.Latches.{latch_line}
use Rattle.cg_blif_text.specs.PinWords.{pin_net}

-- all words but the last, and the last
abbrev pub front : List (List ℕ) → List (List ℕ)
front words = take (length words - 1) words

abbrev pub last : List (List ℕ) → List ℕ
last words = slice_index_or words (length words - 1) []

-- the nets of a `.names` line: the last is the output, and no more stand before it than a cover may have inputs
abbrev pub names_line : List (List ℕ) → Result Statement LineFault
names_line words =
    if length words == 0 then Err BadLine
    else (if nat_lt (1 + MOST_COVER_INPUTS) (length words) then Err (Limit CoverInputs) else Ok (Names (front words) (last words)))

-- the words behind a command
abbrev pub behind : Command → List (List ℕ) → Result Statement LineFault
behind commands.Model (name ∷ []) = Ok (Model name)
behind commands.Model words = Err BadLine
behind commands.Inputs words = Ok (Inputs words)
behind commands.Outputs words = Ok (Outputs words)
behind commands.Clocks words = Ok (Clocks words)
behind commands.Names words = names_line words
behind commands.Latch words = latch_line words
behind commands.Gate [] = Err BadLine
behind commands.Gate (cell ∷ words) = Ok (Gate cell (map pin_net words))
behind commands.Skipped words = Ok Skipped
behind commands.End [] = Ok End
behind commands.End (word ∷ words) = Err BadLine
behind commands.Other words = Err BadLine

-- the words of a line: none of them ends in `\`
abbrev pub meant : List (List ℕ) → Result Statement LineFault
meant [] = Err BadLine
meant (first ∷ words) = if list_all is_name (first ∷ words) then behind (command_of first) words else Err BadLine
