-- What a line is, by its first word.
use Rattle.std.specs.Prelude.{ℕ, Bool, true, ◌==◌, ◌||◌, not, if◌then◌else◌, List, [], ◌∷◌, slice_index, codes}
use Rattle.std.specs.Str.{bytes_eq}
use Rattle.cg_blif_text.specs.declared.statement.Command.{Command}
use Rattle.cg_blif_text.specs.declared.statement.Command.TheVariants.{Model, Inputs, Outputs, Clocks, Names, Latch, Gate, Skipped}
use Rattle.cg_blif_text.specs.declared.statement.Command.TheVariants.{End, Other}

-- the command of a first word
abbrev pub is_skipped : List ℕ → Bool
is_skipped word = bytes_eq word (codes ".cname") || bytes_eq word (codes ".attr") || bytes_eq word (codes ".param")

abbrev pub rarer_command : List ℕ → Command
rarer_command word =
    if bytes_eq word (codes ".model") then Model
    else (if bytes_eq word (codes ".inputs") then Inputs
    else (if bytes_eq word (codes ".outputs") then Outputs
    else (if bytes_eq word (codes ".clock") then Clocks
    else (if bytes_eq word (codes ".end") then End
    else (if is_skipped word then Skipped else Other)))))

abbrev pub command_of : List ℕ → Command
command_of word =
    if bytes_eq word (codes ".names") then Names
    else (if bytes_eq word (codes ".gate") then Gate
    else (if bytes_eq word (codes ".latch") then Latch
    else rarer_command word))

-- whether a line of these words is no command, and may be a row: its first word does not begin with `.`
abbrev pub are_row : List (List ℕ) → Bool
are_row [] = true
are_row (first ∷ words) = not (slice_index first 0 == 46)
