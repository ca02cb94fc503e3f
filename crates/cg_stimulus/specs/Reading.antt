-- Reading a stimulus text: the rows, or the first fault.
use Rattle.std.specs.Prelude.{ℕ, ◌+◌, ◌==◌, ◌&&◌, ◌||◌, not, Bool, List, [], ◌∷◌, ◌++◌, map, length, nat_eq, nat_lt, slice_index_or}
use Rattle.std.specs.Prelude.{Result, Ok, Err, Option, Some, None, codes, if◌then◌else◌}
use Rattle.std.specs.List.{list_all, position}
use Rattle.std.specs.Str.{bytes_eq}
use lib.Pointwise.{pointwise}
use Rattle.cg_text.specs.declared.lines.Line.{Line}
use Rattle.cg_limit.specs.declared.Limit.TheVariants as limits
use Rattle.cg_limit.specs.declared.TheConstants.{MOST_ROWS}
use Rattle.cg_net.specs.Names.{is_known}
use Rattle.cg_stimulus.specs.declared.fault.StimulusFault.{StimulusFault}
use Rattle.cg_stimulus.specs.declared.header.Header.{Header}
use Rattle.cg_stimulus.specs.declared.fault.StimulusFault.TheVariants.{BadName, MissingInput, BadRow, Limit}
use Rattle.cg_stimulus.specs.Lines.{stimulus_lines}
use Rattle.cg_stimulus.specs.Fault.{◌>>=◌}

-- the place of a name among names
abbrev pub column_of : List (List ℕ) → List ℕ → Option ℕ
column_of names name = position (pointwise nat_eq name) names

-- the names behind `inputs`, each a data input that stands among them once; those before were read already
abbrev pub names_from : ℕ → List (List ℕ) → List (List ℕ) → List (List ℕ) → Result (List (List ℕ)) StimulusFault
names_from line inputs before [] = Ok before
names_from line inputs before (w ∷ ws) =
    if is_known inputs w && not (is_known before w) then names_from line inputs (before ++ w ∷ []) ws else Err (BadName line)

-- a column before later ones, or the input that has none
abbrev pub put_column : List ℕ → Option ℕ → Result (List ℕ) StimulusFault → Result (List ℕ) StimulusFault
put_column input None later = Err (MissingInput input)
put_column input (Some column) later = later >>= λ columns. Ok (column ∷ columns)

-- for each data input the place of its name in the text, and so of its bit in a row
abbrev pub columns_of : List (List ℕ) → List (List ℕ) → Result (List ℕ) StimulusFault
columns_of names [] = Ok []
columns_of names (input ∷ later) = put_column input (column_of names input) (columns_of names later)

-- what the first line says: how many names stand in it, and the column of each data input
abbrev pub header_of : ℕ → List (List ℕ) → List (List ℕ) → Result Header StimulusFault
header_of line inputs [] = Err (BadRow line)
header_of line inputs (w ∷ ws) =
    if bytes_eq w (codes "inputs") then (names_from line inputs [] ws >>= λ names. columns_of names inputs >>= λ columns. Ok (record {
      count = length names;
      columns = columns;
    }))
    else Err (BadRow line)

abbrev pub is_bit_byte : ℕ → Bool
is_bit_byte b = b == 48 || b == 49

-- a word says a row: a `0` or `1` for each name, or `-` where there is none
abbrev pub says_row : Header → List ℕ → Bool
says_row header word =
    if header.count == 0 then bytes_eq word (codes "-") else length word == header.count && list_all is_bit_byte word

-- the bits of a row, in the order of the data inputs
abbrev pub bits_of : Header → List ℕ → List Bool
bits_of header word = map (λ column. slice_index_or word column 0 == 49) header.columns

abbrev pub row_of : ℕ → Header → List (List ℕ) → Result (List Bool) StimulusFault
row_of line header [] = Err (BadRow line)
row_of line header (w ∷ []) = if says_row header w then Ok (bits_of header w) else Err (BadRow line)
row_of line header (w ∷ v ∷ ws) = Err (BadRow line)

-- the rows of these lines, behind this many others
abbrev pub rows_of : Header → ℕ → List Line → Result (List (List Bool)) StimulusFault
rows_of header count [] = Ok []
rows_of header count (line ∷ later) = row_of line.number header line.words >>= λ row.
    if nat_lt count MOST_ROWS then (rows_of header (count + 1) later >>= λ rows. Ok (row ∷ rows)) else Err (Limit limits.Rows)

abbrev pub rows_in : List (List ℕ) → List Line → Result (List (List Bool)) StimulusFault
rows_in inputs [] = Err (BadRow 0)
rows_in inputs (line ∷ later) = header_of line.number inputs line.words >>= λ header. rows_of header 0 later

-- the rows that a text stands for, where the data inputs have these names, or its first fault
abbrev pub stimulus : List (List ℕ) → List ℕ → Result (List (List Bool)) StimulusFault
stimulus inputs text = rows_in inputs (stimulus_lines text)
