-- What a line may have wrong: a table of faults, each with when it applies to a line. The fault of a line is the first that
-- applies; the fault of lines is that of the first line that has one.
use Rattle.std.specs.Prelude.{◌≡◌, ℕ, ◌+◌, ◌-◌, Bool, true, false, ◌==◌, ◌&&◌, ◌||◌, not, if◌then◌else◌, List, [], ◌∷◌, ◌++◌}
use Rattle.std.specs.Prelude.{length, map, slice_index, codes, nat_le, nat_lt, is_none, is_some, Option, None, Some, Result, Ok}
use Rattle.std.specs.Prelude.{Err}
use Rattle.std.specs.List.{find, fold, list_all}
use Rattle.std.specs.Option.{option_map, option_map_or}
use Rattle.std.specs.Str.{bytes_eq}
use Rattle.cg_limit.specs.declared.Limit.TheVariants.{Nets, Registers, CoverInputs}
use Rattle.cg_limit.specs.declared.TheConstants.{MOST_COVER_INPUTS, MOST_NETS, MOST_REGISTERS}
use Rattle.cg_cell.specs.Cell.{CellData}
use Rattle.cg_cell.specs.Name.{is_name}
use Rattle.cg_cell.specs.declared.cell.CellKind.{CellKind}
use Rattle.cg_cell.specs.declared.cell.CellKind.TheVariants.{Unusable}
use Rattle.cg_text.specs.declared.lines.Line.{Line}
use Rattle.cg_netlist_parts.specs.Part.{Part}
use Rattle.cg_netlist_parts.specs.Said.{Said, with_part}
use Rattle.cg_netlist_parts.specs.Writable.{cell_named}
use Rattle.cg_blif_text.specs.declared.statement.Command.{Command}
use Rattle.cg_blif_text.specs.declared.statement.Command.TheVariants.{Model, Names, Latch, Gate, End, Other}
use Rattle.cg_blif_text.specs.declared.fault.BlifFault.{BlifFault}
use Rattle.cg_blif_text.specs.declared.fault.LineFault.{LineFault}
use Rattle.cg_blif_text.specs.declared.fault.LineFault.TheVariants.{BadLine, BadCover, BadLatch, Placed, SecondModel, Limit}
use Rattle.cg_netlist_placed.specs.declared.fault.PlacedFault.TheVariants.{UnknownCell, UnusableCell, PinFault}
use Rattle.cg_netlist_placed.specs.PinNets.{PinNet}
use Rattle.cg_netlist_placed.specs.Placed.{are_for_pins, nets_at, placed_part}
use Rattle.cg_blif_text.specs.declared.statement.Place.{Place}
use Rattle.cg_blif_text.specs.declared.statement.Place.TheVariants.{First, Unnamed, Named, Ended}
use Rattle.cg_blif_text.specs.declared.statement.Statement.{Statement}
use Rattle.cg_blif_text.specs.Commands.{are_row, command_of}
use Rattle.cg_blif_text.specs.Meaning.{behind}
use Rattle.cg_blif_text.specs.PinWords.{pin_net}
use Rattle.cg_blif_text.specs.Placing.{give_nets}
use Rattle.cg_blif_text.specs.Rows.{keeps_value, row_of}
use Rattle.cg_blif_text.specs.Telling.{LinesSaid, at, no_rows, said_by, tell_lines}

-- a line is a row of these words, or a command with these words behind it
pub data Form : Type 0 where
  Row : List (List ℕ) → Form
  Order : Command → List (List ℕ) → Form

abbrev pub form_of : List (List ℕ) → Form
form_of [] = Row []
form_of (first ∷ words) = if are_row (first ∷ words) then Row (first ∷ words) else Order (command_of first) words

-- the rows that may go on: how many inputs they have, and their value, if there are rows
pub record OpenRows : Type 0 where
  pub inputs : ℕ
  pub on : Option Bool

-- where a line stands: its place, the rows that it may go on with, and what the lines before it said
pub record Standing : Type 0 where
  pub place : Place
  pub rows : Option OpenRows
  pub said : Said

-- the line is no known command, or breaks its form
abbrev pub breaks_form : Form → Bool
breaks_form (Order Model (name ∷ [])) = false
breaks_form (Order Model words) = true
breaks_form (Order Names words) = length words == 0
breaks_form (Order Gate []) = true
breaks_form (Order End (word ∷ words)) = true
breaks_form (Order Other words) = true
breaks_form form = false

-- it stands where it may not: a first `.model` line behind other lines, or another command behind the `.end` line; or it is a
-- row without a `.names` line
abbrev pub is_misplaced : Form → Place → Bool
is_misplaced (Row words) place = false
is_misplaced (Order Model words) Unnamed = true
is_misplaced (Order Model words) place = false
is_misplaced (Order command words) Ended = true
is_misplaced (Order command words) place = false

abbrev pub is_lone_row : Form → Option OpenRows → Bool
is_lone_row (Row words) None = true
is_lone_row form rows = false

-- it is no row of its cover, or has another value than the rows before it
abbrev pub is_bad_row : Form → Option OpenRows → Bool
is_bad_row (Row words) (Some rows) = option_map_or (λ row. not (keeps_value rows.on row.value)) (row_of rows.inputs words) true
is_bad_row form rows = false

-- it is a `.latch` line of another type than `re`, with another init than 0 to 3, or with another number of words
abbrev pub is_init : List ℕ → Bool
is_init word = length word == 1 && nat_le 48 (slice_index word 0) && nat_le (slice_index word 0) 51

abbrev pub is_rising : List ℕ → Bool
is_rising word = bytes_eq word (codes "re")

abbrev pub is_register : List (List ℕ) → Bool
is_register (input ∷ output ∷ []) = true
is_register (input ∷ output ∷ init ∷ []) = is_init init
is_register (input ∷ output ∷ type ∷ control ∷ []) = is_rising type
is_register (input ∷ output ∷ type ∷ control ∷ init ∷ []) = is_rising type && is_init init
is_register words = false

abbrev pub is_bad_latch : Form → Bool
is_bad_latch (Order Latch words) = not (is_register words)
is_bad_latch form = false

-- it places a cell that the library does not have, or has by name alone, or whose pins it does not give
abbrev pub is_unknown : List CellData → Form → Bool
is_unknown library (Order Gate (cell ∷ words)) = is_none (cell_named library cell)
is_unknown library form = false

abbrev pub is_no_kind : CellKind → Bool
is_no_kind Unusable = true
is_no_kind kind = false

abbrev pub is_unusable : List CellData → Form → Bool
is_unusable library (Order Gate (cell ∷ words)) = option_map_or (λ c. is_no_kind c.kind) (cell_named library cell) false
is_unusable library form = false

abbrev pub gives_pins : CellData → List PinNet → Bool
gives_pins cell words =
    give_nets words && are_for_pins cell.pins words && is_some (placed_part cell.kind cell (nets_at cell.pins words))

abbrev pub is_pin_fault : List CellData → Form → Bool
is_pin_fault library (Order Gate (cell ∷ words)) =
    option_map_or (λ c. not (gives_pins c (map pin_net words))) (cell_named library cell) false
is_pin_fault library form = false

-- it is a `.model` line behind another one, or behind the `.end` line
abbrev pub is_second_model : Form → Place → Bool
is_second_model (Order Model words) Named = true
is_second_model (Order Model words) Ended = true
is_second_model form place = false

-- it is a `.names` line of too many inputs; the output is a word more
abbrev pub has_many_inputs : Form → Bool
has_many_inputs (Order Names words) = nat_lt (1 + MOST_COVER_INPUTS) (length words)
has_many_inputs form = false

-- the parts of the line, or none where it is at fault
abbrev pub parts_or_none : Result (List Part) LineFault → List Part
parts_or_none (Ok parts) = parts
parts_or_none (Err cause) = []

abbrev pub parts_meant : List CellData → Result Statement LineFault → List Part
parts_meant library (Ok statement) = parts_or_none (said_by library no_rows statement)
parts_meant library (Err cause) = []

abbrev pub parts_of : List CellData → Form → List Part
parts_of library (Order command words) = parts_meant library (behind command words)
parts_of library (Row words) = []

-- what was said with the parts of the line
abbrev pub said_with : List CellData → Said → Form → Said
said_with library s form = fold with_part s (parts_of library form)

-- The table: each fault, and whether it applies to a line of this form, whose words are all names or not
abbrev pub form_faults : List CellData → Standing → Bool → Form → List (LineFault × Bool)
form_faults library at_line named form =
    (BadLine, not named || breaks_form form || is_misplaced form at_line.place || is_lone_row form at_line.rows)
    ∷ (BadCover, is_bad_row form at_line.rows)
    ∷ (BadLatch, is_bad_latch form)
    ∷ (Placed UnknownCell, is_unknown library form)
    ∷ (Placed UnusableCell, is_unusable library form)
    ∷ (Placed PinFault, is_pin_fault library form)
    ∷ (SecondModel, is_second_model form at_line.place)
    ∷ (Limit CoverInputs, has_many_inputs form)
    ∷ (Limit Nets, nat_lt MOST_NETS (length (said_with library at_line.said form).nets))
    ∷ (Limit Registers, nat_lt MOST_REGISTERS (length (said_with library at_line.said form).registers))
    ∷ []

-- the first fault that applies
abbrev pub first_of : List (LineFault × Bool) → Option LineFault
first_of faults = option_map (λ entry. entry.0) (find (λ entry. entry.1) faults)

-- the fault of a line of these words that stands here
abbrev pub line_fault : List CellData → Standing → List (List ℕ) → Option LineFault
line_fault library at_line words = first_of (form_faults library at_line (list_all is_name words) (form_of words))

-- the rows that may go on behind a line
abbrev pub with_value : OpenRows → List (List ℕ) → OpenRows
with_value rows words = record { inputs = rows.inputs; on = option_map (λ row. row.value) (row_of rows.inputs words) }

abbrev pub rows_after : Option OpenRows → Form → Option OpenRows
rows_after None (Row words) = None
rows_after (Some rows) (Row words) = Some (with_value rows words)
rows_after rows (Order Names words) = Some (record { inputs = length words - 1; on = None })
rows_after rows (Order command words) = None

-- the place behind a line: a line behind a `.model` line, behind another first line, or behind the `.end` line
abbrev pub begun : Place → Place
begun First = Unnamed
begun place = place

abbrev pub place_after : Place → Form → Place
place_after place (Row words) = place
place_after place (Order Model words) = Named
place_after place (Order End words) = Ended
place_after place (Order command words) = begun place

-- where a line stands behind lines that told this
abbrev pub standing : List Line → LinesSaid → Standing
standing front told = record {
  place = fold (λ place line. place_after place (form_of line.words)) First front;
  rows = fold (λ rows line. rows_after rows (form_of line.words)) None front;
  said = told.said;
}

-- the first fault of lines: those before a line have none, and tell what they tell; the line has it
pub record IsFirstOfLines (library : List CellData) (lines : List Line) (fault : BlifFault) : Type 0 where
  pub front : List Line
  pub line : Line
  pub later : List Line
  pub told : LinesSaid
  pub cause : LineFault
  pub cut : lines ≡ front ++ line ∷ later
  pub before : tell_lines library front ≡ Ok told
  pub first : line_fault library (standing front told) line.words ≡ Some cause
  pub fault_is : fault ≡ at line.number cause
