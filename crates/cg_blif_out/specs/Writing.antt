-- The canonical text as it is written, line by line.
use Rattle.std.specs.Prelude.{ℕ, ◌≤◌, Bool, List, [], ◌∷◌, ◌++◌, map, Option, None, Some}
use Rattle.std.specs.List.{flat_map}
use Rattle.cg_text.specs.Written.{line_text, text_of}
use Rattle.cg_netlist.specs.declared.parts.LogicFunction.{LogicFunction}
use Rattle.cg_netlist.specs.declared.parts.LogicFunction.TheVariants.{Cover, Cell}
use Rattle.cg_netlist.specs.Circuit.{Circuit, LogicCell, GatingCell, RegisterCell}
use Rattle.cg_net.specs.Names.{NetName, net_name}
use Rattle.cg_netlist.specs.Wiring.{map_cell, map_gater, map_register}
use Rattle.cg_blif_text.specs.declared.statement.Statement.{Statement}
use Rattle.cg_blif_text.specs.declared.statement.Statement.TheVariants.{Model, Inputs, Outputs, Clocks, Latch}
use Rattle.cg_blif_text.specs.Canonical.{cell_lines, gater_statement, pin_text, register_statement, row_words, statement_line}
use Rattle.cg_netlist_placed.specs.PinNets.{PinNet}

-- words, each behind a space
abbrev pub spaced : List (List ℕ) → List ℕ
spaced words = flat_map (λ word. 32 ∷ word) words

-- pins with their nets, each behind a space
abbrev pub pins_text : List PinNet → List ℕ
pins_text pins = flat_map (λ pin. 32 ∷ pin_text pin) pins

-- the rows of a cover of this value, each as a line
abbrev pub rows_text : Bool → List (List (Option Bool)) → List ℕ
rows_text on rows = flat_map (λ row. line_text (row_words on row)) rows

-- the init of a register is one digit from 0 to 3
abbrev pub HasDigit : Statement → Type 0
HasDigit (Latch input output clock init) = init ≤ 3
HasDigit statement = Unit {0}

-- the lines of a part of a netlist whose nets have these names
abbrev pub cell_text : List NetName → LogicCell ℕ → List ℕ
cell_text names cell = text_of (cell_lines (map_cell (net_name names) cell))

abbrev pub gater_text : List NetName → GatingCell ℕ → List ℕ
gater_text names gater = line_text (statement_line (gater_statement (map_gater (net_name names) gater)))

abbrev pub register_text : List NetName → RegisterCell ℕ ℕ → List ℕ
register_text names register = line_text (statement_line (register_statement (map_register (net_name names) register)))

-- the rows of a function, if it is a cover
abbrev pub function_rows : LogicFunction → List ℕ
function_rows (Cover cover) = rows_text cover.on cover.rows
function_rows (Cell cell) = []

-- the line of the clock, where there is one, and all lines before the parts
abbrev pub clock_text : List NetName → Option ℕ → List ℕ
clock_text names None = []
clock_text names (Some clock) = line_text (statement_line (Clocks (net_name names clock ∷ [])))

abbrev pub header_text : Circuit → List ℕ
header_text c =
    line_text (statement_line (Model c.model)) ++ (line_text (statement_line (Inputs (map (net_name c.names) c.inputs)))
    ++ (line_text (statement_line (Outputs (map (net_name c.names) c.outputs))) ++ clock_text c.names c.clock))
