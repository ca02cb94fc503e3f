-- The kind of a cell, and with it its pins and its function.
use Rattle.std.specs.Prelude.{ℕ, ◌+◌, ◌-◌, ◌==◌, nat_lt, nat_le, Bool, true, false, cond, not, ◌&&◌, ◌||◌, List, [], ◌∷◌, ◌++◌, map}
use Rattle.std.specs.Prelude.{length, count_by, codes, Option, None, Some, option_map, Result, Ok}
use Rattle.cg_cell.specs.Cell.{CellData}
use Rattle.cg_cell.specs.Name.{are_distinct, is_name}
use Rattle.cg_cell.specs.Pins.{PinData, is_clock, is_enable, is_output, is_state, is_test}
use Rattle.cg_cell.specs.Term.{Term, Bit, Input, Inverse, Both, Either, Differ, has_input, lone_input, term_value}
use Rattle.cg_cell.specs.declared.cell.CellKind.TheVariants as kinds
use Rattle.cg_cell.specs.declared.cell.Role.{Role}
use Rattle.cg_cell.specs.declared.cell.Role.TheVariants as roles
use Rattle.cg_liberty_group.specs.Group.{is_there, states, text_of}
use Rattle.cg_liberty_group.specs.declared.group.CellGroup.{CellGroup}
use Rattle.cg_liberty_group.specs.declared.group.FlopGroup.{FlopGroup}
use Rattle.cg_liberty_group.specs.declared.group.Flops.{Flops}
use Rattle.cg_liberty_group.specs.declared.group.Flops.TheVariants.{Absent, One, Several}
use Rattle.cg_liberty.specs.Port.{ports_of}
use Rattle.cg_liberty.specs.Reading.{reading, readings, then_read}
use Rattle.cg_liberty.specs.declared.fault.CellFault.{CellFault}
use Rattle.cg_liberty.specs.declared.port.Port.{Port}

-- a cell that is known by name alone
abbrev pub unusable : List ℕ → CellData
unusable name = record { name = name; kind = kinds.Unusable; pins = []; function = None }

-- the names of the input pins, in order
abbrev pub own_input : Port → List (List ℕ)
own_input port = cond port.marks.is_output [] (port.name ∷ [])

abbrev pub input_names : List Port → List (List ℕ)
input_names [] = []
input_names (port ∷ ports) = own_input port ++ input_names ports

-- the functions of the output pins, in order
abbrev pub own_output : Port → List (Option (List ℕ))
own_output port = cond port.marks.is_output (port.marks.function ∷ []) []

abbrev pub output_texts : List Port → List (Option (List ℕ))
output_texts [] = []
output_texts (port ∷ ports) = own_output port ++ output_texts ports

-- Gating cells

-- what an input of a gating cell is for: it has exactly one of the flags of clock, enable and test
abbrev pub input_role : Bool → Bool → Bool → Option Role
input_role true false false = Some roles.Clock
input_role false true false = Some roles.Enable
input_role false false true = Some roles.Test
input_role _ _ _ = None

-- what a pin of a gating cell is for: an output has its own flag, and that of a test input counts where the cell has one
abbrev pub gater_role : Bool → Port → Option Role
gater_role tested port =
    cond port.marks.is_output (cond port.marks.is_out (Some roles.Output) None)
    (input_role port.marks.is_clock port.marks.is_enable (tested && port.marks.is_test))

abbrev pub with_role : Port → Option Role → Option (List PinData) → Option (List PinData)
with_role port (Some role) (Some pins) = Some (record { name = port.name; role = role } ∷ pins)
with_role port _ _ = None

abbrev pub gater_pins : Bool → List Port → Option (List PinData)
gater_pins tested [] = Some []
gater_pins tested (port ∷ ports) = with_role port (gater_role tested port) (gater_pins tested ports)

-- exactly one clock, one enable and one output, and one test input where the cell has one
abbrev pub are_gater_pins : Bool → List PinData → Bool
are_gater_pins tested pins =
    count_by is_clock pins == 1
    && (count_by is_enable pins == 1 && (count_by is_output pins == 1 && count_by is_test pins == cond tested 1 0))

abbrev pub gater_with : List ℕ → Bool → Option (List PinData) → CellData
gater_with name tested None = unusable name
gater_with name tested (Some pins) =
    cond (are_gater_pins tested pins) (record { name = name; kind = kinds.Gater; pins = pins; function = None }) (unusable name)

-- the gating cell of these pins, with a test input or without, or an unusable cell
abbrev pub gater_of : List ℕ → Bool → List Port → CellData
gater_of name tested ports = gater_with name tested (gater_pins tested ports)

-- the cell of an attribute that says which gating cell it is: a latch that is transparent while the clock is low, in front of an
-- and, without a test input or with one before the latch; others are unusable
abbrev pub gating_cell : CellGroup → List Port → CellData
gating_cell cell ports =
    cond (states cell.gating (codes "latch_posedge")) (gater_of cell.name false ports)
    (cond (states cell.gating (codes "latch_posedge_precontrol")) (gater_of cell.name true ports)
    (unusable cell.name))

-- Logic cells

abbrev pub logic_role : Port → Role
logic_role port = cond port.marks.is_output roles.Output roles.Data

abbrev pub logic_pins : List Port → List PinData
logic_pins ports = map (λ port. record { name = port.name; role = logic_role port }) ports

-- a logic cell has one output, with a function of the inputs
abbrev pub logic_of : List ℕ → List Port → List (Option Term) → CellData
logic_of name ports (Some function ∷ []) =
    record { name = name; kind = kinds.Logic; pins = logic_pins ports; function = Some function }
logic_of name ports _ = unusable name

abbrev pub logic_cell : List ℕ → List Port → Result CellData CellFault
logic_cell name ports =
    then_read (readings (input_names ports) (output_texts ports)) (λ functions. Ok (logic_of name ports functions))

-- Registers

-- the names of the state and of its inverse: the arguments that are names
abbrev pub own_state : List ℕ → List (List ℕ)
own_state text = cond (is_name text) (text ∷ []) []

abbrev pub state_names : List (List ℕ) → List (List ℕ)
state_names [] = []
state_names (text ∷ texts) = own_state text ++ state_names texts

-- whether a register has two states of names of their own, and no other way to be set than by its clock
abbrev pub is_plain_flop : List (List ℕ) → FlopGroup → Bool
is_plain_flop inputs flop =
    length flop.names == 2 && (length (state_names flop.names) == 2 && (are_distinct (inputs ++ state_names flop.names)
    && not (is_there flop.clear || (is_there flop.preset || is_there flop.clocked_on_also))))

-- whether a function gives the inverse of the state, by its values where the state is 1 and where it is 0; none where it is
-- constant
abbrev pub inverse_by : Bool → Bool → Option Bool
inverse_by true false = Some false
inverse_by false true = Some true
inverse_by _ _ = None

-- whether an output function of so many states gives the inverse of the first; the second is that inverse
abbrev pub is_inverse : ℕ → Option Term → Option Bool
is_inverse count None = None
is_inverse count (Some function) =
    cond (count == 2) (inverse_by (term_value (true ∷ false ∷ []) function) (term_value (false ∷ true ∷ []) function)) None

-- the functions of outputs, read over the names of the states, each with whether it gives the inverse
abbrev pub inverses_read : List (List ℕ) → List (Option (List ℕ)) → Result (List (Option Bool)) CellFault
inverses_read names [] = Ok []
inverses_read names (text ∷ texts) =
    then_read (reading names text)
    (λ term. then_read (inverses_read names texts) (λ later. Ok (is_inverse (length names) term ∷ later)))

-- the outputs, each with whether it gives the inverse, where each gives the state or the inverse
abbrev pub all_known : List (Option Bool) → Option (List Bool)
all_known [] = Some []
all_known (None ∷ later) = None
all_known (Some inverse ∷ later) = option_map (λ inverses. inverse ∷ inverses) (all_known later)

-- what an input of a register's function stands for in its cell, whose function is over the other inputs and its own bit behind
-- them: `next_state` is over the inputs, the clock among them, then the state, then the inverse
abbrev pub slot : ℕ → ℕ → ℕ → Term
slot inputs clock k = cond (k == inputs + 1) (Inverse (Input (inputs - 1))) (cond (nat_lt clock k) (Input (k - 1)) (Input k))

abbrev pub restated : ℕ → ℕ → Term → Term
restated inputs clock (Bit bit) = Bit bit
restated inputs clock (Input k) = slot inputs clock k
restated inputs clock (Inverse t) = Inverse (restated inputs clock t)
restated inputs clock (Both s t) = Both (restated inputs clock s) (restated inputs clock t)
restated inputs clock (Either s t) = Either (restated inputs clock s) (restated inputs clock t)
restated inputs clock (Differ s t) = Differ (restated inputs clock s) (restated inputs clock t)

-- what a pin of a register is for, the input being the k-th and the outputs still to come giving the inverse or not
abbrev pub output_role : List Bool → Role
output_role [] = roles.State
output_role (false ∷ later) = roles.State
output_role (true ∷ later) = roles.StateBar

abbrev pub rest_of : List Bool → List Bool
rest_of [] = []
rest_of (inverse ∷ later) = later

abbrev pub flop_pins : ℕ → ℕ → List Bool → List Port → List PinData
flop_pins clock k inverses [] = []
flop_pins clock k inverses (port ∷ ports) =
    cond port.marks.is_output
    (record { name = port.name; role = output_role inverses } ∷ flop_pins clock k (rest_of inverses) ports)
    (record { name = port.name; role = cond (k == clock) roles.Clock roles.Data } ∷ flop_pins clock (k + 1) inverses ports)

-- the pins of a register: one clock, one or more outputs
abbrev pub are_flop_pins : List PinData → Bool
are_flop_pins pins = count_by is_clock pins == 1 && nat_le 1 (count_by is_state pins)

-- the register with a next state, a clock and outputs that were all read
abbrev pub flop_with_parts : List ℕ → List Port → Term → ℕ → List Bool → CellData
flop_with_parts name ports next clock inverses =
    cond (not (has_input clock next) && are_flop_pins (flop_pins clock 0 inverses ports))
    (record {
      name = name;
      kind = kinds.Flop;
      pins = flop_pins clock 0 inverses ports;
      function = Some (restated (length (input_names ports)) clock next);
    })
    (unusable name)

abbrev pub flop_clocked : List ℕ → List Port → Term → Option ℕ → List Bool → CellData
flop_clocked name ports next None inverses = unusable name
flop_clocked name ports next (Some clock) inverses = flop_with_parts name ports next clock inverses

abbrev pub flop_of : List ℕ → List Port → Bool → Option Term → Option Term → Option (List Bool) → CellData
flop_of name ports plain (Some next) (Some clocked) (Some inverses) =
    cond plain (flop_clocked name ports next (lone_input clocked) inverses) (unusable name)
flop_of name ports plain _ _ _ = unusable name

abbrev pub flop_cell : List ℕ → List Port → FlopGroup → Result CellData CellFault
flop_cell name ports flop =
    then_read (reading (input_names ports ++ state_names flop.names) (text_of flop.next_state)) (λ next.
    then_read (reading (input_names ports) (text_of flop.clocked_on)) (λ clocked.
    then_read (inverses_read (state_names flop.names) (output_texts ports)) (λ outputs.
    Ok (flop_of name ports (is_plain_flop (input_names ports) flop) next clocked (all_known outputs)))))

-- All kinds, the first rule that applies

abbrev pub cell_by_flops : CellGroup → List Port → Flops → Result CellData CellFault
cell_by_flops cell ports Absent = logic_cell cell.name ports
cell_by_flops cell ports (One flop) = flop_cell cell.name ports flop
cell_by_flops cell ports Several = Ok (unusable cell.name)

abbrev pub cell_with_ports : CellGroup → Option (List Port) → Result CellData CellFault
cell_with_ports cell None = Ok (unusable cell.name)
cell_with_ports cell (Some ports) =
    cond (is_there cell.gating) (Ok (gating_cell cell ports))
    (cond cell.has_bank (Ok (unusable cell.name))
    (cell_by_flops cell ports cell.flops))

-- the cell that a group describes, or the fault of its first bad expression
abbrev pub cell_of : CellGroup → Result CellData CellFault
cell_of cell = cell_with_ports cell (ports_of cell)
