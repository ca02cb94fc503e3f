-- Parts by the names of their nets, where the nets are numbers of names.
use Rattle.std.specs.Prelude.{ℕ, Bool, false, List, map, unwrap_or, Option}
use Rattle.std.specs.Option.{option_to_list}
use Rattle.cg_net.specs.Names.{NetName, net_name}
use Rattle.cg_netlist.specs.Circuit.{GatingCell, LogicCell, RegisterCell}
use Rattle.cg_netlist.specs.Moment.{zip_with}
use Rattle.cg_netlist.specs.Wiring.{map_cell, map_gater, map_register}
use Rattle.cg_netlist_parts.specs.Part.{Clock, GaterPart, Input, Logic, Output, Part}
use Rattle.cg_netlist_parts.specs.Says.{register_part}

-- parts of each kind, with the names of their nets
abbrev pub input_parts : List NetName → List ℕ → List Part
input_parts names nets = map (λ net. Input (net_name names net)) nets

abbrev pub output_parts : List NetName → List ℕ → List Part
output_parts names nets = map (λ net. Output (net_name names net)) nets

abbrev pub clock_parts : List NetName → Option ℕ → List Part
clock_parts names clock = map (λ net. Clock (net_name names net)) (option_to_list clock)

abbrev pub cell_part : List NetName → LogicCell ℕ → Part
cell_part names cell = Logic (map_cell (net_name names) cell)

abbrev pub cell_parts : List NetName → List (LogicCell ℕ) → List Part
cell_parts names cells = map (cell_part names) cells

abbrev pub gater_part : List NetName → GatingCell ℕ → Part
gater_part names gater = GaterPart (map_gater (net_name names) gater)

abbrev pub gater_parts : List NetName → List (GatingCell ℕ) → List Part
gater_parts names gaters = map (gater_part names) gaters

abbrev pub clocked_part : List NetName → RegisterCell ℕ ℕ → Part
clocked_part names r = register_part (λ other. false) (map_register (net_name names) r)

abbrev pub clocked_parts : List NetName → List (RegisterCell ℕ ℕ) → List Part
clocked_parts names registers = map (clocked_part names) registers

-- registers on another clock, where one is given
abbrev pub on_gater : Option ℕ → RegisterCell ℕ ℕ → RegisterCell ℕ ℕ
on_gater gate r = record r { clock = unwrap_or gate r.clock }

abbrev pub with_clock : Option ℕ → List (RegisterCell ℕ ℕ) → List (RegisterCell ℕ ℕ)
with_clock gate registers = map (on_gater gate) registers

-- the outputs of a register as a builder takes them: each with the place of its pin
abbrev pub placed_outputs : List NetName → List (ℕ × Bool) → List ℕ → List (NetName × ℕ)
placed_outputs names outputs pins = zip_with (λ output pin. (net_name names output.0, pin)) outputs pins
