-- A netlist with its nets numbered anew, and in net order.
use Rattle.std.specs.Prelude.{◌≡◌, ℕ, Bool, List, length, map, nat_eq}
use Rattle.std.specs.List.{IsDistinct, position_or_len, range_with_len}
use Rattle.std.specs.Option.{option_map}
use Rattle.cg_netlist.specs.Circuit.{Circuit, net_order}
use Rattle.cg_netlist.specs.History.{IsLawful, IsStart, IsWaveform, Moment, Tick, outputs_of}
use Rattle.cg_netlist.specs.Moment.{bit}
use Rattle.cg_netlist.specs.Wiring.{map_cell, map_gater, map_register}
use Rattle.cg_net.specs.Names.{net_name}
use Rattle.cg_netlist.specs.WellFormed.{IsInNetOrder, IsWellFormed}

-- all parts with their nets numbered anew, and these names for them
abbrev pub with_numbers : (ℕ → ℕ) → List (List ℕ) → Circuit → Circuit
with_numbers number names c = record {
  model = c.model;
  names = names;
  inputs = map number c.inputs;
  clock = option_map number c.clock;
  outputs = map number c.outputs;
  cells = map (map_cell number) c.cells;
  gaters = map (map_gater number) c.gaters;
  registers = map (map_register number) c.registers;
}

-- the place of a net in a list
abbrev pub place_in : List ℕ → ℕ → ℕ
place_in nets net = position_or_len (nat_eq net) nets

-- the netlist in net order
abbrev pub ordered : Circuit → Circuit
ordered c = with_numbers (place_in (net_order c)) (map (net_name c.names) (net_order c)) c

-- the bits of nets that are in net order, under the numbers of before; and a moment with them
abbrev pub pulled : Circuit → List Bool → List Bool
pulled c nets = map (λ net. bit nets (place_in (net_order c) net)) (range_with_len 0 (length c.names))

abbrev pub pulled_moment : Circuit → Moment → Moment
pulled_moment c now = record { nets = pulled c now.nets; state = now.state; latches = now.latches }

-- a netlist whose inputs are distinct is well formed and in net order where it is numbered so
abbrev pub OrderedIsFormed : Type 0
OrderedIsFormed = (c : Circuit) → IsWellFormed c → IsDistinct nat_eq c.inputs → IsWellFormed (ordered c) × IsInNetOrder (ordered c)

-- and its histories are those of before, net by net
abbrev pub OrderedIsLawful : Type 0
OrderedIsLawful = (c : Circuit) → IsWellFormed c → IsDistinct nat_eq c.inputs →
    (start : List Bool) (wave : List Tick) (history : List Moment) → IsLawful (ordered c) start wave history
    → IsLawful c start wave (map (pulled_moment c) history)
    × (outputs_of (ordered c) history ≡ outputs_of c (map (pulled_moment c) history))

abbrev pub OrderedHasAll : Type 0
OrderedHasAll = (c : Circuit) → IsWellFormed c → IsDistinct nat_eq c.inputs →
    (start : List Bool) (wave : List Tick) (history : List Moment) → IsStart c start → IsWaveform c wave →
    IsLawful c start wave history
    → (there : List Moment) × IsLawful (ordered c) start wave there × (map (pulled_moment c) there ≡ history)
