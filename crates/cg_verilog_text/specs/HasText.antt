-- Which netlists have a text.
use Rattle.std.specs.Prelude.{◌≡◌, ℕ, Bool, not, nat_le, List, [], ◌∷◌, ◌++◌, map, Option, None}
use Rattle.std.specs.List.{find, flat_map, list_all}
use Rattle.std.specs.Option.{option_map}
use Rattle.cg_net.specs.NetSets.{is_in}
use Rattle.cg_net.specs.Names.{NetName, net_name}
use Rattle.cg_netlist.specs.Circuit.{Circuit}
use Rattle.cg_netlist.specs.Wiring.{named}
use Rattle.cg_verilog_text.specs.Items.{Item, Place}
use Rattle.cg_verilog_text.specs.WrittenItems.{wiring_items}

-- a name with no byte above 126 is ASCII
abbrev pub is_ascii : List ℕ → Bool
is_ascii name = list_all (λ byte. nat_le byte 126) name

-- the names of the cell and of the pins that an item places
abbrev pub names_in : Item → List (List ℕ)
names_in (Place cell label pins) = cell ∷ map (λ pin. pin.pin) pins
names_in item = []

-- the names of a netlist: its model, its nets, and the cells that it places with their pins that have nets
abbrev pub names_of : Circuit → List (List ℕ)
names_of c = c.model ∷ (c.names ++ flat_map names_in (wiring_items (named c)))

-- the first name that is not ASCII; the first output that is an input
abbrev pub bad_name : Circuit → Option (List ℕ)
bad_name c = find (λ name. not (is_ascii name)) (names_of c)

abbrev pub port_twice : Circuit → Option NetName
port_twice c = option_map (net_name c.names) (find (is_in c.inputs) c.outputs)

-- the netlist has a text: its names are ASCII, and no output is an input
pub record HasText (c : Circuit) : Type 0 where
  pub names : bad_name c ≡ None
  pub ports : port_twice c ≡ None
