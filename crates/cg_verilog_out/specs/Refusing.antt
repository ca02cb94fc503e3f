-- Why a netlist has no text, as it is looked for.
use Rattle.std.specs.Prelude.{◌≡◌, not, List, ℕ, None, Some, Result, Ok, Err}
use Rattle.std.specs.List.{find, flat_map}
use Rattle.std.specs.Option.{option_map}
use Rattle.cg_net.specs.NetSets.{is_in}
use Rattle.cg_net.specs.Names.{NetName, net_name}
use Rattle.cg_netlist.specs.Circuit.{Circuit}
use Rattle.cg_verilog_text.specs.HasText.{bad_name, is_ascii, names_in, port_twice}
use Rattle.cg_verilog_text.specs.Items.{Item}
use Rattle.cg_verilog_out.specs.declared.fault.VerilogOutFault.{VerilogOutFault}
use Rattle.cg_verilog_out.specs.declared.fault.VerilogOutFault.TheVariants.{BadName, PortTwice, NoMemory}

-- names were looked at: all are ASCII, or this one is the first that is not
abbrev pub AreLookedAt : List (List ℕ) → Result (Unit {0}) VerilogOutFault → Type 0
AreLookedAt names (Ok done) = find (λ name. not (is_ascii name)) names ≡ None
AreLookedAt names (Err (BadName name)) = find (λ name. not (is_ascii name)) names ≡ Some name
AreLookedAt names (Err (PortTwice net)) = ⊥
AreLookedAt names (Err NoMemory) = Unit {0}

-- and the names of items
abbrev pub ItemsAreLookedAt : List Item → Result (Unit {0}) VerilogOutFault → Type 0
ItemsAreLookedAt items result = AreLookedAt (flat_map names_in items) result

-- nets were looked at: none is among these, or this one is the first that is
abbrev pub ArePorts : List NetName → List ℕ → List ℕ → Result (Unit {0}) VerilogOutFault → Type 0
ArePorts names inputs nets (Ok done) = find (is_in inputs) nets ≡ None
ArePorts names inputs nets (Err (BadName name)) = ⊥
ArePorts names inputs nets (Err (PortTwice net)) = option_map (net_name names) (find (is_in inputs) nets) ≡ Some net
ArePorts names inputs nets (Err NoMemory) = Unit {0}

-- outputs were looked at: none is an input, or this one is the first that is one
abbrev pub PortsAreLookedAt : Circuit → Result (Unit {0}) VerilogOutFault → Type 0
PortsAreLookedAt c (Ok done) = port_twice c ≡ None
PortsAreLookedAt c (Err (BadName name)) = ⊥
PortsAreLookedAt c (Err (PortTwice net)) = port_twice c ≡ Some net
PortsAreLookedAt c (Err NoMemory) = Unit {0}

-- the first fault of a netlist: a name, or else a port
abbrev pub IsFirstOutFault : Circuit → VerilogOutFault → Type 0
IsFirstOutFault c (BadName name) = bad_name c ≡ Some name
IsFirstOutFault c (PortTwice net) = (bad_name c ≡ None) × (port_twice c ≡ Some net)
IsFirstOutFault c NoMemory = Unit {0}
