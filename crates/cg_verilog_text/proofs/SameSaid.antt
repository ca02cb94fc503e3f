-- Which netlist parts say depends on what they have said alone.
use Rattle.std.proofs.Common.{◌≡◌, ◌≤◌, ℕ, not, true, List, ◌++◌, map, length, Some, subst}
use Rattle.std.specs.List.{AllByRecursion, filter, flat_map, slice_get}
use Rattle.std.specs.Option.{option_to_list}
use Rattle.cg_netlist.specs.Circuit.{Circuit}
use Rattle.cg_net.specs.Names.{NetName, is_known}
use Rattle.cg_netlist_parts.specs.Part.{Part, on_clock}
use Rattle.cg_netlist_parts.specs.Said.{Said, said}
use Rattle.cg_netlist_parts.specs.Says.{Says}
use Rattle.cg_netlist.specs.Wiring.{Wiring, driven_by_gaters, named}
use Rattle.cg_netlist_parts.proofs.AtMostOne.{says_one}

abbrev roots_of : Said → List NetName
roots_of s = s.clocks ++ filter (λ net. not (is_known (driven_by_gaters s.gaters) net)) (map (λ gater. gater.clock) s.gaters ++ flat_map (λ r. option_to_list r.clock) s.registers)

abbrev wired_of : Said → Wiring NetName
wired_of s = record {
  inputs = s.inputs;
  clock = slice_get (roots_of s) 0;
  outputs = s.outputs;
  cells = s.cells;
  gaters = s.gaters;
  registers = map (on_clock (slice_get (roots_of s) 0)) s.registers;
}

abbrev IsClock : Said → NetName → Type 0
IsClock s net = (slice_get (roots_of s) 0 ≡ Some net) × (is_known (s.inputs ++ s.clocks) net ≡ true)

-- what `Says` asks of the parts
abbrev Asks : Circuit → Said → Type 0
Asks c s = (named c ≡ wired_of s) × AllByRecursion (IsClock s) (roots_of s) × (length s.nets ≤ 1048576) × (length s.registers ≤ 65536)

pub says_alike : (model : List ℕ) (parts others : List Part) (c : Circuit) → said parts ≡ said others → Says model parts c → Says model others c
says_alike model parts others c same says =
    let here : Asks c (said parts) = (says.wired_is, says.rooted, says.few_nets, says.few_registers) in
    let there : Asks c (said others) = subst (Asks c) same here in
    record { model_is = says.model_is; wired_is = there.0; rooted = there.1; formed = says.formed; ordered = says.ordered; few_nets = there.2; few_registers = there.3 }

pub one_netlist : (model : List ℕ) (parts others : List Part) (c d : Circuit) → said parts ≡ said others → Says model parts c → Says model others d → c ≡ d
one_netlist model parts others c d same says also = says_one model others c d (says_alike model parts others c same says) also
