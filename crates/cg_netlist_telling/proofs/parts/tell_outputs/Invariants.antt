use Rattle.std.proofs.Common.{◌≡◌, take}
use Rattle.cg_netlist_telling.specs.NamedParts.{output_parts}
use Rattle.cg_netlist_telling.specs.Telling.{told}
use Rattle.cg_netlist_telling.proofs.parts.tell_outputs.Given as goal

abbrev pub invariant-loop-net : goal.invariant-loop-net
invariant-loop-net l = l.builder ≡ told l.initial.builder (output_parts l.names (take l.net-index l.nets))
