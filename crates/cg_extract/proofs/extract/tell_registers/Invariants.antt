use Rattle.std.proofs.Common.{◌≡◌, take}
use Rattle.cg_netlist_telling.specs.NamedParts.{clocked_parts}
use Rattle.cg_netlist_telling.specs.Telling.{told}
use Rattle.cg_extract.specs.Lifted.{ungated}
use Rattle.cg_extract.proofs.extract.tell_registers.Given as goal

abbrev pub invariant-loop-number : goal.invariant-loop-number
invariant-loop-number l = l.builder ≡ told l.initial.builder (clocked_parts l.names (take l.number (ungated l.netlist).registers))
