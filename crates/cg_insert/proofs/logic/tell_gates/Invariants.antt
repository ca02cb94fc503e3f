use Rattle.std.proofs.Common.{◌≡◌, map, take}
use Rattle.cg_insert.specs.Insert.{placed_gate}
use Rattle.cg_netlist_telling.specs.NamedParts.{cell_parts}
use Rattle.cg_netlist_telling.specs.Telling.{told}
use Rattle.cg_insert.proofs.logic.tell_gates.Given as goal

abbrev pub invariant-loop-number : goal.invariant-loop-number
invariant-loop-number l = l.builder ≡ told l.initial.builder (cell_parts l.names (take l.number (map (placed_gate l.library) l.machine.gates)))
