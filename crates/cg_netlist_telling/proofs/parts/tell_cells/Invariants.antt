use Rattle.std.proofs.Common.{◌≡◌, take}
use Rattle.cg_netlist_telling.specs.NamedParts.{cell_parts}
use Rattle.cg_netlist_telling.specs.Telling.{told}
use Rattle.cg_netlist_telling.proofs.parts.tell_cells.Given as goal

abbrev pub invariant-loop-number : goal.invariant-loop-number
invariant-loop-number l = l.builder ≡ told l.initial.builder (cell_parts l.names (take l.number l.netlist.cells))
