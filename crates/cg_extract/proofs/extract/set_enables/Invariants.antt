use Rattle.std.proofs.Common.{◌≡◌}
use Rattle.cg_machine.specs.Run.{with_enables}
use Rattle.cg_extract.proofs.Taking.{enables_so_far}
use Rattle.cg_extract.proofs.extract.set_enables.Given as goal

abbrev pub invariant-loop-number : goal.invariant-loop-number
invariant-loop-number l = l.machine ≡ with_enables l.initial.machine (enables_so_far l.enables l.netlist.registers l.number)
