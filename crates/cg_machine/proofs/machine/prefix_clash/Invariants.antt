use Rattle.std.proofs.Common.{◌≡◌, drop}
use Rattle.std.specs.List.{position_from}
use Rattle.cg_machine.specs.Start.{begins, first_clash}
use Rattle.cg_machine.proofs.machine.prefix_clash.Given as goal

abbrev pub invariant-loop-number : goal.invariant-loop-number
invariant-loop-number l = position_from (begins l.prefix) l.number (drop l.number l.netlist.names) ≡ first_clash l.prefix l.netlist.names
