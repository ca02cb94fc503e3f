use Rattle.std.proofs.Common.{◌≡◌, drop}
use Rattle.std.specs.List.{position_from}
use Rattle.cg_extract.specs.Lifted.{first_refused, is_refused}
use Rattle.cg_extract.proofs.refused.first_refused.Given as goal

abbrev pub invariant-loop-number : goal.invariant-loop-number
invariant-loop-number l = position_from (is_refused l.netlist l.and2) l.number (drop l.number l.netlist.gaters) ≡ first_refused l.netlist l.and2
