use Rattle.std.proofs.Common.{◌≡◌, ◌≤◌, length}
use Rattle.cg_liberty_group.specs.Group.{behind, flop_from}
use Rattle.cg_liberty_group.proofs.groups.read_flop.Given as goal

abbrev pub invariant-statements : goal.invariant-statements
invariant-statements l = record {
  flop : flop_from 0 l.fn.flop l.fn.statements.0 ≡ flop_from 0 l.flop l.statements.0;
  left : behind 0 l.fn.statements.0 ≡ behind 0 l.statements.0;
  fault : l.fn.statements.1 ≡ l.statements.1;
  shorter : length l.statements.0 ≤ length l.fn.statements.0;
}

abbrev pub decreases-statements : goal.decreases-statements
decreases-statements l = length l.statements.0
