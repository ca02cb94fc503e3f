use Rattle.std.proofs.Common.{◌≡◌, ◌≤◌, length}
use Rattle.cg_liberty_group.specs.Cell.{cell_from}
use Rattle.cg_liberty_group.specs.Group.{behind}
use Rattle.cg_liberty_group.proofs.groups.fill_cell.Given as goal

abbrev pub invariant-statements : goal.invariant-statements
invariant-statements l = record {
  cell : cell_from 0 l.fn.cell l.fn.statements.0 ≡ cell_from 0 l.cell l.statements.0;
  left : behind 0 l.fn.statements.0 ≡ behind 0 l.statements.0;
  fault : l.fn.statements.1 ≡ l.statements.1;
  shorter : length l.statements.0 ≤ length l.fn.statements.0;
}

abbrev pub decreases-statements : goal.decreases-statements
decreases-statements l = length l.statements.0
