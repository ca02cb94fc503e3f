use Rattle.std.proofs.Common.{◌≡◌, true, length}
use Rattle.std.specs.List.{list_all}
use Rattle.cg_cell.specs.Name.{is_name}
use Rattle.cg_blif_text.specs.LogicalLines.{logical_lines}
use Rattle.cg_blif.specs.Joining.{begun}
use Rattle.cg_blif.proofs.lines.LogicalLines.next_line.Given as goal

abbrev pub invariant-lines : goal.invariant-lines
invariant-lines l = record {
  left : begun l.number l.words.items (logical_lines l.self-inside.physical.number l.self-inside.physical.left) ≡ l.fn.self;
  named : list_all is_name l.words.items ≡ true;
}

abbrev pub decreases-lines : goal.decreases-lines
decreases-lines l = length l.self-inside.physical.left
