use Rattle.std.proofs.Common.{◌≡◌, length}
use Rattle.cg_stimulus.specs.Reading.{rows_of}
use Rattle.cg_stimulus.proofs.ReadingOn.{rows_before}
use Rattle.cg_stimulus.proofs.read.read_rows.Given as goal

abbrev pub invariant-rows : goal.invariant-rows
invariant-rows l = record {
  read : rows_before l.stimulus.rows (rows_of l.header (length l.stimulus.rows) l.lines.left) ≡ rows_of l.header 0 l.fn.lines.left;
  inputs : l.stimulus.inputs ≡ l.fn.stimulus.inputs;
}

abbrev pub decreases-rows : goal.decreases-rows
decreases-rows l = length l.lines.left
