use Rattle.std.proofs.Common.{◌≡◌, length}
use Rattle.cg_blif_text.specs.LogicalLines.{text_lines}
use Rattle.cg_blif_text.specs.Telling.{tell_lines}
use Rattle.cg_blif.specs.Resuming.{IsAt, left_of}
use Rattle.cg_blif.proofs.reader.hear_lines.Given as goal

abbrev pub invariant-lines : goal.invariant-lines
invariant-lines l = record {
  at : IsAt l.reading;
  left : left_of l.library l.reading l.lines ≡ tell_lines l.library (text_lines l.text);
}

abbrev pub decreases-lines : goal.decreases-lines
decreases-lines l = length l.lines
