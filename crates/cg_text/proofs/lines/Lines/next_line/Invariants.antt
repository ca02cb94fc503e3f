use Rattle.std.proofs.Common.{◌≡◌, ◌+◌, ◌<◌, ◌^◌, length}
use Rattle.cg_text.specs.Words.{lines}
use Rattle.cg_text.specs.Lines.{kept_lines}
use Rattle.cg_text.proofs.lines.Lines.next_line.Given as goal

abbrev pub invariant-lines : goal.invariant-lines
invariant-lines l = let inside = l.self-inside in record {
  left : kept_lines inside.layout inside.number (lines inside.rest.now) ≡ l.fn.self.left;
  end : inside.number + length (lines inside.rest.now) ≡ l.fn.self.end;
  countable : inside.number + length inside.rest.now < 2 ^ 64;
}

abbrev pub decreases-lines : goal.decreases-lines
decreases-lines l = length l.self-inside.rest.now
