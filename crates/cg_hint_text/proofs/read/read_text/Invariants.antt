use Rattle.std.proofs.Common.{◌≡◌, length}
use Rattle.cg_hint_text.specs.Reading.{lines_hints}
use Rattle.cg_hint_text.specs.Reading.{hints}
use Rattle.cg_hint_text.proofs.HintsBefore.{behind_hints}
use Rattle.cg_hint_text.proofs.read.read_text.Given as goal

abbrev pub invariant-lines : goal.invariant-lines
invariant-lines l = behind_hints l.hints (lines_hints l.netlist l.lines.left) ≡ hints l.netlist l.bytes

abbrev pub decreases-lines : goal.decreases-lines
decreases-lines l = length l.lines.left
