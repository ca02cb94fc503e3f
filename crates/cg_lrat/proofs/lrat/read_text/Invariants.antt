use Rattle.std.proofs.Common.{◌≡◌, length}
use Rattle.cg_text.specs.Lines.{text_lines}
use Rattle.cg_formula.specs.DimacsReading.{layout}
use Rattle.cg_lrat.specs.LratReading.{steps_of}
use Rattle.cg_lrat.proofs.ReadingOn.{steps_before}
use Rattle.cg_lrat.proofs.lrat.read_text.Given as goal

abbrev pub invariant-lines : goal.invariant-lines
invariant-lines l = steps_before l.steps (steps_of l.lines.left) ≡ steps_of (text_lines layout l.fn.text)

abbrev pub decreases-lines : goal.decreases-lines
decreases-lines l = length l.lines.left
