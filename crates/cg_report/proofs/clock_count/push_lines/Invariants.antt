use Rattle.std.proofs.Common.{◌≡◌, ◌++◌, map}
use Rattle.cg_report.specs.ClockLines.{clock_text, lines_text}
use Rattle.cg_report.specs.inner.ClockCounting.{line_of}
use Rattle.cg_report.proofs.ClockCounting.{lines_from}
use Rattle.cg_report.proofs.clock_count.push_lines.Given as goal

abbrev pub invariant-loop-place : goal.invariant-loop-place
invariant-loop-place l =
    l.text.items ++ lines_from l.place (map (λ clock. clock_text (line_of clock)) l.clocks) ≡ l.fn.text.items ++ lines_text (map (λ clock. clock_text (line_of clock)) l.clocks)
