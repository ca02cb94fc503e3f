use Rattle.std.proofs.Common.{◌≡◌, ◌-◌}
use Rattle.cg_verilog_out.specs.inner.Numbering.{left}
use Rattle.cg_verilog_out.proofs.labels.Labels.advance.Given as goal

abbrev pub invariant-numbers : goal.invariant-numbers
invariant-numbers l = left l.self ≡ left l.fn.self

abbrev pub decreases-numbers : goal.decreases-numbers
decreases-numbers l = l.self.end - l.self.next
