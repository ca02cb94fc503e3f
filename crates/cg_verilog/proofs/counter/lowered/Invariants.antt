use Rattle.std.proofs.Common.{◌≡◌, ◌++◌, true, drop}
use Rattle.cg_verilog.specs.inner.Digits.{lowered}
use Rattle.cg_verilog.proofs.counter.lowered.Given as goal

abbrev pub invariant-places : goal.invariant-places
invariant-places l = l.next.items ++ lowered l.lowest l.borrow (drop l.place l.digits) ≡ lowered true true l.digits
