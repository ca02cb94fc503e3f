use Rattle.std.proofs.Common.{◌≡◌, true, drop}
use Rattle.cg_verilog.specs.inner.Digits.{at_most}
use Rattle.cg_verilog.proofs.counter.at_most.Given as goal

abbrev pub invariant-places : goal.invariant-places
invariant-places l = at_most l.below (drop l.place l.digits) (drop l.place l.others) ≡ at_most true l.digits l.others
