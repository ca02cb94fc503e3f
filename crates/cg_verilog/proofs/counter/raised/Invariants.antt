use Rattle.std.proofs.Common.{◌≡◌, ◌++◌, true, drop}
use Rattle.cg_verilog.specs.inner.Digits.{raised}
use Rattle.cg_verilog.proofs.counter.raised.Given as goal

abbrev pub invariant-digits : goal.invariant-digits
invariant-digits l = l.next.items ++ raised l.carry (drop l.digit-index l.digits) ≡ raised true l.digits
