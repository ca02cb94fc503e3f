use Rattle.std.proofs.Common.{◌≡◌, ◌++◌, ◌-◌, drop}
use Rattle.cg_verilog.specs.inner.Digits.{written}
use Rattle.cg_verilog.proofs.counter.push_digits.Given as goal

abbrev pub invariant-places : goal.invariant-places
invariant-places l = l.text.items ≡ l.fn.text.items ++ written (drop (l.count - l.place) l.digits)
