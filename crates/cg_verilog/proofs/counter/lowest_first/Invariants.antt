use Rattle.std.proofs.Common.{◌≡◌, ◌-◌, drop}
use Rattle.cg_verilog.specs.inner.Digits.{lowest_first}
use Rattle.cg_verilog.proofs.counter.lowest_first.Given as goal

abbrev pub invariant-places : goal.invariant-places
invariant-places l = l.digits.items ≡ lowest_first (drop (l.count - l.place) l.bytes)
