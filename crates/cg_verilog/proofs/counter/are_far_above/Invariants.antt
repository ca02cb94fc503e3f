use Rattle.std.proofs.Common.{◌≡◌, ◌+◌, ◌-◌, ◌<◌, drop}
use Rattle.cg_verilog.specs.Counters.{value_of}
use Rattle.cg_verilog.proofs.counter.are_far_above.Given as goal

abbrev pub invariant-places : goal.invariant-places
invariant-places l = record {
  gap : value_of (drop (l.count - l.place) l.others) + l.above ≡ value_of (drop (l.count - l.place) l.digits);
  near : l.above < l.gap;
}
