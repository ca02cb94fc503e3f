use Rattle.std.proofs.Common.{◌≡◌, ◌≤◌, ◌-◌, map, None}
use Rattle.cg_verilog.specs.Declaring.{bits_up, side_part}
use Rattle.cg_verilog.proofs.HearingLemmas.{IsLeft}
use Rattle.cg_verilog.proofs.declare.declare_up.Given as goal

abbrev pub invariant-bits : goal.invariant-bits
invariant-bits l = record {
  left : IsLeft (map (side_part l.side) (bits_up l.fn.low l.high l.net)) l.fn.builder l.builder (map (side_part l.side) (bits_up l.index l.high l.net));
  order : l.index ≤ l.high;
  fine : l.builder.refused ≡ None;
}

abbrev pub decreases-bits : goal.decreases-bits
decreases-bits l = l.high - l.index
