use Rattle.std.proofs.Common.{◌≡◌, ◌≤◌, map, None}
use Rattle.cg_verilog.specs.Declaring.{bits_down, side_part}
use Rattle.cg_verilog.proofs.HearingLemmas.{IsLeft}
use Rattle.cg_verilog.proofs.declare.declare_down.Given as goal

abbrev pub invariant-bits : goal.invariant-bits
invariant-bits l = record {
  left : IsLeft (map (side_part l.side) (bits_down l.fn.high l.low l.net)) l.fn.builder l.builder (map (side_part l.side) (bits_down l.index l.low l.net));
  order : l.low ≤ l.index;
  fine : l.builder.refused ≡ None;
}

abbrev pub decreases-bits : goal.decreases-bits
decreases-bits l = l.index
