use Rattle.std.proofs.Common.{◌≡◌, drop, map, None}
use Rattle.std.specs.List.{flat_map}
use Rattle.cg_verilog_text.specs.Meaning.{bits_of}
use Rattle.cg_verilog.specs.Declaring.{side_part}
use Rattle.cg_verilog.proofs.HearingLemmas.{IsLeft}
use Rattle.cg_verilog.proofs.declare.declare.Given as goal

abbrev pub invariant-nets : goal.invariant-nets
invariant-nets l = record {
  left : IsLeft (map (side_part l.side) (flat_map (bits_of l.range) l.nets)) l.fn.builder l.builder (map (side_part l.side) (flat_map (bits_of l.range) (drop l.net-index l.nets)));
  fine : l.builder.refused ≡ None;
}
