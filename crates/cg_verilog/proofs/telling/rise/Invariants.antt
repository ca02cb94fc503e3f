use Rattle.std.proofs.Common.{◌≡◌, [], drop, map, None}
use Rattle.cg_verilog_text.specs.Meaning.{register_of}
use Rattle.cg_verilog.proofs.HearingLemmas.{IsLeft}
use Rattle.cg_verilog.proofs.telling.rise.Given as goal

abbrev pub invariant-updates : goal.invariant-updates
invariant-updates l = record {
  left : IsLeft (map (register_of [] l.clock) l.updates) l.fn.builder l.builder (map (register_of [] l.clock) (drop l.update-index l.updates));
  fine : l.builder.refused ≡ None;
}
