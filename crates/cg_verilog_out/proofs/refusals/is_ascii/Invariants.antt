use Rattle.std.proofs.Common.{◌≡◌, drop}
use Rattle.cg_verilog_text.specs.HasText.{is_ascii}
use Rattle.cg_verilog_out.proofs.refusals.is_ascii.Given as goal

abbrev pub invariant-bytes : goal.invariant-bytes
invariant-bytes l = is_ascii (drop l.byte-index l.name) ≡ is_ascii l.name
