use Rattle.std.proofs.Common.{◌≡◌, ◌+◌, ◌<◌, ◌^◌, length}
use Rattle.cg_text.specs.Lines.{end_line}
use Rattle.cg_verilog_text.specs.Tokens.{tokens_from}
use Rattle.cg_verilog_tokens.proofs.tokens.Tokens.next.Given as goal

abbrev pub invariant-gaps : goal.invariant-gaps
invariant-gaps l = let inside = l.self-inside in record {
  left : tokens_from (end_line inside.text.now) 0 inside.fresh inside.line inside.rest.now ≡ l.fn.self.0;
  end : end_line inside.text.now ≡ l.fn.self.1;
  within : inside.line + length inside.rest.now < 2 ^ 64;
  few : length inside.text.now < 2 ^ 63;
}

abbrev pub decreases-gaps : goal.decreases-gaps
decreases-gaps l = length l.self-inside.rest.now
