use Rattle.std.proofs.Common.{◌≡◌, ◌+◌, ◌<◌, ◌^◌, length}
use Rattle.cg_text.specs.Lines.{end_line}
use Rattle.cg_verilog_text.specs.Tokens.{tokens_from}
use Rattle.cg_verilog_tokens.proofs.tokens.Tokens.skip_blanks.Given as goal

abbrev pub invariant-blanks : goal.invariant-blanks
invariant-blanks l = let inside = l.self-inside in record {
  left : tokens_from (end_line inside.text.now) 0 l.place.fresh l.place.line l.rest ≡ tokens_from (end_line inside.text.now) 0 inside.fresh inside.line inside.rest.now;
  within : l.place.line + length l.rest < 2 ^ 64;
}

abbrev pub decreases-blanks : goal.decreases-blanks
decreases-blanks l = length l.rest
