use Rattle.std.proofs.Common.{◌≡◌, ◌+◌, drop, false, option_map}
use Rattle.cg_verilog_text.specs.Lexeme.{closing_length}
use Rattle.cg_verilog_tokens.proofs.lexeme.closing_bytes.Given as goal

abbrev pub invariant-bytes : goal.invariant-bytes
invariant-bytes l = closing_length l.last false l.after ≡ option_map (λ k. l.i + k) (closing_length l.last l.starred (drop l.i l.after))
