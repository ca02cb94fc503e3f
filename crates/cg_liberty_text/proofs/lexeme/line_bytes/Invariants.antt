use Rattle.std.proofs.Common.{◌≡◌, ◌+◌, drop}
use Rattle.cg_liberty_text.specs.Lexeme.{line_length}
use Rattle.cg_liberty_text.proofs.lexeme.line_bytes.Given as goal

abbrev pub invariant-bytes : goal.invariant-bytes
invariant-bytes l = line_length l.after ≡ l.i + line_length (drop l.i l.after)
