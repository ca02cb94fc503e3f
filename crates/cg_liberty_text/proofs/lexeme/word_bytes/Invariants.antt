use Rattle.std.proofs.Common.{◌≡◌, ◌+◌, drop}
use Rattle.cg_liberty_text.specs.Lexeme.{word_length}
use Rattle.cg_liberty_text.proofs.lexeme.word_bytes.Given as goal

abbrev pub invariant-bytes : goal.invariant-bytes
invariant-bytes l = word_length l.after ≡ l.i + word_length (drop l.i l.after)
