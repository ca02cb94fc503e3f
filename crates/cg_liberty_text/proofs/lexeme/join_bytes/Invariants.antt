use Rattle.std.proofs.Common.{◌≡◌, drop}
use Rattle.cg_liberty_text.specs.Lexeme.{longer, join_length}
use Rattle.cg_liberty_text.proofs.lexeme.join_bytes.Given as goal

abbrev pub invariant-bytes : goal.invariant-bytes
invariant-bytes l = join_length l.after ≡ longer l.i (join_length (drop l.i l.after))
