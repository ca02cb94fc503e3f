use Rattle.std.proofs.Common.{◌≡◌, false, drop}
use Rattle.cg_liberty_text.specs.Lexeme.{longer, comment_length}
use Rattle.cg_liberty_text.proofs.lexeme.comment_bytes.Given as goal

abbrev pub invariant-bytes : goal.invariant-bytes
invariant-bytes l = comment_length false l.after ≡ longer l.i (comment_length l.starred (drop l.i l.after))
