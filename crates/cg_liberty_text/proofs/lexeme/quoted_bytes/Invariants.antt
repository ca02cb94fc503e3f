use Rattle.std.proofs.Common.{◌≡◌, false, drop}
use Rattle.cg_liberty_text.specs.Lexeme.{longer, quoted_length}
use Rattle.cg_liberty_text.proofs.lexeme.quoted_bytes.Given as goal

abbrev pub invariant-bytes : goal.invariant-bytes
invariant-bytes l = quoted_length false l.after ≡ longer l.i (quoted_length l.escaped (drop l.i l.after))
