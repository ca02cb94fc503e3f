use Rattle.std.proofs.Common.{◌≡◌, drop}
use Rattle.cg_text.specs.Words.{words}
use Rattle.cg_text.proofs.words.holds_no_word.Given as goal

abbrev pub invariant-loop-byte : goal.invariant-loop-byte
invariant-loop-byte l = words l.blanks (drop l.byte-index l.line) ≡ words l.blanks l.line
