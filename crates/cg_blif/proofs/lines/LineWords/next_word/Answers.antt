use Rattle.std.proofs.Common.{sym, ◌∙◌}
use Rattle.cg_blif.proofs.ReadLemmas.{name_unless_joined}
use Rattle.cg_blif.proofs.lines.LineWords.next_word.Goals as goal

pub returns-then-not-is_empty-clause-named : goal.returns-then-not-is_empty-clause-named
returns-then-not-is_empty-clause-named c = name_unless_joined c.cut_word.result.0.now (sym c.is_empty-in-pieces.ensures ∙ c.if-not-is_empty.true) c.cut_word.ensures.word
