use Rattle.std.proofs.Common.{◌∙◌, sym, arith, ◌<◌, length}
use Rattle.cg_liberty_expression.proofs.Words.{word-first}
use Rattle.cg_liberty_expression.proofs.tokens.Tokens.next.Goals as goal

pub returns-then-is_word_byte : goal.returns-then-is_word_byte
returns-then-is_word_byte c =
    let text = c.self.inside.text.now in
    let at = c.after_blanks-at.result in
    let left : at < length text = omega arith in
    sym c.self.view_is ∙ sym c.after_blanks-at.ensures.same ∙ word-first text at c.word_end-end.result left (sym c.if-is_word_byte.ensures) c.word_end-end.ensures.end
