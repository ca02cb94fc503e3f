use Rattle.std.proofs.Common.{◌++◌, not, ap, sym, ◌∙◌}
use Rattle.cg_blif.specs.Joining.{words_in}
use Rattle.cg_blif.proofs.Begun.{unnamed_rest}
use Rattle.cg_blif.proofs.lines.push_words.Goals as goal

pub returns-then-is_joined : goal.returns-then-is_joined
returns-then-is_joined c =
    unnamed_rest c.words.words.items c.next_word.new.self c.args.words.now.items (words_in c.args.line.now) c.in-Some.word.now
    (sym (ap (λ ws. c.words.words.items ++ ws) c.in-Some.ensures.word) ∙ c.words.invariant.pushed) c.requires.named
    (c.in-Some.ensures.named ∙ ap not (sym c.is_joined.ensures ∙ c.if-is_joined.true))
