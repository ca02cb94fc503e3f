use Rattle.std.proofs.Common.{map, codes}
use Rattle.std.specs.Fmt.{decimal}
use Rattle.cg_formula.specs.DimacsText.{lit_word, clause_words}
use Rattle.cg_lrat.specs.LratText.{id_words}
use Rattle.cg_formula.proofs.Pushed.{more_pushed, some_words}
use Rattle.cg_lrat.proofs.lrat.push_addition.Goals as goal

pub returns : goal.returns
returns c =
    more_pushed c.args.text.now.items c.push_clause.new.text.items c.push.new.self.items c.push_ids.new.text.items
    (clause_words (record { lits = c.args.lits.now })) (id_words c.args.hints.now)
    (some_words (map lit_word c.args.lits.now) (codes "0")) (some_words (map decimal c.args.hints.now) (codes "0"))
    c.in_ok-push_clause.ensures c.in_ok-push.ensures.items c.in_ok-push_ids.ensures
