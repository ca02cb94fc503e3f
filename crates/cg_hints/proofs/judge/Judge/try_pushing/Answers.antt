use Rattle.std.proofs.Common.{sym, ◌∙◌}
use Rattle.cg_hints.proofs.Judging.{early_ends}
use Rattle.cg_hints.proofs.judge.Judge.try_pushing.Goals as goal

pub returns-in-Some-clause-answer : goal.returns-in-Some-clause-answer
returns-in-Some-clause-answer c =
    let rules = c.args.rules.now in
    (early_ends rules.library.now rules.width c.args.machine.now c.args.entry.now.hint.now c.in-Some.outcome (sym c.early_end.ensures ∙ c.in-Some.is)).0
