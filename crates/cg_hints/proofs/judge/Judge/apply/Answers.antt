use Rattle.std.proofs.Common.{◌≡◌, length, take, ◌∙◌, ap, arith}
use Rattle.cg_hints.proofs.Appending.{taken_back}
use Rattle.cg_hints.proofs.Applied.{applied}
use Rattle.cg_hints.proofs.judge.Judge.apply.Goals as goal

pub returns-in-Ok-clause-applied : goal.returns-in-Ok-clause-applied
returns-in-Ok-clause-applied c =
    let rules = c.args.rules.now in
    let before = c.args.into.now.items in
    let pushed = c.try_pushing-result.new.into.items in
    let done = c.in-Ok.ensures in
    let count : c.len-count.result ≡ length before = omega (arith, c.len-count.ensures, c.args.into.now.ok.0) in
    applied c.hint_laws.ensures.safe c.hint_laws.ensures.exactly c.outcome_laws.ensures.outcomes rules.library.now rules.width c.args.machine.now c.netlist-before.ensures.machine
    c.args.hint.now c.requires c.try_pushing-result.new.machine rules.proof c.args.number before pushed c.keep_where.new.items.items c.in-Ok.outcome done.answer done.machine done.certificates
    (λ ends. c.keep_where.ensures.kept (c.is_inserted.ensures ∙ ends))
    (λ ends. c.keep_where.ensures.taken_back (c.is_inserted.ensures ∙ ends) ∙ (ap (λ n. take n pushed) count ∙ taken_back before pushed done.grown))

pub returns-in-Err-clause-refused : goal.returns-in-Err-clause-refused
returns-in-Err-clause-refused c =
    let before = c.args.into.now.items in
    let pushed = c.try_pushing-result.new.into.items in
    let done = c.in-Err.ensures in
    let count : c.len-count.result ≡ length before = omega (arith, c.len-count.ensures, c.args.into.now.ok.0) in
    record { fault = done.answer; kept = done.kept; certificates = c.truncate.ensures.items ∙ (ap (λ n. take n pushed) count ∙ taken_back before pushed done.grown) }
