use Rattle.std.proofs.Common.{◌≡◌, length, take, ◌∙◌, ap, arith}
use Rattle.cg_plan.proofs.Deciding.{taken_back}
use Rattle.cg_plan.proofs.Tried.{tried_so}
use Rattle.cg_plan.proofs.judge.Judge.try_stage.Goals as goal

pub returns-in-Ok-clause-tried : goal.returns-in-Ok-clause-tried
returns-in-Ok-clause-tried c =
    let done = c.in-Ok.ensures in
    let before = c.args.into.now.items in
    let pushed = c.try_pushing-result.new.into.items in
    let count : c.len-count.result ≡ length before = omega (arith, c.len-count.ensures, c.args.into.now.ok.0) in
    tried_so c.args.rules.now.library.now c.args.rules.now.settings.now c.args.machine.now c.netlist-before.ensures.machine c.args.entry.now.stage.now c.requires.fits
    c.try_pushing-result.new.machine c.args.entry.now.number before pushed c.keep_where.new.items.items c.in-Ok.outcome done.outcome done.machine done.certificates
    (λ ends. c.keep_where.ensures.kept (c.is_inserted.ensures ∙ ends))
    (λ ends. c.keep_where.ensures.taken_back (c.is_inserted.ensures ∙ ends) ∙ (ap (λ n. take n pushed) count ∙ taken_back before pushed done.grown))

pub returns-in-Err-clause-refused : goal.returns-in-Err-clause-refused
returns-in-Err-clause-refused c =
    let done = c.in-Err.ensures in
    let before = c.args.into.now.items in
    let pushed = c.try_pushing-result.new.into.items in
    let count : c.len-count.result ≡ length before = omega (arith, c.len-count.ensures, c.args.into.now.ok.0) in
    record { fault = done.fault; kept = done.kept; unchanged = c.truncate.ensures.items ∙ (ap (λ n. take n pushed) count ∙ taken_back before pushed done.grown) }
