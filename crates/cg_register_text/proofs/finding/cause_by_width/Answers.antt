use Rattle.std.proofs.Common.{◌≡◌, true, false, if◌then◌else◌, nat_lt, ap, sym, ◌∙◌, arith}
use Rattle.std.proofs.lemmas.Bool.{le-ltb, lt-ltb}
use Rattle.cg_register_text.specs.declared.cause.Cause.TheVariants.{Wide}
use Rattle.cg_register_text.specs.inner.Finding.{or_free}
use Rattle.cg_register_text.proofs.finding.cause_by_width.Goals as goal

pub returns-then-width-from : goal.returns-then-width-from
returns-then-width-from c =
    let above : nat_lt c.args.most c.args.width ≡ true = lt-ltb c.args.most c.args.width (omega (arith, c.if-width-from.true, c.from.ensures)) in
    sym (ap (λ b. if b then Wide c.args.width else or_free c.args.failed) above)

pub returns-else-width-from : goal.returns-else-width-from
returns-else-width-from c =
    let below : nat_lt c.args.most c.args.width ≡ false = le-ltb c.args.most c.args.width (omega (arith, c.if-width-from.false, c.from.ensures)) in
    c.or_free.ensures ∙ sym (ap (λ b. if b then Wide c.args.width else or_free c.args.failed) below)
