use Rattle.std.proofs.Common.{Bor, ℕ, List}
use Rattle.std.proofs.lemmas.Option.{slice_get-get_or}
use Rattle.std.proofs.lemmas.Result.{err_from_is_err_and}
use Rattle.cg_netlist_builder.proofs.AddedParts.{fault_step, mentioned_step}
use Rattle.cg_netlist_builder.proofs.adding.mention_each.Goals as goal

pub returns-in_err-net : goal.returns-in_err-net
returns-in_err-net c =
    let xs = c.args.mentioned.now in
    let i = c.loop-name.name-index in
    let p = err_from_is_err_and c.from_residual-in_err-net.result c.from_residual-in_err-net.ensures.1 in
    record { mentions = rw (p.1, p.2) (fault_step (λ (name : Bor (List ℕ)). name.now) xs i _ (slice_get-get_or xs i _ c.loop-name-test.true) c.args.names.now c.loop-name.names c.in_err-net.field-0.0 c.loop-name.invariant.names c.in_err-net.ensures.mentions) }

pub loop-name-preserved : goal.loop-name-preserved
loop-name-preserved c =
    let xs = c.args.mentioned.now in
    let i = c.loop-name.name-index in
    mentioned_step (λ (name : Bor (List ℕ)). name.now) xs i _ (slice_get-get_or xs i _ c.loop-name-test.true) c.args.names.now c.loop-name.names c.mention.new.names c.loop-name.nets.items c.put_few.new.few.items c.in_ok-net.net c.loop-name.invariant c.in_ok-net.ensures.mentions c.in_ok-put_few.ensures
