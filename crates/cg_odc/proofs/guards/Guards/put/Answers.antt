use Rattle.std.proofs.Common.{◌≡◌, ◌||◌, ◌&&◌, ◌++◌, ◌∷◌, [], nat_eq, ◌∙◌, ap, arith}
use Rattle.cg_net.specs.NetSets.{is_in}
use Rattle.cg_odc.specs.inner.Guarding.{list_at}
use Rattle.cg_odc.proofs.Lists.{put_at}
use Rattle.cg_odc.proofs.guards.Guards.put.Goals as goal

pub returns-in_ok-push-clause-each : goal.returns-in_ok-push-clause-each
returns-in_ok-push-clause-each c = λ g within q.
    let lists = c.args.self.now.lists.items in
    let place : c.number-place.result ≡ c.args.under = c.number-place.ensures.number in
    let below = c.if-place-len.true in
    let old = c.index_mut.result.now in
    let more : c.push.new.self ≡ old ++ c.args.guard ∷ [] = c.in_ok-push.ensures.parts ∙ ap (λ n. old ++ n ∷ []) c.number.ensures.number in
    put_at lists c.number-place.result c.args.guard old c.push.new.self (omega (arith, below, c.len.ensures)) c.index_mut.ensures.value more g within q
    ∙ ap (λ n. is_in (list_at lists g) q || (nat_eq g n && nat_eq q c.args.guard)) place
