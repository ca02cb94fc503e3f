use Rattle.std.proofs.Common.{◌||◌, ◌&&◌, nat_eq, ◌∙◌, ap}
use Rattle.cg_net.specs.NetSets.{is_in}
use Rattle.cg_claim_reach.specs.Fanout.{readers_at}
use Rattle.cg_claim_reach.proofs.Noting.{noted_at}
use Rattle.cg_claim_reach.proofs.readers.Readers.note.Goals as goal

pub returns : goal.returns
returns c = λ y k.
    let place = c.number-place.result in
    noted_at c.reach.new.lists.items place c.args.reader c.index_mut.result.now c.push.new.self c.in_ok-reach.ensures.reaches c.index_mut.ensures.value c.in_ok-push.ensures.parts y k
    ∙ (ap (λ l. is_in l k || (nat_eq y place && nat_eq k c.args.reader)) (c.reach.ensures.same y ∙ ap (λ l. readers_at l y) c.self.view_is)
    ∙ ap (λ n. is_in (readers_at c.args.self.now y) k || (nat_eq y n && nat_eq k c.args.reader)) c.number-place.ensures.number)
