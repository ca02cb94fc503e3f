use Rattle.cg_net.proofs.Members.{member_at}
use Rattle.cg_stage_groups.proofs.Fronts.{one_among}
use Rattle.cg_stage_groups.proofs.front.put_ahead.Goals as goal

pub loop-place-preserved : goal.loop-place-preserved
loop-place-preserved c =
    one_among c.loop-place.ahead.items c.args.found.now c.push.new.self.items c.net.result c.in_ok-push.ensures.items (member_at c.args.found.now c.loop-place.place c.net.result c.net.ensures) c.loop-place.invariant
