use Rattle.std.proofs.Common.{slice_index_or}
use Rattle.std.proofs.lemmas.Option.{slice_get-get_or}
use Rattle.cg_net.proofs.Members.{member_at}
use Rattle.cg_hold.proofs.choice.packed_all.Goals as goal

pub pack-requires-clause-net : goal.pack-requires-clause-net
pack-requires-clause-net c =
    let nets = c.args.nets.now in
    let i = c.loop-net.net-index in
    c.requires.nets (slice_index_or nets i 0) (member_at nets i (slice_index_or nets i 0) (slice_get-get_or nets i 0 c.loop-net-test.true))

pub pack-requires-in-loop-net-clause-net : goal.pack-requires-in-loop-net-clause-net
pack-requires-in-loop-net-clause-net c =
    let nets = c.args.nets.now in
    let i = c.loop-net.net-index in
    c.requires.nets (slice_index_or nets i 0) (member_at nets i (slice_index_or nets i 0) (slice_get-get_or nets i 0 c.loop-net-test.true))
