use Rattle.std.proofs.Common.{◌≡◌, Some, refl}
use Rattle.std.specs.List.{slice_get}
use Rattle.std.proofs.lemmas.Option.{slice_get_read}
use Rattle.cg_stimulus.proofs.NamesAdded.{named_more}
use Rattle.cg_stimulus.proofs.stimulus.names_at.Goals as goal

pub loop-net-preserved : goal.loop-net-preserved
loop-net-preserved c =
    let names = c.args.netlist.now.names in
    let nets = c.args.nets.now in
    let i = c.loop-net.net-index in
    let at : slice_get nets i ≡ Some c.net-item.result = slice_get_read nets _ i c.net-item.result refl c.loop-net-test.true c.net-item.is in
    named_more names nets i c.net-item.result c.name.result.now c.loop-net.names c.intern.new.self c.requires.different c.requires.nets c.requires.once at c.name.ensures c.loop-net.invariant c.in_ok-intern.ensures.names
