use Rattle.std.proofs.Common.{◌≡◌, Some, refl, sym, ◌∙◌, ap, false, get_or}
use Rattle.std.specs.List.{slice_get}
use Rattle.std.proofs.lemmas.Option.{slice_get_read}
use Rattle.cg_netlist_builder.proofs.MarkLemmas.{marked_or}
use Rattle.cg_netlist_builder.proofs.ToldNets.{unmarked_step}
use Rattle.cg_netlist_builder.proofs.parts.add_unmarked.Goals as goal

pub loop-net-preserved : goal.loop-net-preserved
loop-net-preserved c =
    let xs = c.args.more.now in
    let i = c.loop-net.net-index in
    let at : slice_get xs i ≡ Some c.net-item.result = slice_get_read xs _ i c.net-item.result refl c.loop-net-test.true c.net-item.is in
    unmarked_step c.args.marks.now xs i c.net-item.result c.args.nets.now.items c.loop-net.nets.items c.add_unless.new.nets.items _ at (ap (λ k. get_or c.args.marks.now k false) c.number.ensures.number ∙ sym (marked_or c.args.marks.now c.net-item.result)) c.loop-net.invariant c.in_ok-add_unless.ensures
