use Rattle.std.proofs.Common.{◌≡◌, Some, get_or, ◌∙◌, ap, arith}
use Rattle.std.specs.List.{slice_get, slice_set}
use Rattle.std.proofs.lemmas.Option.{slice_get-get_or}
use Rattle.cg_netlist_builder.specs.inner.Renumbering.{number_in}
use Rattle.cg_netlist_builder.proofs.InPlace.{change_next}
use Rattle.cg_netlist_builder.proofs.order.renumber.Goals as goal

pub loop-net-preserved : goal.loop-net-preserved
loop-net-preserved c =
    let now = c.loop-net.nets in
    let i = c.loop-net.net-index in
    let x = get_or now i c.net-item.result in
    let at : slice_get now i ≡ Some x = slice_get-get_or now i c.net-item.result (omega arith) in
    ap (slice_set now i) c.number.ensures ∙ change_next (number_in c.args.places.now) c.args.nets.now now i x c.loop-net.invariant at
