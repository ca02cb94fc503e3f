use Rattle.std.proofs.Common.{◌≡◌, Some, get_or, ◌∙◌, ap, arith, length}
use Rattle.std.specs.List.{slice_get, slice_set}
use Rattle.std.proofs.lemmas.Option.{slice_get-get_or}
use Rattle.cg_netlist_builder.specs.inner.Renumbering.{number_in}
use Rattle.cg_netlist_builder.specs.inner.Numbers.{GaterWithin}
use Rattle.cg_netlist.specs.Wiring.{map_gater}
use Rattle.cg_netlist_builder.proofs.InPlace.{All-next, change_next}
use Rattle.cg_netlist.proofs.Each.{from_recursion}
use Rattle.cg_netlist_builder.proofs.order.renumber_gaters.Goals as goal

pub renumber_gater-requires : goal.renumber_gater-requires
renumber_gater-requires c =
    let now = c.loop-gater.gaters in
    let i = c.loop-gater.gater-index in
    All-next (GaterWithin (length c.args.places.now)) (map_gater (number_in c.args.places.now)) c.args.gaters.now now i (get_or now i c.gater-item.result) (from_recursion (GaterWithin (length c.args.places.now)) c.args.gaters.now c.requires) c.loop-gater.invariant (slice_get-get_or now i c.gater-item.result (omega arith))

pub loop-gater-preserved : goal.loop-gater-preserved
loop-gater-preserved c =
    let now = c.loop-gater.gaters in
    let i = c.loop-gater.gater-index in
    let x = get_or now i c.gater-item.result in
    let at : slice_get now i ≡ Some x = slice_get-get_or now i c.gater-item.result (omega arith) in
    ap (slice_set now i) c.renumber_gater.ensures ∙ change_next (map_gater (number_in c.args.places.now)) c.args.gaters.now now i x c.loop-gater.invariant at
