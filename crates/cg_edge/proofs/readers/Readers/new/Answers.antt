use Rattle.std.proofs.Common.{◌≡◌, ◌<◌, ℕ, get_or, length, slice_get, Some, sym, subst, ap, ◌∙◌, arith}
use Rattle.std.proofs.lemmas.Option.{slice_get-get_or}
use Rattle.cg_netlist.specs.View.{cell_seen}
use Rattle.cg_edge.specs.inner.Keeping.{IsAdded, walk_of}
use Rattle.cg_edge.proofs.Added.{readers_more}
use Rattle.cg_edge.proofs.Facts.{cell_inputs}
use Rattle.cg_edge.proofs.Reading.{reads_more, reads_within}
use Rattle.cg_edge.proofs.Walk.{order_within, walk_at}
use Rattle.cg_edge.proofs.readers.Readers.new.Goals as goal

pub cell-requires : goal.cell-requires
cell-requires c = order_within c.args.netlist.now.cells c.args.order.now c.requires c.loop-place.place c.index-order-place.result c.index-order-place.is c.loop-place-test.true

pub add-requires-clause-within : goal.add-requires-clause-within
add-requires-clause-within c = cell_inputs c.args.netlist.now c.nets-nets.ensures.netlist.well_formed c.index-order-place.result (cell_seen c.cell.result) c.cell.ensures (length c.loop-place.filling.lists) c.loop-place.invariant.0.long

pub add-requires-clause-room : goal.add-requires-clause-room
add-requires-clause-room c x below =
    let n = c.args.netlist.now in
    let i : ℕ = c.loop-place.place in
    let at : slice_get c.args.order.now i ≡ Some c.index-order-place.result = slice_get-get_or c.args.order.now i c.index-order-place.result c.loop-place-test.true ∙ ap (λ k. Some k) (sym c.index-order-place.is) in
    let here : slice_get (walk_of n) i ≡ Some (cell_seen c.cell.result) = walk_at n c.nets-nets.ensures.netlist.well_formed c.args.order.now c.requires i c.index-order-place.result at ∙ c.cell.ensures in
    let long = c.loop-place.invariant.0.long in
    let net : x < length n.names = omega (arith, below, long) in
    let so_far = c.loop-place.invariant.1 x net in
    let within = reads_within (walk_of n) i x (cell_seen c.cell.result) here in
    let room = c.loop-place.invariant.2 x net in
    omega (arith, so_far, within, room)

pub loop-place-preserved : goal.loop-place-preserved
loop-place-preserved c =
    let n = c.args.netlist.now in
    let i : ℕ = c.loop-place.place in
    let at : slice_get c.args.order.now i ≡ Some c.index-order-place.result = slice_get-get_or c.args.order.now i c.index-order-place.result c.loop-place-test.true ∙ ap (λ k. Some k) (sym c.index-order-place.is) in
    let here : slice_get (walk_of n) i ≡ Some (cell_seen c.cell.result) = walk_at n c.nets-nets.ensures.netlist.well_formed c.args.order.now c.requires i c.index-order-place.result at ∙ c.cell.ensures in
    let added : IsAdded (cell_seen c.cell.result).inputs i c.loop-place.filling.lists c.add.new.filling.lists = subst (λ p. IsAdded (cell_seen c.cell.result).inputs p c.loop-place.filling.lists c.add.new.filling.lists) c.in_ok-narrow.ensures c.add.ensures.added in (
      readers_more (length n.names) i (cell_seen c.cell.result) (walk_of n) c.loop-place.filling.lists c.add.new.filling.lists here added c.loop-place.invariant.0,
      λ x below.
          let long = c.loop-place.invariant.0.long in
          let grown = c.add.ensures.more x (omega (arith, below, long)) in
          let so_far = c.loop-place.invariant.1 x below in
          let more = reads_more (walk_of n) i x (cell_seen c.cell.result) here in
          omega (arith, grown, so_far, more),
      λ x below.
          let same : get_or c.add.new.filling.room x 0 ≡ get_or c.loop-place.filling.room x 0 = ap (λ l. get_or l x 0) c.add.ensures.room in
          let room = c.loop-place.invariant.2 x below in
          omega (arith, same, room),
    )
