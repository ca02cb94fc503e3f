use Rattle.std.proofs.Common.{◌≡◌, ℕ, length, slice_get, Some, take, sym, ap, ◌∙◌, arith}
use Rattle.std.proofs.lemmas.List.{take_all}
use Rattle.std.proofs.lemmas.Option.{slice_get-get_or}
use Rattle.cg_netlist.specs.View.{cell_seen}
use Rattle.cg_edge.specs.inner.Keeping.{walk_of}
use Rattle.cg_edge.specs.inner.Reads.{reads}
use Rattle.cg_edge.proofs.Facts.{cell_inputs}
use Rattle.cg_edge.proofs.Reading.{reads_more}
use Rattle.cg_edge.proofs.Walk.{order_within, walk_at, walk_long}
use Rattle.cg_edge.proofs.reads.reads.Goals as goal

pub cell-requires : goal.cell-requires
cell-requires c = order_within c.args.netlist.now.cells c.args.order.now c.requires c.loop-place.place c.index-order-place.result c.index-order-place.is c.loop-place-test.true

pub count-requires : goal.count-requires
count-requires c = cell_inputs c.args.netlist.now c.nets.ensures.netlist.well_formed c.index-order-place.result (cell_seen c.cell.result) c.cell.ensures (length c.loop-place.counts.items) c.loop-place.invariant.0

pub loop-place-preserved : goal.loop-place-preserved
loop-place-preserved c =
    let n = c.args.netlist.now in
    let i : ℕ = c.loop-place.place in
    let at : slice_get c.args.order.now i ≡ Some c.index-order-place.result = slice_get-get_or c.args.order.now i c.index-order-place.result c.loop-place-test.true ∙ ap (λ x. Some x) (sym c.index-order-place.is) in
    let here : slice_get (walk_of n) i ≡ Some (cell_seen c.cell.result) = walk_at n c.nets.ensures.netlist.well_formed c.args.order.now c.requires i c.index-order-place.result at ∙ c.cell.ensures in (
      c.count.ensures.long ∙ c.loop-place.invariant.0,
      λ x below.
          let more = reads_more (walk_of n) i x (cell_seen c.cell.result) here in
          let counted = c.in_ok-count.ensures.more x (let long = c.loop-place.invariant.0 in omega (arith, below, long)) in
          let before = c.loop-place.invariant.1 x below in
          omega (arith, more, counted, before),
    )

pub returns-clause-reads : goal.returns-clause-reads
returns-clause-reads c x below =
    let n = c.args.netlist.now in
    let long : length (walk_of n) ≡ length c.args.order.now = walk_long n c.nets.ensures.netlist.well_formed ∙ ap length (sym c.requires) in
    let all : take c.loop-place.place (walk_of n) ≡ walk_of n = take_all c.loop-place.place (walk_of n) (omega (arith, long, c.loop-place-test.false)) in
    let counted = c.loop-place.invariant.1 x below in
    let whole : reads x (take c.loop-place.place (walk_of n)) ≡ reads x (walk_of n) = ap (reads x) all in
    omega (arith, counted, whole)
