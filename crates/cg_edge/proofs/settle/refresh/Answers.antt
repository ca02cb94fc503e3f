use Rattle.std.proofs.Common.{◌≡◌, ◌<◌, ℕ, length, slice_get, slice_index_or, slice_set, Some, subst, sym, ap, ◌∙◌, arith}
use Rattle.std.proofs.lemmas.Option.{slice_get-get_or}
use Rattle.cg_netlist.proofs.Values.{element_at}
use Rattle.cg_edge.proofs.Facts.{cell_output}
use Rattle.cg_edge.proofs.Walk.{order_within, walk_at}
use Rattle.cg_edge.proofs.settle.refresh.Goals as goal

pub evaluate-bit-requires-clause-cell : goal.evaluate-bit-requires-clause-cell
evaluate-bit-requires-clause-cell c =
    let n = c.args.schedule.now.netlist.now in
    let k : ℕ = c.index-schedule-place.result in
    subst (λ x. x < length n.cells) c.index-schedule-place.is (order_within n.cells c.args.schedule.now.order.now c.requires.schedule.ordered c.args.place k c.index-schedule-place.is c.requires.place)

pub evaluate-bit-requires-clause-laid : goal.evaluate-bit-requires-clause-laid
evaluate-bit-requires-clause-laid c =
    let order = c.args.schedule.now.order.now in
    let k : ℕ = c.index-schedule-place.result in
    c.requires.schedule.laid.laid c.args.place (slice_index_or order c.args.place k) (slice_get-get_or order c.args.place k c.requires.place)

pub output-output-requires-clause-laid : goal.output-output-requires-clause-laid
output-output-requires-clause-laid c =
    let order = c.args.schedule.now.order.now in
    let k : ℕ = c.index-schedule-place.result in
    c.requires.schedule.laid.laid c.args.place (slice_index_or order c.args.place k) (slice_get-get_or order c.args.place k c.requires.place)

pub returns-clause-nets : goal.returns-clause-nets
returns-clause-nets c cell at =
    let n = c.args.schedule.now.netlist.now in
    let order = c.args.schedule.now.order.now in
    let l : ℕ = slice_index_or order c.args.place c.index-schedule-place.result in
    let is : slice_get n.cells l ≡ Some cell = sym (walk_at n c.requires.schedule.netlist.well_formed order c.requires.schedule.ordered c.args.place l (slice_get-get_or order c.args.place c.index-schedule-place.result c.requires.place)) ∙ at in
    ap (λ net. slice_set c.args.nets.now net c.evaluate-bit.result) (c.number-net.ensures.number ∙ c.output-output.ensures cell is) ∙ ap (slice_set c.args.nets.now cell.output) (c.evaluate-bit.ensures.value cell is)

pub bounds-nets-net : goal.bounds-nets-net
bounds-nets-net c =
    let n = c.args.schedule.now.netlist.now in
    let order = c.args.schedule.now.order.now in
    let k : ℕ = c.index-schedule-place.result in
    let l : ℕ = slice_index_or order c.args.place k in
    let within : l < length n.cells = subst (λ x. x < length n.cells) c.index-schedule-place.is (order_within n.cells order c.requires.schedule.ordered c.args.place k c.index-schedule-place.is c.requires.place) in
    let cell = element_at n.cells l within in
    let below = cell_output n c.requires.schedule.netlist.well_formed l cell.0 cell.1 (length c.args.nets.now) c.requires.nets in
    omega (arith, below, c.output-output.ensures cell.0 cell.1)

pub bounds-nets-net-2 : goal.bounds-nets-net-2
bounds-nets-net-2 c =
    let n = c.args.schedule.now.netlist.now in
    let order = c.args.schedule.now.order.now in
    let k : ℕ = c.index-schedule-place.result in
    let l : ℕ = slice_index_or order c.args.place k in
    let within : l < length n.cells = subst (λ x. x < length n.cells) c.index-schedule-place.is (order_within n.cells order c.requires.schedule.ordered c.args.place k c.index-schedule-place.is c.requires.place) in
    let cell = element_at n.cells l within in
    let below = cell_output n c.requires.schedule.netlist.well_formed l cell.0 cell.1 (length c.args.nets.now) c.requires.nets in
    omega (arith, below, c.output-output.ensures cell.0 cell.1)
