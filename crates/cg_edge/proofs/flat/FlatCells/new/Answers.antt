use Rattle.std.proofs.Common.{◌≡◌, ◌<◌, ℕ, List, length, slice_get, Some, sym, subst, ap, ◌∙◌}
use Rattle.std.proofs.lemmas.Option.{slice_get-get_or}
use Rattle.cg_netlist.specs.Circuit.{LogicCell}
use Rattle.cg_netlist.proofs.Values.{element_at}
use Rattle.cg_edge.proofs.Laid.{laid_more}
use Rattle.cg_edge.proofs.flat.FlatCells.new.Goals as goal

pub loop-id-preserved : goal.loop-id-preserved
loop-id-preserved c =
    let n = c.args.netlist.now in
    let order : List ℕ = c.args.order.now in
    let i : ℕ = c.loop-id.id-index in
    let k : ℕ = c.id-item.result in
    let at : slice_get order i ≡ Some k = slice_get-get_or order i k c.loop-id-test.true ∙ ap (λ x. Some x) (sym c.id-item.is) in
    let below : k < length n.cells = subst (λ x. x < length n.cells) (sym c.id-item.is) (c.requires i k c.loop-id-test.true) in
    let cell : (cell : LogicCell ℕ) × (slice_get n.cells k ≡ Some cell) = element_at n.cells k below in
    laid_more n order i k cell.0 c.loop-id.cells c.push.new.self at cell.1 (c.in_ok-push.ensures cell.0 cell.1) c.loop-id.invariant
