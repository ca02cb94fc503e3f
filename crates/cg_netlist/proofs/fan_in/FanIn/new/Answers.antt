use Rattle.std.proofs.Common.{rules, ◌≡◌, ◌<◌, ◌++◌, All, ℕ, List, Some, refl, sym, ◌∙◌, ap, subst, length}
use Rattle.std.specs.List.{slice_get}
use Rattle.std.proofs.lemmas.Option.{slice_get_read}
use Rattle.cg_netlist.specs.inner.Ranking.{drivers_at}
use Rattle.cg_netlist.proofs.FanInLemmas.{cell_more}
use Rattle.cg_netlist.proofs.fan_in.FanIn.new.Goals as goal

pub push_drivers-requires : goal.push_drivers-requires
push_drivers-requires c =
    let at : slice_get c.args.cells.now c.loop-cell.cell-index ≡ Some c.cell-item.result = slice_get_read c.args.cells.now _ c.loop-cell.cell-index c.cell-item.result refl c.loop-cell-test.true c.cell-item.is in
    let inputs : c.deref.result.now ≡ c.cell-item.result.inputs = c.deref.ensures ∙ ap (λ k. k.inputs) c.cell.view_is in
    let P : List ℕ → Type 0 = λ nets. All (λ net. net < length c.args.drivers.now) nets in
    subst P (sym inputs) (c.requires.nets c.loop-cell.cell-index c.cell-item.result at)

pub loop-cell-preserved : goal.loop-cell-preserved
loop-cell-preserved c =
    let at : slice_get c.args.cells.now c.loop-cell.cell-index ≡ Some c.cell-item.result = slice_get_read c.args.cells.now _ c.loop-cell.cell-index c.cell-item.result refl c.loop-cell-test.true c.cell-item.is in
    let inputs : c.deref.result.now ≡ c.cell-item.result.inputs = c.deref.ensures ∙ ap (λ k. k.inputs) c.cell.view_is in
    cell_more c.args.drivers.now c.args.cells.now c.loop-cell.cell-index c.len.result c.cell-item.result c.loop-cell.starts.items c.loop-cell.above.items c.push-in-loop-cell.new.self.items c.push_drivers.new.above.items
    at c.loop-cell.invariant (c.in_ok-push_drivers.ensures ∙ ap (λ nets. c.loop-cell.above.items ++ drivers_at c.args.drivers.now nets) inputs) (search rules) c.in_ok-push-2.ensures.items
