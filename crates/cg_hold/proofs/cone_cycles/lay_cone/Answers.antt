use Rattle.std.proofs.Common.{◌≡◌, ◌<◌, ℕ, Some, List, length, refl, slice_get, subst}
use Rattle.std.proofs.lemmas.Option.{slice_get_read}
use Rattle.cg_machine.proofs.Lists.{all_at}
use Rattle.cg_netlist.proofs.Values.{element_at}
use Rattle.cg_hold.proofs.Layings.{lays_next}
use Rattle.cg_hold.proofs.cone_cycles.lay_cone.Goals as goal

pub loop-id-preserved : goal.loop-id-preserved
loop-id-preserved c =
    let m = c.args.look.now.search.now.machine.now in
    let order = c.args.look.now.cone.now.cells in
    let i = c.loop-id.id-index in
    let id = c.id-item.result in
    let at : slice_get order i ≡ Some id = subst (λ (l : List ℕ). slice_get l i ≡ Some id) c.as_slice-id-items.ensures.parts (slice_get_read c.as_slice-id-items.result.now _ i id refl c.loop-id-test.true c.id-item.is) in
    let p = element_at m.circuit.cells id (all_at (λ (k : ℕ). k < length m.circuit.cells) order i id c.requires.look.cone_is.within at) in
    lays_next m.circuit.cells order i id p.0 c.args.words.now c.loop-id.words c.lay_cell.new.words at p.1 c.loop-id.invariant (c.lay_cell.ensures p.0 p.1)
