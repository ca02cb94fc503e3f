use Rattle.std.proofs.Common.{◌≡◌, ◌+◌, ◌++◌, ℕ, Some, drop, length, map, set, slice_get, refl, sym, ◌∙◌, ap, subst, arith}
use Rattle.std.proofs.lemmas.Option.{slice_get_read}
use Rattle.cg_netlist.specs.Circuit.{Circuit, LogicCell}
use Rattle.cg_netlist.specs.declared.driver.Driver.TheVariants.{Cell}
use Rattle.cg_netlist.specs.inner.Driving.{IsTold, behind_cells}
use Rattle.cg_netlist.proofs.OrderLemmas.{cells_within}
use Rattle.cg_netlist.proofs.DriverTable.{cell_listed, cell_net_within}
use Rattle.cg_netlist.proofs.driver.tell_cells.Goals as goal

pub overflow_cast-k : goal.overflow_cast-k
overflow_cast-k c =
    let few = cells_within c.args.parts.now c.requires.netlist.in_order in
    let long = ap (λ (p : Circuit). length p.cells) c.parts.view_is in
    grind (arith, few, long, c.requires.netlist.nets, c.loop-k-test.true, c.len-k-end.ensures)

pub bounds-drivers-net : goal.bounds-drivers-net
bounds-drivers-net c =
    let parts : Circuit = c.args.parts.now in
    let k : ℕ = c.loop-k.k in
    let at : slice_get parts.cells k ≡ Some c.index.result.now = ap (λ (p : Circuit). slice_get p.cells k) (sym c.parts.view_is) ∙ slice_get_read c.parts.inside.cells.items _ k c.index.result.now refl (omega (arith, c.loop-k-test.true, c.len-k-end.ensures)) c.index.ensures in
    let net : c.number-net.result ≡ c.index.result.now.output = c.number-net.ensures.number ∙ ap (λ (x : LogicCell ℕ). x.output) c.behind-parts.view_is in
    omega (arith, cell_net_within parts c.requires.netlist.well_formed.driven k c.index.result.now at, net, c.loop-k.invariant.long)

pub loop-k-preserved : goal.loop-k-preserved
loop-k-preserved c =
    let parts : Circuit = c.args.parts.now in
    let k : ℕ = c.loop-k.k in
    let at : slice_get parts.cells k ≡ Some c.index.result.now = ap (λ (p : Circuit). slice_get p.cells k) (sym c.parts.view_is) ∙ slice_get_read c.parts.inside.cells.items _ k c.index.result.now refl (omega (arith, c.loop-k-test.true, c.len-k-end.ensures)) c.index.ensures in
    let net : c.number-net.result ≡ c.index.result.now.output = c.number-net.ensures.number ∙ ap (λ (x : LogicCell ℕ). x.output) c.behind-parts.view_is in
    subst (λ n. IsTold parts (map (λ (x : LogicCell ℕ). x.output) (drop (k + 1) parts.cells) ++ behind_cells parts) (set c.loop-k.drivers n (Cell c.new.result))) (sym net)
    (subst (λ j. IsTold parts (map (λ (x : LogicCell ℕ). x.output) (drop (k + 1) parts.cells) ++ behind_cells parts) (set c.loop-k.drivers c.index.result.now.output (Cell j))) (sym c.new.ensures)
    (cell_listed parts k c.index.result.now c.loop-k.drivers at c.loop-k.invariant))
