use Rattle.std.proofs.Common.{◌≡◌, ◌+◌, ◌++◌, ℕ, Some, drop, length, map, set, slice_get, refl, sym, ◌∙◌, ap, subst, arith}
use Rattle.std.proofs.lemmas.Option.{slice_get_read}
use Rattle.cg_netlist.specs.Circuit.{Circuit, GatingCell}
use Rattle.cg_netlist.specs.declared.driver.Driver.TheVariants.{Gater}
use Rattle.cg_netlist.specs.inner.Driving.{IsTold, behind_gaters}
use Rattle.cg_netlist.proofs.OrderLemmas.{gaters_within}
use Rattle.cg_netlist.proofs.DriverTable.{gater_listed, gater_net_within}
use Rattle.cg_netlist.proofs.driver.tell_gaters.Goals as goal

pub overflow_cast-k : goal.overflow_cast-k
overflow_cast-k c =
    let few = gaters_within c.args.parts.now c.requires.netlist.in_order in
    let long = ap (λ (p : Circuit). length p.gaters) c.parts.view_is in
    grind (arith, few, long, c.requires.netlist.nets, c.loop-k-test.true, c.len-k-end.ensures)

pub bounds-drivers-net : goal.bounds-drivers-net
bounds-drivers-net c =
    let parts : Circuit = c.args.parts.now in
    let k : ℕ = c.loop-k.k in
    let at : slice_get parts.gaters k ≡ Some c.index.result.now = ap (λ (p : Circuit). slice_get p.gaters k) (sym c.parts.view_is) ∙ slice_get_read c.parts.inside.gaters.items _ k c.index.result.now refl (omega (arith, c.loop-k-test.true, c.len-k-end.ensures)) c.index.ensures in
    let net : c.number-net.result ≡ c.index.result.now.output = c.number-net.ensures.number ∙ ap (λ (x : GatingCell ℕ). x.output) c.behind-parts.view_is in
    omega (arith, gater_net_within parts c.requires.netlist.well_formed.driven k c.index.result.now at, net, c.loop-k.invariant.long)

pub loop-k-preserved : goal.loop-k-preserved
loop-k-preserved c =
    let parts : Circuit = c.args.parts.now in
    let k : ℕ = c.loop-k.k in
    let at : slice_get parts.gaters k ≡ Some c.index.result.now = ap (λ (p : Circuit). slice_get p.gaters k) (sym c.parts.view_is) ∙ slice_get_read c.parts.inside.gaters.items _ k c.index.result.now refl (omega (arith, c.loop-k-test.true, c.len-k-end.ensures)) c.index.ensures in
    let net : c.number-net.result ≡ c.index.result.now.output = c.number-net.ensures.number ∙ ap (λ (x : GatingCell ℕ). x.output) c.behind-parts.view_is in
    subst (λ n. IsTold parts (map (λ (x : GatingCell ℕ). x.output) (drop (k + 1) parts.gaters) ++ behind_gaters parts) (set c.loop-k.drivers n (Gater c.new.result))) (sym net)
    (subst (λ j. IsTold parts (map (λ (x : GatingCell ℕ). x.output) (drop (k + 1) parts.gaters) ++ behind_gaters parts) (set c.loop-k.drivers c.index.result.now.output (Gater j))) (sym c.new.ensures)
    (gater_listed parts k c.index.result.now c.loop-k.drivers at c.loop-k.invariant))
