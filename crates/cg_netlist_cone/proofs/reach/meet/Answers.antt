use Rattle.std.proofs.Common.{ℕ, List, [], ◌∷◌, ◌++◌, sym, subst}
use Rattle.cg_netlist.specs.Drivers.{IsDriver}
use Rattle.cg_netlist.specs.declared.driver.Driver.TheVariants.{Cell}
use Rattle.cg_netlist_cone.specs.inner.Reaching.{IsEdge}
use Rattle.cg_netlist_cone.proofs.ConeEdge.{edge_cell, edge_clock, edge_gater, edge_input, edge_register, pushed_ok}
use Rattle.cg_net.proofs.Members.{one_place}
use Rattle.std.proofs.lemmas.Option.{slice_get_within}
use Rattle.cg_netlist_cone.proofs.reach.meet.Goals as goal

pub returns-in-Input : goal.returns-in-Input
returns-in-Input g c =
    let n = g.W.Wiring.circuit c.args.wiring.now in
    let order : List ℕ = g.W.Wiring.order c.args.wiring.now in
    let e = c.args.edge.now in
    let net : ℕ = c.args.net in
    let P : List ℕ → Type 0 = λ l. (nets : List ℕ) → IsEdge n order nets e.cells e.inputs e.registers → IsEdge n order (nets ++ net ∷ []) e.cells l e.registers in
    pushed_ok P c.push.result e.inputs c.push.new.self c.number.result c.push.ensures.parts
    (subst (λ x. P (e.inputs ++ x ∷ [])) (sym c.number.ensures.number) (λ nets edge. edge_input n c.net_count-nets.ensures.wired.well_formed.driven order nets net e.cells e.inputs e.registers edge (subst (IsDriver n net) c.in-Input.is c.requires)))

pub cell_place-requires : goal.cell_place-requires
cell_place-requires g c =
    let n = g.W.Wiring.circuit c.args.wiring.now in
    let d : IsDriver n c.args.net (Cell c.in-Cell.id) = subst (IsDriver n c.args.net) c.in-Cell.is c.requires in
    slice_get_within n.cells c.in-Cell.id d.0 d.1

pub returns-in-Cell : goal.returns-in-Cell
returns-in-Cell g c =
    let n = g.W.Wiring.circuit c.args.wiring.now in
    let order : List ℕ = g.W.Wiring.order c.args.wiring.now in
    let e = c.args.edge.now in
    let net : ℕ = c.args.net in
    let wired = c.net_count-nets.ensures.wired in
    let P : List ℕ → Type 0 = λ l. (nets : List ℕ) → IsEdge n order nets e.cells e.inputs e.registers → IsEdge n order (nets ++ net ∷ []) l e.inputs e.registers in
    pushed_ok P c.push-in-Cell.result e.cells c.push-in-Cell.new.self c.cell_place.result c.push-in-Cell.ensures.parts
    (λ nets edge. edge_cell n wired.well_formed.driven order nets net e.cells e.inputs e.registers edge (λ i j k at_i at_j. one_place order i j k wired.once at_i at_j) c.in-Cell.id c.cell_place.result (subst (IsDriver n net) c.in-Cell.is c.requires) c.cell_place.ensures)

pub returns-in-Register : goal.returns-in-Register
returns-in-Register g c =
    let n = g.W.Wiring.circuit c.args.wiring.now in
    let order : List ℕ = g.W.Wiring.order c.args.wiring.now in
    let e = c.args.edge.now in
    let net : ℕ = c.args.net in
    let P : List ℕ → Type 0 = λ l. (nets : List ℕ) → IsEdge n order nets e.cells e.inputs e.registers → IsEdge n order (nets ++ net ∷ []) e.cells e.inputs l in
    pushed_ok P c.push-in-Register.result e.registers c.push-in-Register.new.self c.number-in-Register.result c.push-in-Register.ensures.parts
    (subst (λ x. P (e.registers ++ x ∷ [])) (sym c.number-in-Register.ensures.number) (λ nets edge. edge_register n c.net_count-nets.ensures.wired.well_formed.driven order nets net e.cells e.inputs e.registers edge c.in-Register.reg _ (subst (IsDriver n net) c.in-Register.is c.requires)))

pub returns-in-Clock : goal.returns-in-Clock
returns-in-Clock g c = λ nets edge.
    let e = c.args.edge.now in
    edge_clock (g.W.Wiring.circuit c.args.wiring.now) c.net_count-nets.ensures.wired.well_formed.driven (g.W.Wiring.order c.args.wiring.now) nets c.args.net e.cells e.inputs e.registers edge (subst (IsDriver (g.W.Wiring.circuit c.args.wiring.now) c.args.net) c.in-Clock.is c.requires)

pub returns-in-Gater : goal.returns-in-Gater
returns-in-Gater g c = λ nets edge.
    let e = c.args.edge.now in
    edge_gater (g.W.Wiring.circuit c.args.wiring.now) c.net_count-nets.ensures.wired.well_formed.driven (g.W.Wiring.order c.args.wiring.now) nets c.args.net e.cells e.inputs e.registers edge _ (subst (IsDriver (g.W.Wiring.circuit c.args.wiring.now) c.args.net) c.in-Gater.is c.requires)
