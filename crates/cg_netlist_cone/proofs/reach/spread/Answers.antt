use Rattle.std.proofs.Common.{◌≡◌, ◌≤◌, ℕ, ◌+◌, List, get_or, length, refl, slice_get, Some, take, ◌∙◌, ap, subst, arith}
use Rattle.std.proofs.lemmas.Option.{slice_get-get_or, slice_get_within}
use Rattle.cg_net.proofs.FoundNets.{front, take_front}
use Rattle.cg_netlist.specs.Drivers.{IsDriver}
use Rattle.cg_netlist.specs.declared.driver.Driver.TheVariants.{Cell}
use Rattle.cg_netlist_cone.proofs.ConeEdge.{ok_then}
use Rattle.cg_netlist_cone.proofs.ConeWalk.{reached_cell, reached_edge}
use Rattle.cg_netlist_cone.proofs.reach.spread.Goals as goal

pub cell_inputs-requires : goal.cell_inputs-requires
cell_inputs-requires g c =
    let n = g.W.Wiring.circuit c.args.wiring.now in
    let found : List ℕ = c.args.found.now in
    let net : ℕ = get_or found c.args.next 0 in
    let at : slice_get found c.args.next ≡ Some net = slice_get-get_or found c.args.next 0 c.requires.next in
    let d : IsDriver n net (Cell c.in-Cell.id) = subst (IsDriver n net) c.in-Cell.is (c.requires.drives net at) in
    slice_get_within n.cells c.in-Cell.id d.0 d.1

pub returns-in-Cell : goal.returns-in-Cell
returns-in-Cell g c =
    let n = g.W.Wiring.circuit c.args.wiring.now in
    let found : List ℕ = c.args.found.now in
    let net : ℕ = get_or found c.args.next 0 in
    let at : slice_get found c.args.next ≡ Some net = slice_get-get_or found c.args.next 0 c.requires.next in
    let d : IsDriver n net (Cell c.in-Cell.id) = subst (IsDriver n net) c.in-Cell.is (c.requires.drives net at) in
    record {
      reached = ok_then c.extend.result c.extend.ensures (λ is roots r.
          reached_cell n c.net_count-nets.ensures.wired.well_formed roots found c.args.next net r at c.requires.next c.in-Cell.id d c.cell_inputs.result.now c.extend.new.self (c.cell_inputs.ensures d.0 d.1) is);
      kept = ok_then c.extend.result c.extend.ensures (λ is.
          let f = front found c.cell_inputs.result.now in
          let below : c.args.next + 1 ≤ length found = omega (arith, c.requires.next) in
          ap (take (c.args.next + 1)) (is ∙ f.1) ∙ take_front (c.args.next + 1) found f.0 below);
    }

pub returns-in_default : goal.returns-in_default
returns-in_default g c = record {
  reached = λ roots r.
      let found : List ℕ = c.args.found.now in
      let net : ℕ = get_or found c.args.next 0 in
      let at : slice_get found c.args.next ≡ Some net = slice_get-get_or found c.args.next 0 c.requires.next in
      reached_edge (g.W.Wiring.circuit c.args.wiring.now) c.net_count-nets.ensures.wired.well_formed roots found c.args.next net r at c.requires.next c.args.driver.now (c.requires.drives net at) c.in_default.not-Cell;
  kept = refl;
}
