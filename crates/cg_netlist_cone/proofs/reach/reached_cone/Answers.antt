use Rattle.cg_netlist_cone.proofs.ConeEdge.{cone_made, places_within}
use Rattle.cg_netlist_cone.proofs.reach.reached_cone.Goals as goal

pub in_walk_order-requires : goal.in_walk_order-requires
in_walk_order-requires g c =
    let n = g.W.Wiring.circuit c.args.wiring.now in
    let e = c.in_ok-edge.edge in
    places_within n c.net_count-nets.ensures.wired.well_formed.driven (g.W.Wiring.order c.args.wiring.now) c.reach.new.found e.cells e.inputs e.registers c.in_ok-edge.ensures.edge

pub returns : goal.returns
returns g c =
    let n = g.W.Wiring.circuit c.args.wiring.now in
    let wired = c.net_count-nets.ensures.wired in
    let e = c.in_ok-edge.edge in
    cone_made n wired.well_formed.driven (g.W.Wiring.order c.args.wiring.now) c.reach.new.found e.cells e.inputs e.registers c.in_ok-edge.ensures.edge c.args.roots.now wired.rises c.in_ok-edge.ensures.cone
    (record { cells = c.in_ok-cells.cells; inputs = c.in_ok-inputs.inputs; registers = c.in_ok-registers.registers }) c.in_ok-cells.ensures c.in_ok-inputs.ensures c.in_ok-registers.ensures
