use Rattle.std.proofs.Common.{length, ◌∙◌, ap, arith}
use Rattle.cg_machine.proofs.WalkPlaces.{cells_small, order_long, own_walk_long, walk_small}
use Rattle.cg_machine.specs.Machine.{MachineData, order_of}
use Rattle.cg_netlist.proofs.Values.{element_at}
use Rattle.cg_netlist.specs.Circuit.{Circuit}
use Rattle.cg_netlist.specs.Nets.{walk_order}
use Rattle.std.proofs.lemmas.List.{length-take-le}
use Rattle.cg_hold.proofs.Layings.{lays_all, lays_next, order_within}
use Rattle.cg_hold.proofs.nets.lay_cells.Goals as goal

pub overflow_cast-cells : goal.overflow_cast-cells
overflow_cast-cells c =
    let order = c.order.ensures.order ∙ ap (λ (n : Circuit). walk_order n.cells) c.netlist.ensures.netlist in
    omega (arith, walk_small c.args.machine.now c.netlist.ensures.machine, ap length order)

pub overflow_add-cells : goal.overflow_add-cells
overflow_add-cells c =
    let m : MachineData = c.args.machine.now in
    let good = c.netlist.ensures.machine in
    let order = c.order.ensures.order ∙ ap (λ (n : Circuit). walk_order n.cells) c.netlist.ensures.netlist in
    let own = length-take-le m.own_cells m.circuit.cells (omega (arith, good.own_cells)) in
    omega (arith, own_walk_long m good, own, good.own_cells, cells_small m good, ap length order, c.gates.ensures)

pub cell_at-requires : goal.cell_at-requires
cell_at-requires c =
    let m : MachineData = c.args.machine.now in
    let good = c.netlist.ensures.machine in
    let order = c.order.ensures.order ∙ ap (λ (n : Circuit). walk_order n.cells) c.netlist.ensures.netlist in
    omega (arith, order_long m good, good.own_cells, ap length order, c.gates.ensures, c.loop-place-test.true)

pub lay_cell-requires-clause-cell : goal.lay_cell-requires-clause-cell
lay_cell-requires-clause-cell c = order_within c.args.machine.now c.netlist.ensures.machine c.loop-place.place c.cell_at.result c.cell_at.ensures

pub loop-place-preserved : goal.loop-place-preserved
loop-place-preserved c =
    let m : MachineData = c.args.machine.now in
    let p = element_at m.circuit.cells c.cell_at.result (order_within m c.netlist.ensures.machine c.loop-place.place c.cell_at.result c.cell_at.ensures) in
    lays_next m.circuit.cells (order_of m) c.loop-place.place c.cell_at.result p.0 c.args.words.now c.loop-place.words c.lay_cell.new.words c.cell_at.ensures p.1 c.loop-place.invariant (c.lay_cell.ensures p.0 p.1)

pub returns : goal.returns
returns c =
    let m : MachineData = c.args.machine.now in
    let good = c.netlist.ensures.machine in
    let order = c.order.ensures.order ∙ ap (λ (n : Circuit). walk_order n.cells) c.netlist.ensures.netlist in
    lays_all m c.loop-place.place c.args.words.now c.loop-place.words (omega (arith, order_long m good, good.own_cells, ap length order, c.gates.ensures, c.loop-place-test.false)) c.loop-place.invariant
