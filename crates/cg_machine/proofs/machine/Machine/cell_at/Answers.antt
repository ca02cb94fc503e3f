use Rattle.std.proofs.Common.{◌≡◌, ◌+◌, ◌-◌, ℕ, List, Some, length, slice_get, take, refl, sym, ◌∙◌, ap, arith}
use Rattle.std.proofs.lemmas.Option.{slice_get_read}
use Rattle.cg_netlist.specs.Circuit.{Circuit, LogicCell}
use Rattle.cg_netlist.specs.Nets.{walk_order}
use Rattle.cg_machine.specs.Machine.{MachineData}
use Rattle.cg_machine.proofs.WalkPlaces.{cell_added, cells_small, order_long, own_few, place_own, walk_small}
use Rattle.cg_machine.proofs.machine.Machine.cell_at.Goals as goal

pub overflow_cast-own : goal.overflow_cast-own
overflow_cast-own c =
    let order = c.order-order.ensures.order ∙ ap (λ (n : Circuit). walk_order n.cells) c.netlist-netlist.ensures.netlist in
    omega (arith, walk_small c.args.self.now c.netlist-netlist.ensures.machine, ap length order)

pub overflow_add-cells : goal.overflow_add-cells
overflow_add-cells c =
    let m : MachineData = c.args.self.now in
    let good = c.netlist-netlist.ensures.machine in
    let order = c.order-order.ensures.order ∙ ap (λ (n : Circuit). walk_order n.cells) c.netlist-netlist.ensures.netlist in
    let count : c.cells.result ≡ length (take m.own_cells m.circuit.cells) = c.cells.ensures.count ∙ ap (λ (n : Circuit). length n.cells) c.netlist-netlist.ensures.netlist in
    omega (arith, order_long m good, own_few m good, cells_small m good, ap length order, count, c.requires)

pub returns-then-place-own : goal.returns-then-place-own
returns-then-place-own c =
    let m : MachineData = c.args.self.now in
    let order : c.order-order.result.now ≡ walk_order (take m.own_cells m.circuit.cells) = c.order-order.ensures.order ∙ ap (λ (n : Circuit). walk_order n.cells) c.netlist-netlist.ensures.netlist in
    let at : slice_get c.order-order.result.now c.args.place ≡ Some c.index-order-place.result = slice_get_read c.order-order.result.now _ c.args.place c.index-order-place.result refl c.if-place-own.true c.index-order-place.is in
    place_own m c.netlist-netlist.ensures.machine c.index-order-place.result c.args.place (ap (λ ks. slice_get ks c.args.place) (sym order) ∙ at)

pub returns-else-place-own : goal.returns-else-place-own
returns-else-place-own c =
    let m : MachineData = c.args.self.now in
    let own : List (LogicCell ℕ) = take m.own_cells m.circuit.cells in
    let order : c.order-order.result.now ≡ walk_order own = c.order-order.ensures.order ∙ ap (λ (n : Circuit). walk_order n.cells) c.netlist-netlist.ensures.netlist in
    let count : c.cells.result ≡ length own = c.cells.ensures.count ∙ ap (λ (n : Circuit). length n.cells) c.netlist-netlist.ensures.netlist in
    let id : c.new.result ≡ c.cells.result + (c.args.place - length c.order-order.result.now) = c.new.ensures in
    cell_added m c.netlist-netlist.ensures.machine c.new.result c.args.place (omega (arith, c.if-place-own.false, ap length order)) c.requires (omega (arith, id, count, ap length order))
