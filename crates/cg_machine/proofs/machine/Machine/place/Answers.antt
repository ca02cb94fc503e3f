use Rattle.std.proofs.Common.{◌≡◌, ℕ, List, length, slice_get, take, sym, ◌∙◌, ap, arith}
use Rattle.cg_netlist.specs.Circuit.{Circuit, LogicCell}
use Rattle.cg_netlist.specs.Nets.{walk_order}
use Rattle.cg_machine.specs.Machine.{MachineData}
use Rattle.cg_machine.proofs.WalkPlaces.{cells_small, place_added, place_own, walk_small}
use Rattle.cg_machine.proofs.machine.Machine.place.Goals as goal

pub overflow_cast-result : goal.overflow_cast-result
overflow_cast-result c =
    let order = c.order.ensures.order ∙ ap (λ (n : Circuit). walk_order n.cells) c.netlist-netlist.ensures.netlist in
    omega (arith, walk_small c.args.self.now c.netlist-netlist.ensures.machine, ap length order)

pub overflow_add-result : goal.overflow_add-result
overflow_add-result c =
    let order = c.order.ensures.order ∙ ap (λ (n : Circuit). walk_order n.cells) c.netlist-netlist.ensures.netlist in
    let number = c.number-else-number-own.ensures.number in
    omega (arith, walk_small c.args.self.now c.netlist-netlist.ensures.machine, cells_small c.args.self.now c.netlist-netlist.ensures.machine, ap length order, number, c.requires)

pub returns-then-number-own : goal.returns-then-number-own
returns-then-number-own c =
    place_own c.args.self.now c.netlist-netlist.ensures.machine c.args.id c.place.result (ap (λ (n : Circuit). slice_get (walk_order n.cells) c.place.result) (sym c.netlist-netlist.ensures.netlist) ∙ c.place.ensures)

pub returns-else-number-own : goal.returns-else-number-own
returns-else-number-own c =
    let m : MachineData = c.args.self.now in
    let own : List (LogicCell ℕ) = take m.own_cells m.circuit.cells in
    let order : c.order.result.now ≡ walk_order own = c.order.ensures.order ∙ ap (λ (n : Circuit). walk_order n.cells) c.netlist-netlist.ensures.netlist in
    let count : c.cells-own.result ≡ length own = c.cells-own.ensures.count ∙ ap (λ (n : Circuit). length n.cells) c.netlist-netlist.ensures.netlist in
    let number : c.number-else-number-own.result ≡ c.args.id = c.number-else-number-own.ensures.number in
    let first : c.number.result ≡ c.args.id = c.number.ensures.number in
    place_added m c.netlist-netlist.ensures.machine c.args.id _ (omega (arith, c.if-number-own.false, first, count)) c.requires (omega (arith, ap length order, count, number))
