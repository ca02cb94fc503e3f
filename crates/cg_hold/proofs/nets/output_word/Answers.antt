use Rattle.std.proofs.Common.{◌≡◌, ◌<◌, ◌≤◌, ◌-◌, ℕ, Some, length, slice_get, sym, ◌∙◌, ap, subst, arith}
use Rattle.cg_machine.proofs.Lists.{all_at}
use Rattle.cg_machine.specs.Gates.{AddedGate, HasInputs, gate_cell}
use Rattle.cg_machine.specs.Machine.{MachineData}
use Rattle.cg_machine.specs.View.{gate_seen}
use Rattle.cg_netlist.proofs.Values.{element_at}
use Rattle.cg_netlist.specs.Circuit.{LogicCell}
use Rattle.cg_netlist.specs.Moment.{function_value}
use Rattle.cg_netlist.specs.View.{cell_seen}
use Rattle.cg_unroll.proofs.Cells.{read_gate, read_own}
use Rattle.cg_word.specs.Words.{IsWord, lane}
use Rattle.cg_hold.proofs.nets.output_word.Goals as goal

pub gate_word-requires : goal.gate_word-requires
gate_word-requires c =
    let m : MachineData = c.args.machine.now in
    let own : ℕ = length c.netlist-netlist.result.now.cells in
    let p = element_at m.circuit.cells c.args.id c.requires.cell in
    let past : own ≤ c.args.id = omega (arith, c.if-number-own.false, c.number.ensures.number, c.cells-own.ensures.count) in
    let place : slice_get m.gates (c.args.id - own) ≡ Some (gate_seen c.gate.result) =
    sym (ap (λ n. slice_get m.gates (n - own)) c.number-else-number-own.ensures.number)
    ∙ (sym (ap (λ n. slice_get m.gates (c.number-else-number-own.result - n)) c.cells-own.ensures.count) ∙ c.gate.ensures) in
    let same : gate_cell (gate_seen c.gate.result) ≡ p.0 = read_gate m c.netlist-netlist.ensures.machine c.netlist-netlist.result.now c.netlist-netlist.ensures.netlist c.args.id (gate_seen c.gate.result) p.0 past place p.1 in
    let fits = all_at (λ (gate : AddedGate). HasInputs gate.kind (length gate.inputs)) m.gates (c.args.id - own) (gate_seen c.gate.result) c.netlist-netlist.ensures.machine.gates_fit place in
    subst (HasInputs c.gate.result.kind) (ap (λ (z : LogicCell ℕ). length z.inputs) same ∙ sym (c.requires.long p.0 p.1)) fits

pub returns-then-number-own : goal.returns-then-number-own
returns-then-number-own c = λ cell stands.
    let low : c.args.id < length c.netlist-netlist.result.now.cells = omega (arith, c.if-number-own.true, c.number.ensures.number, c.cells-own.ensures.count) in
    subst (λ (z : LogicCell ℕ). IsWord c.function_word.result (λ i. function_value z.function (lane i c.args.inputs.now)))
    (read_own c.args.machine.now c.netlist-netlist.ensures.machine c.netlist-netlist.result.now c.netlist-netlist.ensures.netlist c.args.id (cell_seen c.cell.result) cell low c.cell.ensures stands) c.function_word.ensures

pub returns-else-number-own : goal.returns-else-number-own
returns-else-number-own c = λ cell stands.
    let m : MachineData = c.args.machine.now in
    let own : ℕ = length c.netlist-netlist.result.now.cells in
    let past : own ≤ c.args.id = omega (arith, c.if-number-own.false, c.number.ensures.number, c.cells-own.ensures.count) in
    let place : slice_get m.gates (c.args.id - own) ≡ Some (gate_seen c.gate.result) =
    sym (ap (λ n. slice_get m.gates (n - own)) c.number-else-number-own.ensures.number)
    ∙ (sym (ap (λ n. slice_get m.gates (c.number-else-number-own.result - n)) c.cells-own.ensures.count) ∙ c.gate.ensures) in
    subst (λ (z : LogicCell ℕ). IsWord c.gate_word.result (λ i. function_value z.function (lane i c.args.inputs.now)))
    (read_gate m c.netlist-netlist.ensures.machine c.netlist-netlist.result.now c.netlist-netlist.ensures.netlist c.args.id (gate_seen c.gate.result) cell past place stands) c.gate_word.ensures
