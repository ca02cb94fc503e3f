use Rattle.std.proofs.Common.{◌≡◌, ◌<◌, ◌≤◌, ◌-◌, ℕ, Some, length, slice_get, sym, ◌∙◌, ap, subst, arith}
use Rattle.cg_aig.specs.Aig.{aig_ops}
use Rattle.cg_cell.specs.Eval.{build_term}
use Rattle.cg_netlist.specs.Circuit.{LogicCell}
use Rattle.cg_netlist.specs.View.{cell_seen}
use Rattle.cg_netlist.proofs.Values.{element_at}
use Rattle.cg_machine.specs.Gates.{AddedGate, HasInputs, gate_cell}
use Rattle.cg_machine.specs.Machine.{MachineData}
use Rattle.cg_machine.specs.View.{gate_seen}
use Rattle.cg_machine.proofs.Lists.{all_at}
use Rattle.cg_claim.specs.Build.{function_term}
use Rattle.cg_unroll.specs.Building.{Built, MayFail}
use Rattle.cg_unroll.proofs.Building.{if_err, if_ok}
use Rattle.cg_unroll.proofs.Cells.{read_gate, read_own}
use Rattle.cg_unroll.proofs.lay.build_cell.Goals as goal

pub build_gate-requires-clause-fits : goal.build_gate-requires-clause-fits
build_gate-requires-clause-fits c =
    let m : MachineData = c.args.machine.now in
    let p = element_at m.circuit.cells c.args.id c.requires.cell in
    let past : length c.netlist-netlist.result.now.cells ≤ c.args.id = omega (arith, c.if-number-own.false, c.number.ensures.number, c.cells-own.ensures.count) in
    let place : slice_get m.gates (c.args.id - length c.netlist-netlist.result.now.cells) ≡ Some (gate_seen c.gate.result) =
    sym (ap (λ n. slice_get m.gates (n - length c.netlist-netlist.result.now.cells)) c.number-else-number-own.ensures.number)
    ∙ (sym (ap (λ n. slice_get m.gates (c.number-else-number-own.result - n)) c.cells-own.ensures.count) ∙ c.gate.ensures) in
    let same : gate_cell (gate_seen c.gate.result) ≡ p.0 = read_gate m c.netlist-netlist.ensures.machine c.netlist-netlist.result.now c.netlist-netlist.ensures.netlist c.args.id (gate_seen c.gate.result) p.0 past place p.1 in
    let fits = all_at (λ (gate : AddedGate). HasInputs gate.kind (length gate.inputs)) m.gates (c.args.id - length c.netlist-netlist.result.now.cells) (gate_seen c.gate.result) c.netlist-netlist.ensures.machine.gates_fit place in
    subst (HasInputs c.gate.result.kind) (ap (λ (z : LogicCell ℕ). length z.inputs) same ∙ sym (c.requires.long p.0 p.1)) fits

pub returns-then-number-own-clause-built : goal.returns-then-number-own-clause-built
returns-then-number-own-clause-built c =
    let low : c.args.id < length c.netlist-netlist.result.now.cells = omega (arith, c.if-number-own.true, c.number.ensures.number, c.cells-own.ensures.count) in
    if_ok _ _ c.build_function.result (λ v h cell stands.
    subst (λ (z : LogicCell ℕ). Built c.args.aig.now c.build_function.new.aig v (build_term aig_ops c.args.inputs.now (function_term z.function) c.args.aig.now))
    (read_own c.args.machine.now c.netlist-netlist.ensures.machine c.netlist-netlist.result.now c.netlist-netlist.ensures.netlist c.args.id (cell_seen c.cell.result) cell low c.cell.ensures stands) h) c.build_function.ensures.built

pub returns-then-number-own-clause-failed : goal.returns-then-number-own-clause-failed
returns-then-number-own-clause-failed c =
    let low : c.args.id < length c.netlist-netlist.result.now.cells = omega (arith, c.if-number-own.true, c.number.ensures.number, c.cells-own.ensures.count) in
    if_err _ _ c.build_function.result (λ fault h cell stands.
    subst (λ (z : LogicCell ℕ). MayFail (build_term aig_ops c.args.inputs.now (function_term z.function) c.args.aig.now).domain fault)
    (read_own c.args.machine.now c.netlist-netlist.ensures.machine c.netlist-netlist.result.now c.netlist-netlist.ensures.netlist c.args.id (cell_seen c.cell.result) cell low c.cell.ensures stands) h) c.build_function.ensures.failed

pub returns-else-number-own-clause-built : goal.returns-else-number-own-clause-built
returns-else-number-own-clause-built c =
    let m : MachineData = c.args.machine.now in
    let past : length c.netlist-netlist.result.now.cells ≤ c.args.id = omega (arith, c.if-number-own.false, c.number.ensures.number, c.cells-own.ensures.count) in
    let place : slice_get m.gates (c.args.id - length c.netlist-netlist.result.now.cells) ≡ Some (gate_seen c.gate.result) =
    sym (ap (λ n. slice_get m.gates (n - length c.netlist-netlist.result.now.cells)) c.number-else-number-own.ensures.number)
    ∙ (sym (ap (λ n. slice_get m.gates (c.number-else-number-own.result - n)) c.cells-own.ensures.count) ∙ c.gate.ensures) in
    if_ok _ _ c.build_gate.result (λ v h cell stands.
    subst (λ (z : LogicCell ℕ). Built c.args.aig.now c.build_gate.new.aig v (build_term aig_ops c.args.inputs.now (function_term z.function) c.args.aig.now))
    (read_gate m c.netlist-netlist.ensures.machine c.netlist-netlist.result.now c.netlist-netlist.ensures.netlist c.args.id (gate_seen c.gate.result) cell past place stands) h) c.build_gate.ensures.built

pub returns-else-number-own-clause-failed : goal.returns-else-number-own-clause-failed
returns-else-number-own-clause-failed c =
    let m : MachineData = c.args.machine.now in
    let past : length c.netlist-netlist.result.now.cells ≤ c.args.id = omega (arith, c.if-number-own.false, c.number.ensures.number, c.cells-own.ensures.count) in
    let place : slice_get m.gates (c.args.id - length c.netlist-netlist.result.now.cells) ≡ Some (gate_seen c.gate.result) =
    sym (ap (λ n. slice_get m.gates (n - length c.netlist-netlist.result.now.cells)) c.number-else-number-own.ensures.number)
    ∙ (sym (ap (λ n. slice_get m.gates (c.number-else-number-own.result - n)) c.cells-own.ensures.count) ∙ c.gate.ensures) in
    if_err _ _ c.build_gate.result (λ fault h cell stands.
    subst (λ (z : LogicCell ℕ). MayFail (build_term aig_ops c.args.inputs.now (function_term z.function) c.args.aig.now).domain fault)
    (read_gate m c.netlist-netlist.ensures.machine c.netlist-netlist.result.now c.netlist-netlist.ensures.netlist c.args.id (gate_seen c.gate.result) cell past place stands) h) c.build_gate.ensures.failed
