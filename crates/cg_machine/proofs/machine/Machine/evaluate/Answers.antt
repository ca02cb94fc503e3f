use Rattle.std.proofs.Common.{◌-◌, ◌<◌, ℕ, Bool, false, List, drop, length, length-drop, map, sym, ◌∙◌, ap, subst, arith}
use Rattle.std.specs.List.{All}
use Rattle.std.proofs.lemmas.List.{take_all}
use Rattle.std.specs.Option.{option_to_list}
use Rattle.cg_netlist.specs.Circuit.{data_inputs}
use Rattle.cg_netlist.specs.Netlist.{widest_of}
use Rattle.cg_machine.specs.inner.Putting.{put_bits}
use Rattle.cg_machine.specs.Machine.{MachineData, values}
use Rattle.cg_machine.proofs.Cycles.{clock_below, delays_below, evaluated, gate_inputs_below, gate_outputs_below, inputs_below}
use Rattle.cg_machine.proofs.Cycles.{widest_kept}
use Rattle.cg_machine.proofs.machine.Machine.evaluate.Goals as goal

pub put_bits-requires-clause-nets : goal.put_bits-requires-clause-nets
put_bits-requires-clause-nets c =
    let i = c.self.inside in
    subst (All (λ net. net < length c.args.values.now)) (sym c.data_inputs.ensures)
    (inputs_below i.netlist i.prefix i.enables.items i.gates i.delays c.self.invariant.machine (length c.args.values.now) (c.requires.values ∙ sym (ap (λ (m : MachineData). length m.circuit.names) c.self.view_is)))

pub put_clock-requires : goal.put_clock-requires
put_clock-requires c =
    let i = c.self.inside in
    subst (λ o. All (λ net. net < length c.put_bits.new.values) (option_to_list o)) (sym c.clock.ensures)
    (clock_below i.netlist i.prefix i.enables.items i.gates i.delays c.self.invariant.machine (length c.put_bits.new.values) (c.put_bits.auto.values ∙ (c.requires.values ∙ sym (ap (λ (m : MachineData). length m.circuit.names) c.self.view_is))))

pub put-requires-clause-nets : goal.put-requires-clause-nets
put-requires-clause-nets c =
    let i = c.self.inside in
    delays_below i.netlist i.prefix i.enables.items i.gates i.delays c.self.invariant.machine (length c.put_registers.new.values)
    (c.put_registers.auto.values ∙ (c.put_clock.auto.values ∙ (c.put_bits.auto.values ∙ (c.requires.values ∙ sym (ap (λ (m : MachineData). length m.circuit.names) c.self.view_is)))))

pub settle-requires-clause-scratch : goal.settle-requires-clause-scratch
settle-requires-clause-scratch c =
    let i = c.self.inside in
    let wide = widest_kept i.netlist i.prefix i.enables.items i.gates i.delays in
    let same = ap (λ (m : MachineData). widest_of m.circuit.cells) c.self.view_is in
    omega (arith, wide, same, c.requires.scratch)

pub put-requires-2-clause-inputs : goal.put-requires-2-clause-inputs
put-requires-2-clause-inputs c =
    let i = c.self.inside in
    gate_inputs_below i.netlist i.prefix i.enables.items i.gates i.delays c.self.invariant.machine (length c.settle.new.bits)
    (c.settle.auto.bits ∙ (c.put.auto.values ∙ (c.put_registers.auto.values ∙ (c.put_clock.auto.values ∙ (c.put_bits.auto.values ∙ (c.requires.values ∙ sym (ap (λ (m : MachineData). length m.circuit.names) c.self.view_is)))))))

pub put-requires-2-clause-outputs : goal.put-requires-2-clause-outputs
put-requires-2-clause-outputs c =
    let i = c.self.inside in
    gate_outputs_below i.netlist i.prefix i.enables.items i.gates i.delays c.self.invariant.machine (length c.settle.new.bits)
    (c.settle.auto.bits ∙ (c.put.auto.values ∙ (c.put_registers.auto.values ∙ (c.put_clock.auto.values ∙ (c.put_bits.auto.values ∙ (c.requires.values ∙ sym (ap (λ (m : MachineData). length m.circuit.names) c.self.view_is)))))))

pub returns : goal.returns
returns c =
    let i = c.self.inside in
    let state : List Bool = c.args.state.now in
    let inputs : List Bool = c.args.inputs.now in
    let is_state = c.requires.state ∙ sym (ap (λ (m : MachineData). length m.circuit.registers) c.self.view_is) in
    let is_inputs = c.requires.inputs ∙ sym (ap (λ (m : MachineData). length (data_inputs m.circuit)) c.self.view_is) in
    let long = c.requires.values ∙ sym (ap (λ (m : MachineData). length m.circuit.names) c.self.view_is) in
    evaluated i.netlist i.prefix i.enables.items i.gates i.delays c.self.invariant.machine state inputs is_state is_inputs c.args.values.now c.put_bits.new.values c.put_clock.new.values c.put_registers.new.values c.put.new.values c.settle.new.bits c.put-2.new.values long
    (c.put_bits.ensures ∙ ap (λ ns. put_bits ns inputs c.args.values.now) c.data_inputs.ensures)
    (c.put_clock.ensures ∙ ap (λ o. put_bits (option_to_list o) (map (λ _. false) (option_to_list o)) c.put_bits.new.values) c.clock.ensures)
    c.put_registers.ensures
    (c.put.ensures
    ∙ (ap (λ bits. put_bits (map (λ (d : ℕ × ℕ). d.1) i.delays) bits c.put_registers.new.values) (take_all (length state - c.registers.result) (drop c.registers.result state) (omega (arith, length-drop c.registers.result state)))
    ∙ ap (λ n. put_bits (map (λ (d : ℕ × ℕ). d.1) i.delays) (drop n state) c.put_registers.new.values) c.registers.ensures.count))
    c.settle.ensures c.put-2.ensures
    ∙ ap (λ (m : MachineData). values m state inputs) c.self.view_is
