use Rattle.std.proofs.Common.{◌≡◌, ◌+◌, ℕ, length, slice_get, ap, sym, ◌∙◌, subst, arith}
use Rattle.std.specs.Option.{option_copied, option_map, option_to_list}
use Rattle.cg_machine.specs.Machine.{enable_of}
use Rattle.cg_netlist.specs.Ordered.{place_in}
use Rattle.cg_insert.proofs.ClockedPlaces.{AtNumber, at_number, registers_long}
use Rattle.cg_netlist_telling.proofs.ToldParts.{end_at, may_at, told_at}
use Rattle.cg_insert.specs.Insert.{enables_of, first_gater_output}
use Rattle.cg_insert.specs.inner.GatedParts.{gated_registers}
use Rattle.cg_netlist_telling.specs.NamedParts.{clocked_part, clocked_parts, with_clock}
use Rattle.cg_netlist_telling.specs.Telling.{MayTell, told}
use Rattle.cg_insert.proofs.clocked.tell_registers.Goals as goal

pub gate_of-gate-requires-clause-small : goal.gate_of-gate-requires-clause-small
gate_of-gate-requires-clause-small c = omega (arith, ap length c.requires.enables, c.first_gater_output-first.ensures.fits)

pub tell_at-requires-clause-parts : goal.tell_at-requires-clause-parts
tell_at-requires-clause-parts c =
    let test = option_copied c.args.gating.now.test in
    let m = c.args.gating.now.machine.now in
    let names = c.args.names.now in
    let n : ℕ = c.loop-number.number in
    let reg : c.new-reg.result ≡ n = c.new-reg.ensures in
    let gate : c.gate_of-gate.result ≡ option_map (λ enable. first_gater_output m test + place_in (enables_of m) enable) (enable_of m n) =
    c.gate_of-gate.ensures ∙ (ap (λ r. option_map (λ enable. c.first_gater_output-first.result + place_in c.args.gating.now.enables.now enable) (enable_of m r)) reg
    ∙ (ap (λ k. option_map (λ enable. k + place_in c.args.gating.now.enables.now enable) (enable_of m n)) c.first_gater_output-first.ensures.first ∙ ap (λ es. option_map (λ enable. first_gater_output m test + place_in es enable) (enable_of m n)) c.requires.enables)) in
    let at : AtNumber test m names c.gate_of-gate.result n = at_number test m names c.gate_of-gate.result n c.netlist-netlist.ensures.machine (omega (arith, c.loop-number-test.true, c.registers-number-end.ensures)) gate in
    subst (MayTell c.loop-number.builder) (sym (ap (λ r. clocked_parts names (with_clock c.gate_of-gate.result (option_to_list (slice_get m.circuit.registers r)))) reg ∙ at.part))
    (may_at (clocked_part names) c.args.builder.now c.loop-number.builder (gated_registers test m) n at.register at.stands c.requires.parts c.loop-number.invariant)

pub loop-number-preserved : goal.loop-number-preserved
loop-number-preserved c =
    let test = option_copied c.args.gating.now.test in
    let m = c.args.gating.now.machine.now in
    let names = c.args.names.now in
    let n : ℕ = c.loop-number.number in
    let reg : c.new-reg.result ≡ n = c.new-reg.ensures in
    let gate : c.gate_of-gate.result ≡ option_map (λ enable. first_gater_output m test + place_in (enables_of m) enable) (enable_of m n) =
    c.gate_of-gate.ensures ∙ (ap (λ r. option_map (λ enable. c.first_gater_output-first.result + place_in c.args.gating.now.enables.now enable) (enable_of m r)) reg
    ∙ (ap (λ k. option_map (λ enable. k + place_in c.args.gating.now.enables.now enable) (enable_of m n)) c.first_gater_output-first.ensures.first ∙ ap (λ es. option_map (λ enable. first_gater_output m test + place_in es enable) (enable_of m n)) c.requires.enables)) in
    let at : AtNumber test m names c.gate_of-gate.result n = at_number test m names c.gate_of-gate.result n c.netlist-netlist.ensures.machine (omega (arith, c.loop-number-test.true, c.registers-number-end.ensures)) gate in
    told_at (clocked_part names) c.args.builder.now c.loop-number.builder c.tell_at.new.builder (gated_registers test m) n at.register at.stands c.loop-number.invariant
    (c.in_ok-tell_at.ensures ∙ ap (told c.loop-number.builder) (ap (λ r. clocked_parts names (with_clock c.gate_of-gate.result (option_to_list (slice_get m.circuit.registers r)))) reg ∙ at.part))

pub returns : goal.returns
returns c =
    let test = option_copied c.args.gating.now.test in
    let m = c.args.gating.now.machine.now in
    end_at (clocked_part c.args.names.now) c.args.builder.now c.loop-number.builder (gated_registers test m) c.loop-number.number (omega (arith, registers_long test m c.netlist-netlist.ensures.machine, c.loop-number-test.false, c.registers-number-end.ensures)) c.loop-number.invariant
