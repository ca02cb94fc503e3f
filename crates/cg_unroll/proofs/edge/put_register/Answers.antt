use Rattle.std.proofs.Common.{◌<◌, ℕ, Bool, false, List, get_or, length, slice_set, unwrap_or, refl, sym, ◌∙◌, ap, subst, arith}
use Rattle.std.proofs.lemmas.Bool.{leb-false}
use Rattle.std.proofs.lemmas.Option.{slice_get-get_or}
use Rattle.cg_netlist.specs.Circuit.{RegisterCell}
use Rattle.cg_netlist.specs.View.{register_seen}
use Rattle.cg_netlist.proofs.DriverTable.{register_net_within}
use Rattle.cg_machine.specs.Machine.{MachineData, delay_cell}
use Rattle.cg_unroll.specs.inner.Filling.{AgreesAt, AgreesWith, IsValid, Puts, nets_shown}
use Rattle.cg_unroll.proofs.Building.{if_ok}
use Rattle.cg_claim_reach.proofs.OwnRegisters.{own_register}
use Rattle.cg_unroll.proofs.Filling.{puts_at_register, puts_one}
use Rattle.cg_unroll.proofs.edge.put_register.Goals as goal

pub put-requires : goal.put-requires
put-requires c =
    let m : MachineData = c.args.machine.now in
    let small = register_net_within m.circuit c.netlist-netlist.ensures.machine.well_formed.driven c.args.reg (delay_cell (unwrap_or m.circuit.clock 0) c.delay-output.result.0 c.delay-output.result.1) 0 c.delay-output.result.1 false c.delay-output.ensures refl in
    omega (arith, small, c.number.ensures.number, c.requires.literals)

pub put_outputs-requires : goal.put_outputs-requires
put_outputs-requires c = λ k d below.
    let m : MachineData = c.args.machine.now in
    let outputs : List (ℕ × Bool) = c.register.result.outputs.now in
    let at = own_register m c.netlist-netlist.result.now c.args.reg (register_seen c.register.result) c.netlist-netlist.ensures.netlist (leb-false m.own_registers c.args.reg (sym c.if-is_delay.ensures)) c.register.ensures in
    let small = register_net_within m.circuit c.netlist-netlist.ensures.machine.well_formed.driven c.args.reg (register_seen c.register.result) k (get_or outputs k d).0 (get_or outputs k d).1 at (slice_get-get_or outputs k d below) in
    omega (arith, small, c.requires.literals)

pub returns-then-is_delay-clause-put : goal.returns-then-is_delay-clause-put
returns-then-is_delay-clause-put c =
    let m : MachineData = c.args.machine.now in
    let old : List ℕ = c.args.literals.now in
    let v : ℕ = c.args.state in
    let output : ℕ = c.delay-output.result.1 in
    let delay : RegisterCell ℕ ℕ = delay_cell (unwrap_or m.circuit.clock 0) c.delay-output.result.0 output in
    let small = register_net_within m.circuit c.netlist-netlist.ensures.machine.well_formed.driven c.args.reg delay 0 output false c.delay-output.ensures refl in
    let below : output < length old = omega (arith, small, c.requires.literals) in
    if_ok _ _ c.put.result (λ done put.
    subst (Puts (AgreesWith m c.args.reg v) (IsValid v) (nets_shown m c.args.reg) old) (sym (put ∙ ap (λ n. slice_set old n v) c.number.ensures.number))
    (puts_at_register m c.args.reg delay v old (slice_set old output v) c.delay-output.ensures
    (puts_one (AgreesAt delay.outputs v) (IsValid v) old output v below (λ g agree. agree 0 output false refl) (λ s valid. valid)))) c.put.ensures.put

pub returns-else-is_delay-clause-put : goal.returns-else-is_delay-clause-put
returns-else-is_delay-clause-put c =
    let m : MachineData = c.args.machine.now in
    let at = own_register m c.netlist-netlist.result.now c.args.reg (register_seen c.register.result) c.netlist-netlist.ensures.netlist (leb-false m.own_registers c.args.reg (sym c.if-is_delay.ensures)) c.register.ensures in
    if_ok _ _ c.put_outputs.result (λ done put. puts_at_register m c.args.reg (register_seen c.register.result) c.args.state c.args.literals.now c.put_outputs.new.literals at put) c.put_outputs.ensures.put
