use Rattle.std.proofs.Common.{false, sym, ◌∙◌, ap}
use Rattle.std.specs.Option.{option_map_or}
use Rattle.std.proofs.lemmas.Bool.{leb-false}
use Rattle.cg_claim.specs.Reach.{reads_own}
use Rattle.cg_machine.specs.Machine.{MachineData}
use Rattle.cg_netlist.proofs.Values.{element_at}
use Rattle.cg_claim_reach.proofs.OwnRegisters.{machine_register}
use Rattle.cg_claim_reach.proofs.own.names_itself.Goals as goal

pub returns-then-is_delay : goal.returns-then-is_delay
returns-then-is_delay c = sym (ap (λ o. option_map_or reads_own o false) c.delay-delay.ensures)

pub returns-else-is_delay : goal.returns-else-is_delay
returns-else-is_delay c =
    let m : MachineData = c.args.machine.now in
    let cell = element_at m.circuit.registers c.args.reg c.requires in
    c.reads_own.ensures cell.0 (machine_register m c.netlist-netlist.result.now c.args.reg cell.0 c.netlist-netlist.ensures.netlist (leb-false m.own_registers c.args.reg (sym c.if-is_delay.ensures)) cell.1)
    ∙ sym (ap (λ o. option_map_or reads_own o false) cell.1)
