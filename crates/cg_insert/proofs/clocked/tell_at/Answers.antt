use Rattle.std.proofs.Common.{◌≡◌, ◌<◌, List, ℕ, Some, slice_get, ap, sym, ◌∙◌, subst}
use Rattle.cg_machine.proofs.Lists.{take_get}
use Rattle.cg_netlist.specs.Circuit.{Circuit}
use Rattle.cg_netlist.specs.View.{register_seen}
use Rattle.cg_netlist_parts.specs.Part.{Part}
use Rattle.cg_netlist_telling.proofs.OwnPart.{own_part}
use Rattle.cg_insert.proofs.Lookups.{not_le}
use Rattle.cg_netlist_telling.specs.Telling.{MayTell, WasTold}
use Rattle.cg_insert.proofs.clocked.tell_at.Goals as goal

pub tell_register-requires : goal.tell_register-requires
tell_register-requires c =
    let m = c.args.machine.now in
    let reg : ℕ = c.args.reg in
    let own : reg < m.own_registers = not_le m.own_registers reg (sym c.if-not-is_delay.ensures) in
    let at : slice_get m.circuit.registers reg ≡ Some (register_seen c.register-register.result) = sym (take_get m.own_registers m.circuit.registers reg own) ∙ (ap (λ (d : Circuit). slice_get d.registers reg) (sym c.netlist.ensures.netlist) ∙ c.register-register.ensures) in
    subst (MayTell c.args.builder.now) (own_part c.args.names.now c.args.gate (slice_get m.circuit.registers reg) (register_seen c.register-register.result) c.unwrap_or-clock.result at c.unwrap_or-clock.ensures) c.requires.parts

pub returns-then-not-is_delay : goal.returns-then-not-is_delay
returns-then-not-is_delay c =
    let m = c.args.machine.now in
    let reg : ℕ = c.args.reg in
    let own : reg < m.own_registers = not_le m.own_registers reg (sym c.if-not-is_delay.ensures) in
    let at : slice_get m.circuit.registers reg ≡ Some (register_seen c.register-register.result) = sym (take_get m.own_registers m.circuit.registers reg own) ∙ (ap (λ (d : Circuit). slice_get d.registers reg) (sym c.netlist.ensures.netlist) ∙ c.register-register.ensures) in
    subst (λ (ps : List Part). WasTold c.args.builder.now ps c.tell_register.new.builder c.tell_register.result) (sym (own_part c.args.names.now c.args.gate (slice_get m.circuit.registers reg) (register_seen c.register-register.result) c.unwrap_or-clock.result at c.unwrap_or-clock.ensures)) c.tell_register.ensures
