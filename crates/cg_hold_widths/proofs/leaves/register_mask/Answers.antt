use Rattle.std.proofs.Common.{◌≡◌, ◌∙◌, ℕ, Bool, false, Some, slice_get, sym, ap, subst}
use Rattle.std.specs.List.{list_any}
use Rattle.std.specs.Option.{option_map_or}
use Rattle.cg_machine.specs.Machine.{MachineData}
use Rattle.cg_net.proofs.FoundNets.{take_some}
use Rattle.cg_netlist.specs.Circuit.{Circuit, RegisterCell, shown_nets}
use Rattle.cg_netlist.specs.View.{register_seen}
use Rattle.cg_hold_widths.specs.inner.Marked.{net_has}
use Rattle.cg_hold_widths.proofs.Counted.{any_map}
use Rattle.cg_hold_widths.proofs.leaves.register_mask.Goals as goal

pub returns-else-is_delay : goal.returns-else-is_delay
returns-else-is_delay c = λ i.
    let m : MachineData = c.args.machine.now in
    let cell : RegisterCell ℕ ℕ = register_seen c.register.result in
    let at : slice_get m.circuit.registers c.args.reg ≡ Some cell = take_some m.own_registers m.circuit.registers c.args.reg cell (subst (λ (n : Circuit). slice_get n.registers c.args.reg ≡ Some cell) c.netlist-netlist.ensures.netlist c.register.ensures) in
    c.outputs_mask.ensures i
    ∙ sym (ap (λ o. option_map_or (λ (r : RegisterCell ℕ ℕ). list_any (net_has c.args.masks.now i) (shown_nets r)) o false) at ∙ any_map (net_has c.args.masks.now i) (λ (o : ℕ × Bool). o.0) c.register.result.outputs.now)
