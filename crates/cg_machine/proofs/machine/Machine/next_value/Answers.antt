use Rattle.std.proofs.Common.{◌≡◌, ◌<◌, ◌≤◌, ℕ, false, List, Some, get_or, length, map, slice_get, unwrap_or, refl, sym, ◌∙◌}
use Rattle.std.proofs.Common.{ap, subst, arith}
use Rattle.std.proofs.lemmas.Bool.{leb-false, leb-true}
use Rattle.cg_netlist.specs.Circuit.{RegisterCell}
use Rattle.cg_netlist.specs.History.{next_value}
use Rattle.cg_netlist.specs.Moment.{values_at}
use Rattle.cg_netlist.proofs.Values.{element_at}
use Rattle.cg_machine.specs.inner.Kept.{delay_of}
use Rattle.cg_machine.proofs.Lists.{get_front}
use Rattle.cg_machine.specs.Machine.{MachineData, delay_cell}
use Rattle.cg_machine.proofs.Cycles.{delay_net_below, delay_next, loaded_next}
use Rattle.cg_machine.proofs.machine.Machine.next_value.Goals as goal

pub bounds-values-number : goal.bounds-values-number
bounds-values-number c =
    let m : MachineData = c.args.self.now in
    let cell : RegisterCell ℕ ℕ = delay_cell (unwrap_or m.circuit.clock 0) c.delay-net.result.0 c.delay-net.result.1 in
    subst (λ n. n < length c.args.values.now) (sym c.number-then-is_delay.ensures.number) (delay_net_below m c.netlist-netlist.ensures.machine c.args.values.now c.args.state.now c.requires.values c.args.reg cell c.delay-net.result.0 c.delay-net.ensures refl)

pub returns-then-is_delay : goal.returns-then-is_delay
returns-then-is_delay c =
    let m : MachineData = c.args.self.now in
    let added : m.own_registers ≤ c.args.reg = leb-true m.own_registers c.args.reg (sym c.if-is_delay.ensures) in
    ap (λ n. get_or c.args.values.now n false) c.number-then-is_delay.ensures.number
    ∙ delay_next m c.netlist-netlist.ensures.machine c.args.values.now c.args.state.now c.requires.values c.args.reg (unwrap_or m.circuit.clock 0) c.delay-net.result.0 c.delay-net.result.1 added c.delay-net.ensures

pub returns-then-is_loaded : goal.returns-then-is_loaded
returns-then-is_loaded c =
    let m : MachineData = c.args.self.now in
    let i = c.self.inside in
    let rs : List (RegisterCell ℕ ℕ) = i.netlist.registers in
    let reg : ℕ = c.args.reg in
    let count : length rs ≡ m.own_registers = ap (λ (n : MachineData). n.own_registers) c.self.view_is in
    let low : reg < m.own_registers = leb-false m.own_registers reg (sym c.if-is_delay.ensures) in
    let below : reg < length rs = omega (arith, low, count) in
    let cell : (x : RegisterCell ℕ ℕ) × (slice_get rs reg ≡ Some x) = element_at rs reg below in
    let at : slice_get m.circuit.registers reg ≡ Some cell.0 = ap (λ (n : MachineData). slice_get n.circuit.registers reg) (sym c.self.view_is) ∙ (get_front rs (map (delay_of i.netlist) i.delays) reg below ∙ cell.1) in
    loaded_next m c.netlist-netlist.ensures.machine c.args.values.now c.args.state.now c.requires.values reg cell.0 c.next_value.result at (sym c.if-is_loaded.ensures)
    (c.next_value.ensures cell.0 cell.1 ∙ ap (λ n. next_value cell.0.kind (values_at c.args.values.now cell.0.inputs) (get_or c.args.state.now n false)) c.number.ensures.number)
