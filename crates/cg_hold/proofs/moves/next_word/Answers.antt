use Rattle.std.proofs.Common.{◌<◌, ◌≤◌, ℕ, List, if◌then◌else◌, slice_index_or, unwrap_or, refl, sym, ap, subst, length}
use Rattle.std.proofs.lemmas.Bool.{leb-false, leb-true}
use Rattle.cg_machine.specs.Machine.{MachineData, delay_cell, next}
use Rattle.cg_netlist.proofs.Values.{element_at}
use Rattle.cg_netlist.specs.Circuit.{RegisterCell}
use Rattle.cg_claim_reach.proofs.OwnRegisters.{machine_register}
use Rattle.cg_hold.proofs.MovedInWords.{delay_word, enabled_word, free_word, net_below}
use Rattle.cg_word.specs.Words.{IsWord, lane, lane_bit}
use Rattle.cg_hold.proofs.moves.next_word.Goals as goal

pub bounds-nets-number : goal.bounds-nets-number
bounds-nets-number c =
    let m : MachineData = c.args.machine.now in
    let cell : RegisterCell ℕ ℕ = delay_cell (unwrap_or m.circuit.clock 0) c.delay-net.result.0 c.delay-net.result.1 in
    subst (λ n. n < length c.args.nets.now) (sym c.number.ensures.number) (net_below m c.netlist-netlist.ensures.machine c.args.nets.now c.requires.nets c.args.reg cell c.delay-net.result.0 c.delay-net.ensures refl)

pub returns-then-is_delay : goal.returns-then-is_delay
returns-then-is_delay c =
    let m : MachineData = c.args.machine.now in
    let added : m.own_registers ≤ c.args.reg = leb-true m.own_registers c.args.reg (sym c.if-is_delay.ensures) in
    subst (λ n. IsWord (slice_index_or c.args.nets.now n 0) (λ i. next m (lane i c.args.nets.now) (lane i c.args.state.now) c.args.reg)) (sym c.number.ensures.number)
    (delay_word m c.netlist-netlist.ensures.machine c.args.state.now c.args.nets.now c.requires.nets c.args.reg (unwrap_or m.circuit.clock 0) c.delay-net.result.0 c.delay-net.result.1 added c.delay-net.ensures)

pub returns-in-Some : goal.returns-in-Some
returns-in-Some c =
    let m : MachineData = c.args.machine.now in
    let nets : List ℕ = c.args.nets.now in
    let state : List ℕ = c.args.state.now in
    let own : ℕ = slice_index_or state c.number-2.result 0 in
    let loaded : ℕ = c.data_word-data.result in
    let low : c.args.reg < m.own_registers = leb-false m.own_registers c.args.reg (sym c.if-is_delay.ensures) in
    let p = element_at m.circuit.registers c.args.reg c.requires.register in
    enabled_word m c.netlist-netlist.ensures.machine state nets c.requires.nets c.args.reg p.0 p.1 own loaded (ap (λ n. slice_index_or state n 0) c.number-2.ensures.number)
    (c.data_word-data.ensures p.0 (machine_register m c.netlist-netlist.result.now c.args.reg p.0 c.netlist-netlist.ensures.netlist low p.1))
    c.in-Some.enable c.select.result c.in-Some.ensures
    (subst (λ n. IsWord c.select.result (λ i. if lane_bit i (slice_index_or nets n 0) then lane_bit i loaded else lane_bit i own)) c.number-in-Some.ensures.number c.select.ensures)

pub returns-in-None : goal.returns-in-None
returns-in-None c =
    let m : MachineData = c.args.machine.now in
    let state : List ℕ = c.args.state.now in
    let low : c.args.reg < m.own_registers = leb-false m.own_registers c.args.reg (sym c.if-is_delay.ensures) in
    let p = element_at m.circuit.registers c.args.reg c.requires.register in
    free_word m c.netlist-netlist.ensures.machine state c.args.nets.now c.requires.nets c.args.reg p.0 p.1 (slice_index_or state c.number-2.result 0) c.data_word-data.result (ap (λ n. slice_index_or state n 0) c.number-2.ensures.number)
    (c.data_word-data.ensures p.0 (machine_register m c.netlist-netlist.result.now c.args.reg p.0 c.netlist-netlist.ensures.netlist low p.1))
    c.in-None.ensures
