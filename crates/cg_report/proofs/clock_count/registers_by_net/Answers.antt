use Rattle.std.proofs.Common.{◌≡◌, ◌<◌, ◌≤◌, ◌+◌, ◌∙◌, length, get_or, slice_get, slice_set, Some, refl, ap, sym, subst, arith}
use Rattle.std.proofs.lemmas.List.{get_or_read_under}
use Rattle.cg_limit.specs.declared.TheConstants.{MOST_REGISTERS}
use Rattle.cg_netlist.specs.View.{register_seen}
use Rattle.cg_edge.proofs.Facts.{register_clock}
use Rattle.cg_report.specs.inner.ClockCounting.{AreClocked}
use Rattle.cg_report.proofs.ClockCounting.{clocked_few, clocked_more}
use Rattle.cg_report.proofs.clock_count.registers_by_net.Goals as goal

pub index_mut-requires : goal.index_mut-requires
index_mut-requires c =
    let netlist = c.args.netlist.now in
    let below : c.register-clock.result.clock < length netlist.names =
    register_clock netlist c.nets.ensures.netlist.well_formed c.new.result (register_seen c.register-clock.result) c.register-clock.ensures (length netlist.names) refl in
    omega (arith, below, c.number.ensures.number, c.loop-register.invariant.long)

pub overflow_add-index_mut : goal.overflow_add-index_mut
overflow_add-index_mut c =
    let netlist = c.args.netlist.now in
    let items = c.loop-register.registers.items in
    let i = c.number.result in
    let clock : c.register-clock.result.clock < length netlist.names =
    register_clock netlist c.nets.ensures.netlist.well_formed c.new.result (register_seen c.register-clock.result) c.register-clock.ensures (length netlist.names) refl in
    let below : i < length netlist.names = omega (arith, clock, c.number.ensures.number) in
    let value : c.index_mut.result.now ≡ get_or items i 0 = get_or_read_under items i (length netlist.names) c.index_mut.result.now 0 c.index_mut.ensures.value below (sym c.loop-register.invariant.long) in
    let few : get_or items i 0 ≤ MOST_REGISTERS = clocked_few netlist c.loop-register.register i MOST_REGISTERS items below c.nets.ensures.netlist.registers c.loop-register.invariant in
    omega (arith, value, few)

pub loop-register-preserved : goal.loop-register-preserved
loop-register-preserved c =
    let netlist = c.args.netlist.now in
    let items = c.loop-register.registers.items in
    let k = c.loop-register.register in
    let i = c.number.result in
    let r = register_seen c.register-clock.result in
    let now = c.index_mut.result.now in
    let clock : r.clock < length netlist.names = register_clock netlist c.nets.ensures.netlist.well_formed c.new.result r c.register-clock.ensures (length netlist.names) refl in
    let same : i ≡ r.clock = c.number.ensures.number in
    let below : i < length netlist.names = omega (arith, clock, same) in
    let value : now ≡ get_or items r.clock 0 = get_or_read_under items i (length netlist.names) now 0 c.index_mut.ensures.value below (sym c.loop-register.invariant.long) ∙ ap (λ n. get_or items n 0) same in
    let at : slice_get netlist.registers k ≡ Some r = ap (slice_get netlist.registers) (sym c.new.ensures) ∙ c.register-clock.ensures in
    subst (λ n. AreClocked netlist (k + 1) (slice_set items n (now + 1))) (sym same)
    (subst (λ v. AreClocked netlist (k + 1) (slice_set items r.clock (v + 1))) (sym value) (clocked_more netlist k r items at clock c.loop-register.invariant))
