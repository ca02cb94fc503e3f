use Rattle.std.proofs.Common.{◌≡◌, false, true, length, sym, subst, ap, ◌∙◌}
use Rattle.cg_netlist.specs.Circuit.{Circuit}
use Rattle.cg_edge.specs.inner.Kept.{AreBits, AreFresh}
use Rattle.cg_edge.proofs.Ticked.{all_marked}
use Rattle.cg_edge.proofs.simulator.Simulator.new.Goals as goal

pub invariant_of-result : goal.invariant_of-result
invariant_of-result c =
    let schedule = c.in_ok-schedule.schedule in
    let is : schedule.netlist.now ≡ c.args.netlist.now = c.in_ok-schedule.ensures.netlist in
    let bits = c.in_ok-bits.bits in
    let start : c.in_ok-start.start.items ≡ c.args.start.now = c.in_ok-start.ensures.items in
    record {
      scheduled = c.in_ok-schedule.ensures.schedule;
      started = ap length start ∙ (c.requires ∙ ap (λ (n : Circuit). length n.registers) (sym is));
      fit = subst (λ (n : Circuit). AreBits n bits) (sym is) c.in_ok-bits.ensures.bits;
      marks_long = c.in_ok-marks.ensures.long;
      marked = all_marked schedule.netlist.now c.in_ok-schedule.ensures.schedule.netlist schedule.order.now c.in_ok-marks.marks bits.nets.items c.in_ok-schedule.ensures.schedule.ordered c.in_ok-marks.ensures.all;
      shown = λ ticked. absurd (let no_tick : false ≡ true = ticked in cc);
      first = λ none. subst (λ ss. AreFresh schedule.netlist.now ss bits) (sym start) (subst (λ (n : Circuit). AreFresh n c.args.start.now bits) (sym is) c.in_ok-bits.ensures.fresh);
    }
