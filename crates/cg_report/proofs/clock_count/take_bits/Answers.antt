use Rattle.std.proofs.Common.{◌≡◌, Some, get_or, ◌∙◌, ap, arith}
use Rattle.std.specs.List.{slice_get, slice_set}
use Rattle.std.proofs.lemmas.Option.{slice_get-get_or}
use Rattle.cg_netlist.specs.Moment.{bit}
use Rattle.cg_report.specs.declared.clock_count.ClockNet.{ClockNet}
use Rattle.cg_report.specs.inner.ClockCounting.{with_bit}
use Rattle.cg_report.proofs.InPlace.{change_next}
use Rattle.cg_report.proofs.clock_count.take_bits.Goals as goal

pub loop-clock-preserved : goal.loop-clock-preserved
loop-clock-preserved c =
    let now = c.loop-clock.clocks in
    let i = c.loop-clock.clock-index in
    let x = get_or now i c.clock-item.result in
    let at : slice_get now i ≡ Some x = slice_get-get_or now i c.clock-item.result (omega arith) in
    ap (slice_set now i) c.take_bit.ensures ∙ change_next (λ (clock : ClockNet). with_bit clock (bit c.args.nets.now clock.net)) c.args.clocks.now now i x c.loop-clock.invariant at
