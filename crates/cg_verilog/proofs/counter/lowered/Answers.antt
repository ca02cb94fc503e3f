use Rattle.std.proofs.Common.{◌<◌, arith, length, true}
use Rattle.std.specs.Option.{option_to_list}
use Rattle.cg_verilog.specs.inner.Digits.{lowered}
use Rattle.cg_verilog.proofs.CounterLemmas.{lowered_step}
use Rattle.cg_verilog.proofs.counter.lowered.Goals as goal

pub places-preserved : goal.places-preserved
places-preserved c =
    let within : c.places.place < length c.args.digits.now = omega arith in
    lowered_step c.places.next.items c.push_some.new.digits.items (option_to_list c.lowered_digit-digit.result.0) c.places.lowest c.places.borrow c.lowered_digit-digit.result.1 c.args.digits.now c.places.place (lowered true true c.args.digits.now)
    within c.in_ok-push_some.ensures c.lowered_digit-digit.ensures c.places.invariant
