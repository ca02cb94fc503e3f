use Rattle.std.proofs.Common.{◌<◌, ◌-◌, arith, get_or, length}
use Rattle.cg_verilog.proofs.CounterLemmas.{digit_below}
use Rattle.cg_verilog.proofs.counter.push_digits.Goals as goal

pub overflow_add-digits : goal.overflow_add-digits
overflow_add-digits c =
    let below : get_or c.args.digits.now (length c.args.digits.now - 1 - c.places.place) 0 < 10 = digit_below c.args.digits.now (length c.args.digits.now - 1 - c.places.place) c.requires (omega arith) in
    omega (arith, below)
