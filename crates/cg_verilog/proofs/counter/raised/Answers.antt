use Rattle.std.proofs.Common.{arith}
use Rattle.cg_verilog.proofs.CounterLemmas.{digit_below}
use Rattle.cg_verilog.proofs.counter.raised.Goals as goal

pub raised_digit-raised-requires : goal.raised_digit-raised-requires
raised_digit-raised-requires c = digit_below c.args.digits.now c.digits.digit-index c.requires (omega arith)
