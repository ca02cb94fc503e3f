use Rattle.std.proofs.Common.{◌≡◌, ◌^◌, arith}
use Rattle.cg_text.specs.Numbers.{digits_after}
use Rattle.cg_text.proofs.Numbers.{digits_after_over, digits_after_all}
use Rattle.cg_text.proofs.number.value.Goals as goal

pub returns : goal.returns
returns c =
    let all : c.loop-digit.value ≡ digits_after 0 c.args.digits.now = digits_after_all c.loop-digit.value _ c.loop-digit.digit-index c.args.digits.now (omega arith) c.loop-digit.invariant.value in
    (omega (arith, all), all)

pub returns-in-None : goal.returns-in-None
returns-in-None c =
    digits_after_over c.loop-digit.value (digits_after 0 c.args.digits.now) (2 ^ 64) c.loop-digit.digit-index c.args.digits.now (omega arith)
    c.loop-digit.invariant.value c.in-None.ensures
