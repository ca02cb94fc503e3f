use Rattle.std.proofs.Common.{◌<◌, ◌≤◌, ◌^◌, arith}
use Rattle.std.proofs.Math.Nat.{pow-le-pow_right}
use Rattle.cg_text.proofs.number.few_digits.Goals as goal

pub overflow_mul-value : goal.overflow_mul-value
overflow_mul-value c =
    let early : c.loop-byte.byte-index ≤ 17 = omega (arith, c.loop-byte-test.true, c.requires) in
    let some : 0 < 10 = omega arith in
    let most : 10 ^ c.loop-byte.byte-index ≤ 10 ^ 17 = pow-le-pow_right some early in
    omega (arith, most, c.loop-byte.invariant.small)

pub overflow_add-value : goal.overflow_add-value
overflow_add-value c =
    let early : c.loop-byte.byte-index ≤ 17 = omega (arith, c.loop-byte-test.true, c.requires) in
    let some : 0 < 10 = omega arith in
    let most : 10 ^ c.loop-byte.byte-index ≤ 10 ^ 17 = pow-le-pow_right some early in
    omega (arith, most, c.loop-byte.invariant.small, c.from.ensures, c.if-not-is_ascii_digit.ensures.bound)
