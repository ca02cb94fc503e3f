use Rattle.std.proofs.Common.{◌≡◌, true, drop, ◌<◌, ◌^◌}
use Rattle.std.specs.Str.{all_ascii_digits}
use Rattle.cg_text.specs.Numbers.{digits_after}
use Rattle.cg_text.proofs.number.value.Given as goal

abbrev pub invariant-loop-digit : goal.invariant-loop-digit
invariant-loop-digit l = record {
  small : l.value < 2 ^ 64;
  value : digits_after l.value (drop l.digit-index l.digits) ≡ digits_after 0 l.digits;
  digits : all_ascii_digits (drop l.digit-index l.digits) ≡ true;
}
