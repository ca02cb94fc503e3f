use Rattle.std.proofs.Common.{◌≡◌, drop, ◌<◌, ◌^◌}
use Rattle.std.specs.Str.{all_ascii_digits}
use Rattle.cg_text.specs.Numbers.{digits_after}
use Rattle.cg_text.proofs.number.few_digits.Given as goal

abbrev pub invariant-loop-byte : goal.invariant-loop-byte
invariant-loop-byte l = record {
  small : l.value < 10 ^ l.byte-index;
  value : digits_after l.value (drop l.byte-index l.word) ≡ digits_after 0 l.word;
  digits : all_ascii_digits (drop l.byte-index l.word) ≡ all_ascii_digits l.word;
}
