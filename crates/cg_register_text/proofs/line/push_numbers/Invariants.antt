use Rattle.std.proofs.Common.{◌≡◌, ◌++◌, drop, map}
use Rattle.std.specs.Fmt.{decimal}
use Rattle.cg_plan_text.specs.inner.Spaced.{spaced}
use Rattle.cg_register_text.specs.Words.{numbers_words}
use Rattle.cg_register_text.proofs.line.push_numbers.Given as goal

abbrev pub invariant-numbers : goal.invariant-numbers
invariant-numbers l = l.text.items ++ spaced (map decimal (drop l.number-index l.numbers)) ≡ l.fn.text.items ++ spaced (numbers_words l.word l.numbers)
