use Rattle.std.proofs.Common.{◌≡◌, ◌≤◌, ◌*◌, ◌^◌, ◌+◌, drop}
use Rattle.std.specs.Prelude.{sum}
use Rattle.cg_register_text.proofs.sums.sum_of.Given as goal

abbrev pub invariant-numbers : goal.invariant-numbers
invariant-numbers l = record {
  all : l.total + sum (drop l.number-index l.numbers) ≡ sum l.numbers;
  few : l.total ≤ l.number-index * 2 ^ 32;
}
