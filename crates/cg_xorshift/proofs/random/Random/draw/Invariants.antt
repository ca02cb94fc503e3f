use Rattle.std.proofs.Common.{◌≡◌, length}
use Rattle.cg_xorshift.proofs.random.Random.draw.Given as goal

abbrev pub invariant-loop : goal.invariant-loop
invariant-loop l = length l.words.items ≡ l.counter
