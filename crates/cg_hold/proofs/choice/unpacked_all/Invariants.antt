use Rattle.std.proofs.Common.{◌≡◌, map, take}
use Rattle.cg_hold.specs.inner.Packed.{unpacked}
use Rattle.cg_hold.proofs.choice.unpacked_all.Given as goal

abbrev pub invariant-loop-number : goal.invariant-loop-number
invariant-loop-number l = l.literals.items ≡ map unpacked (take l.number-index l.numbers)
