use Rattle.std.proofs.Common.{◌≡◌, ◌+◌, ◌%◌, ◌==◌, ◌∷◌, [], ◌++◌}
use Rattle.cg_demo.specs.Pipeline.{bit_byte, each}
use Rattle.cg_demo.proofs.stimulus.push_bits.Given as goal

abbrev pub invariant-bits : goal.invariant-bits
invariant-bits l = l.text.items ≡ l.fn.text.items ++ each l.i (λ i. bit_byte ((i + l.j) % 2 == 1) ∷ [])
