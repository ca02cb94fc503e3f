use Rattle.std.proofs.Common.{◌≡◌, ◌+◌, ◌∷◌, false, take}
use Rattle.cg_aig.proofs.values.fill_leaves.Given as goal

abbrev pub invariant-loop-k : goal.invariant-loop-k
invariant-loop-k l = take (1 + l.k) l.buffer ≡ false ∷ take l.k l.bits
