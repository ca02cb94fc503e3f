use Rattle.std.proofs.Common.{◌≡◌, ◌+◌, take}
use Rattle.cg_aig.specs.Aig.{values_from}
use Rattle.cg_aig.proofs.values.fill_ands.Given as goal

abbrev pub invariant-loop-k : goal.invariant-loop-k
invariant-loop-k l = take (l.first + l.k) l.buffer ≡ values_from (take l.first l.fn.buffer) (take l.k l.pairs)
