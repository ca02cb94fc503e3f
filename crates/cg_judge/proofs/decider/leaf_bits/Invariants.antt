use Rattle.std.proofs.Common.{◌≡◌, length, map, take}
use Rattle.cg_claim.specs.declared.leaf.LeafBit.{LeafBit}
use Rattle.cg_judge.proofs.decider.leaf_bits.Given as goal

abbrev pub invariant-loop-leaf : goal.invariant-loop-leaf
invariant-loop-leaf l = record {
  leaves : map (λ (b : LeafBit). b.leaf) l.seq ≡ take (length l.yielded) l.leaves;
  bits : map (λ (b : LeafBit). b.bit) l.seq ≡ take (length l.yielded) l.bits;
}
