use Rattle.std.proofs.Common.{◌≡◌, drop}
use Rattle.cg_machine.specs.inner.Putting.{put_bits}
use Rattle.cg_machine.proofs.cycle.put_bits.Given as goal

abbrev pub invariant-loop-k : goal.invariant-loop-k
invariant-loop-k l = put_bits (drop l.k l.nets) (drop l.k l.bits) l.values ≡ put_bits l.nets l.bits l.fn.values
