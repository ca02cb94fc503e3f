use Rattle.std.proofs.Common.{◌≡◌, drop, map}
use Rattle.cg_machine.specs.inner.Putting.{put_bits}
use Rattle.cg_machine.proofs.delays.Delays.put.Given as goal

abbrev pub invariant-loop-number : goal.invariant-loop-number
invariant-loop-number l = put_bits (map (λ delay. delay.1) (drop l.number l.self)) (drop l.number l.state) l.values ≡ put_bits (map (λ delay. delay.1) l.self) l.state l.fn.values
