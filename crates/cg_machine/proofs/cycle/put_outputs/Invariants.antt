use Rattle.std.proofs.Common.{◌≡◌, drop, if◌then◌else◌, map, not}
use Rattle.cg_machine.specs.inner.Putting.{put_bits}
use Rattle.cg_machine.proofs.cycle.put_outputs.Given as goal

abbrev pub invariant-loop-place : goal.invariant-loop-place
invariant-loop-place l =
    put_bits (map (λ output. output.0) (drop l.place l.outputs)) (map (λ output. if output.1 then not l.stored else l.stored) (drop l.place l.outputs)) l.values
    ≡ put_bits (map (λ output. output.0) l.outputs) (map (λ output. if output.1 then not l.stored else l.stored) l.outputs) l.fn.values
