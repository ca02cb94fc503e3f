use Rattle.std.proofs.Common.{◌≡◌, None, if◌then◌else◌, nat_eq, take}
use Rattle.std.specs.List.{filter_map}
use Rattle.cg_machine.specs.Machine.{enable_of}
use Rattle.cg_stability.proofs.key.enables.Given as goal

abbrev pub invariant-loop-other : goal.invariant-loop-other
invariant-loop-other l = l.enables.items ≡ filter_map (λ k. if nat_eq k l.reg then None else enable_of l.machine k) (take l.other-index l.registers)
