use Rattle.std.proofs.Common.{◌≡◌, ◌++◌, take}
use Rattle.std.specs.List.{filter, flat_map}
use Rattle.cg_net.specs.NetSets.{is_in}
use Rattle.cg_claim_reach.specs.Fanout.{readers_at}
use Rattle.cg_claim_reach.specs.inner.Spreading.{is_register_marked}
use Rattle.cg_claim_reach.proofs.targets.registers_found.Given as goal

abbrev pub invariant-loop-place : goal.invariant-loop-place
invariant-loop-place l = l.numbers.items ≡ filter (is_register_marked l.machine (is_in l.found) (is_in l.set.keys)) l.regs ++ flat_map (λ y. filter (is_register_marked l.machine (is_in l.found) (is_in l.set.keys)) (readers_at l.readers y)) (take l.place l.found)
