use Rattle.std.proofs.Common.{◌≡◌, [], take}
use Rattle.std.specs.List.{filter_map}
use Rattle.cg_insert.specs.Insert.{collect}
use Rattle.cg_insert.proofs.clocked.Enables.of.Given as goal

abbrev pub invariant-loop-number : goal.invariant-loop-number
invariant-loop-number l = l.nets.keys ≡ collect [] (filter_map (λ enable. enable) (take l.number l.machine.enables))
