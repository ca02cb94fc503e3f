use Rattle.std.proofs.Common.{◌≡◌, drop}
use Rattle.cg_liberty.specs.Kinds.{all_known}
use Rattle.cg_liberty.proofs.Readings.{known_behind}
use Rattle.cg_liberty.proofs.flop.all_known_of.Given as goal

abbrev pub invariant-outputs : goal.invariant-outputs
invariant-outputs l = known_behind l.known.items (all_known (drop l.output-index l.outputs)) ≡ all_known l.outputs
