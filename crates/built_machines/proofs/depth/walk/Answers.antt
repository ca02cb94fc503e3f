use Rattle.built_machines.proofs.Depths.{may_always}
use Rattle.built_machines.proofs.depth.walk.Goals as goal

pub try_walk-requires-clause-callable : goal.try_walk-requires-clause-callable
try_walk-requires-clause-callable c = may_always _ _ _ _ _ _ (λ args. tt)
