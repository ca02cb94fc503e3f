use Rattle.std.proofs.Common.{[], ◌∷◌}
use Rattle.built_machines.proofs.Depths.{cells_there}
use Rattle.built_machines.proofs.depth.cone.Goals as goal

pub returns-in-Ok : goal.returns-in-Ok
returns-in-Ok c = cells_there c.args.machine.now (c.args.net ∷ []) c.in-Ok.cone c.in-Ok.ensures
