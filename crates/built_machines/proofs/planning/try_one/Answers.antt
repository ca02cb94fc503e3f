use Rattle.std.proofs.Common.{sym, subst}
use Rattle.cg_stage_laws.specs.Stages.{Fits}
use Rattle.built_machines.proofs.Fitting.{one_fits}
use Rattle.built_machines.proofs.planning.try_one.Goals as goal

pub try_stage-requires : goal.try_stage-requires
try_stage-requires c =
    subst (Fits c.args.machine.now) (sym c.in_ok-stage.ensures)
    (one_fits c.args.machine.now c.args.net c.args.register c.requires.net c.requires.own c.requires.free)
