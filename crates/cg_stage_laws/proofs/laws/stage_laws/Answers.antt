use Rattle.cg_stage_laws.proofs.laws.stage_laws.Goals as goal
use Rattle.cg_machine.specs.declared.stage.StageKind.TheVariants.{Hold, Stable, Unseen}
use Rattle.cg_stage_laws.proofs.StageSafe.{safe_by}

pub returns : goal.returns
returns c = record {
  hold = safe_by Hold;
  stable = safe_by Stable;
  unseen = safe_by Unseen;
}
