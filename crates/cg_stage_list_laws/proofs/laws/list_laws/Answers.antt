use Rattle.cg_stage_list_laws.proofs.laws.list_laws.Goals as goal
use Rattle.std.proofs.Common.{ap, length}
use Rattle.cg_claim.proofs.ClaimsSaid.{hold_leaves_are_same}
use Rattle.cg_stage_list_laws.proofs.HoldFits.{hold_fits}
use Rattle.cg_stage_list_laws.proofs.Ranked.{literals_ranked}
use Rattle.cg_stage_list_laws.proofs.StableFits.{stable_fits}
use Rattle.cg_stage_list_laws.proofs.UnseenFits.{unseen_fits}

pub returns : goal.returns
returns c = record {
  hold = λ m counts width good. hold_fits m good counts width;
  stable = λ m earlier good. stable_fits m good earlier;
  unseen = λ m test earlier good. unseen_fits m good earlier test;
  widths = λ m e r good among. ap length (hold_leaves_are_same m e r good among);
  ranked = literals_ranked;
}
