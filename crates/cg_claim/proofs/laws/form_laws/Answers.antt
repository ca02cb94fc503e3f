use Rattle.cg_claim.proofs.laws.form_laws.Goals as goal
use Rattle.cg_claim.proofs.FormClaims.{cut_nets_are_leaves, cut_suffices, form_goal_violates, form_is_said, other_cut_nets_are_leaves}
use Rattle.cg_claim.proofs.SameBits.{are_forms}

pub returns : goal.returns
returns c = record {
  goal = form_goal_violates;
  said = form_is_said;
  cut = cut_suffices;
  leaves = cut_nets_are_leaves;
  other_leaves = other_cut_nets_are_leaves;
  stages = are_forms;
}
