use Rattle.cg_claim.proofs.IdleSizes.{idle_is_no_larger}
use Rattle.cg_claim.proofs.laws.claim_laws.Goals as goal
use Rattle.cg_claim.proofs.ClaimsSaid.{apart_is_unseen, cone_is_reached, gates_are_operations, goal_violates, hold_is_said}
use Rattle.cg_claim.proofs.ClaimsSaid.{hold_leaves_are_same, idle_goal, idle_is_said, never_is_tried, stable_is_said}
use Rattle.cg_claim.proofs.ClaimsSaid.{targets_suffice, unseen_is_said}

pub returns : goal.returns
returns c = record {
  goal = goal_violates;
  idle_goal = idle_goal;
  never = never_is_tried;
  hold = hold_is_said;
  stable = stable_is_said;
  unseen = unseen_is_said;
  idle = idle_is_said;
  cone = cone_is_reached;
  same_leaves = hold_leaves_are_same;
  apart = apart_is_unseen;
  targets = targets_suffice;
  gates = gates_are_operations;
  no_larger = idle_is_no_larger;
}
