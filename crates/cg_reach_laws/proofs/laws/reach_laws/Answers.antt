use Rattle.cg_claim.specs.Question.{Before, After, Changed, Net, State}
use Rattle.cg_reach_laws.specs.Paths.{in_copy}
use Rattle.cg_reach_laws.proofs.Found.{led_met}
use Rattle.cg_reach_laws.proofs.LeavesLedTo.{leaf_once, leaf_only, leaf_there}
use Rattle.cg_reach_laws.proofs.LedTo.{after_bit, after_net, before_bit, before_net, changed_bit, changed_net}
use Rattle.cg_reach_laws.proofs.laws.reach_laws.Goals as goal

pub returns : goal.returns
returns c = record {
  paths = λ m q good fits. record {
    before = λ y. (before_net m q good y, led_met m q good fits (in_copy Before (Net y)));
    after = λ y. (after_net m q good y, led_met m q good fits (in_copy After (Net y)));
    changed = λ y. (changed_net m q good y, led_met m q good fits (in_copy Changed (Net y)));
    bits_before = λ r. (before_bit m q good r, led_met m q good fits (in_copy Before (State r)));
    bits_after = λ r. (after_bit m q good r, led_met m q good fits (in_copy After (State r)));
    bits_changed = λ r. (changed_bit m q good r, led_met m q good fits (in_copy Changed (State r)));
  };
  leaves = λ m q good fits. record { there = leaf_there m q good fits; only = leaf_only m q good; once = leaf_once m q good };
}
