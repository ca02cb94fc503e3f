use Rattle.std.proofs.Common.{◌∙◌}
use Rattle.cg_net.specs.NetSets.{is_in}
use Rattle.cg_claim_reach.specs.Asking.{question_of}
use Rattle.cg_claim_reach.proofs.LeavesReached.{changed_leaves}
use Rattle.cg_claim_reach.proofs.leaves.push_changed.Goals as goal

pub returns : goal.returns
returns c =
    changed_leaves c.args.machine.now (question_of c.args.asked.now) c.args.leaves.now.items c.push_registers.new.leaves.items c.deref.result.now c.as_slice.result.now (is_in c.args.named.now.changes.keys)
    c.requires.named.changes (c.as_slice.ensures.parts ∙ c.requires.later.moved) (c.deref.ensures.value ∙ c.in_ok-registers.ensures) c.in_ok-push_registers.ensures
