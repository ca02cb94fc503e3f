use Rattle.cg_claim_reach.specs.Asking.{question_of}
use Rattle.cg_claim_reach.proofs.reached.Reacher.later_copies.Goals as goal

pub changed_states-requires : goal.changed_states-requires
changed_states-requires c = record { asked = c.requires.asked; cone = c.in_ok-changed.ensures }

pub after_states-requires : goal.after_states-requires
after_states-requires c = record { asked = c.requires.asked; named = c.requires.named; cone = c.in_ok-after.ensures; moved = c.in_ok-moved.ensures }

pub returns : goal.returns
returns c = record { after = c.in_ok-after.ensures; changed = c.in_ok-changed.ensures; states = c.in_ok-states.ensures; moved = c.in_ok-moved.ensures }

pub returns-then-is_early : goal.returns-then-is_early
returns-then-is_early c = c.nothing_later.ensures c.args.machine.now (question_of c.args.asked.now) (c.is_early.ensures.0 c.if-is_early.true)
