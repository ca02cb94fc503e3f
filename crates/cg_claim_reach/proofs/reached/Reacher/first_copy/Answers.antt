use Rattle.cg_claim_reach.proofs.reached.Reacher.first_copy.Goals as goal

pub first_cone-requires : goal.first_cone-requires
first_cone-requires c = record { asked = c.requires.asked; named = c.requires.named; later = c.requires.later }

pub leaves-requires : goal.leaves-requires
leaves-requires c = record { asked = c.requires.asked; named = c.requires.named; before = c.in_ok-before.ensures; later = c.requires.later }
