use Rattle.cg_claim_reach.proofs.reached.Reacher.reach_named.Goals as goal

pub later_copies-requires : goal.later_copies-requires
later_copies-requires c = record { asked = c.requires.asked; named = c.requires.named }

pub first_copy-requires : goal.first_copy-requires
first_copy-requires c = record { asked = c.requires.asked; named = c.requires.named; later = c.in_ok-later.ensures }
