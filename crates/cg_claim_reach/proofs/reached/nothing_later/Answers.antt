use Rattle.cg_claim_reach.proofs.EarlyClaims.{nothing_later}
use Rattle.cg_claim_reach.proofs.reached.nothing_later.Goals as goal

pub returns : goal.returns
returns c = λ m q early. rw (c.no_cone.ensures, c.no_cone-2.ensures, c.new.ensures, c.new-2.ensures) (nothing_later m q early)
