use Rattle.cg_claim_reach.proofs.StatesReached.{set_has}
use Rattle.cg_claim_reach.proofs.named.Named.new.Goals as goal

pub returns : goal.returns
returns c = record { follows = set_has c.args.follows.now c.in_ok-follows.follows.keys c.in_ok-follows.ensures; changes = set_has c.args.changes.now c.in_ok-changes.changes.keys c.in_ok-changes.ensures }
