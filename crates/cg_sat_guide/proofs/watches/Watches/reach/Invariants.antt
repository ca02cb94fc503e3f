use Rattle.std.proofs.Common.{◌+◌, ◌-◌, length}
use Rattle.cg_sat_guide.proofs.watches.Watches.reach.Given as goal

abbrev pub decreases-more : goal.decreases-more
decreases-more l = l.index + 1 - length l.self.lists.items
