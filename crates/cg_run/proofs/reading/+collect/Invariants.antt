use Rattle.std.proofs.Common.{length}
use Rattle.cg_run.proofs.reading.+collect.Given as goal

-- proposed from what the function passes where it calls itself
abbrev pub decreases-collect : goal.decreases-collect
decreases-collect g l = length l.loads.now
