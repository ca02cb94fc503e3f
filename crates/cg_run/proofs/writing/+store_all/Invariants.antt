use Rattle.std.proofs.Common.{length}
use Rattle.cg_run.proofs.writing.+store_all.Given as goal

abbrev pub decreases-store_all : goal.decreases-store_all
decreases-store_all g l = length l.texts.now
