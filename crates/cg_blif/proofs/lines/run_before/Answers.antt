use Rattle.std.proofs.Common.{eqb}
use Rattle.cg_blif.proofs.RunLemmas.{run}
use Rattle.cg_blif.proofs.lines.run_before.Goals as goal

pub returns : goal.returns
returns c = run eqb _ _ _ _ c.requires c.first_set.ensures
