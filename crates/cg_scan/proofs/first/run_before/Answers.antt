use Rattle.std.proofs.Common.{eqb}
use Rattle.cg_scan.proofs.RunLemmas.{run}
use Rattle.cg_scan.proofs.first.run_before.Goals as goal

pub returns : goal.returns
returns c = run eqb _ _ _ _ c.requires c.first_set.ensures
