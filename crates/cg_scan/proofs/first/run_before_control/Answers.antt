use Rattle.std.proofs.Common.{leb}
use Rattle.cg_scan.proofs.RunLemmas.{run}
use Rattle.cg_scan.proofs.first.run_before_control.Goals as goal

pub returns : goal.returns
returns c = run leb _ _ _ _ c.requires c.first_set.ensures
