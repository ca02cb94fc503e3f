use Rattle.std.proofs.Common.{leb}
use Rattle.cg_blif.proofs.RunLemmas.{run}
use Rattle.cg_blif.proofs.lines.run_before_blank.Goals as goal

pub returns : goal.returns
returns c = run leb _ _ _ _ c.requires c.first_set.ensures
