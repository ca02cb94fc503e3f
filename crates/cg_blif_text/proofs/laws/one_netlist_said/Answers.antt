use Rattle.cg_blif_text.proofs.CanonicalText.{no_two}
use Rattle.cg_blif_text.proofs.laws.one_netlist_said.Goals as goal

pub returns : goal.returns
returns c = no_two
