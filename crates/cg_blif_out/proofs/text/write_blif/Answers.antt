use Rattle.cg_blif_out.proofs.WholeText.{text_says}
use Rattle.cg_blif_out.proofs.text.write_blif.Goals as goal

pub returns-clause-says : goal.returns-clause-says
returns-clause-says c = text_says c.args.netlist.now c.canonical.result c.canonical.ensures
