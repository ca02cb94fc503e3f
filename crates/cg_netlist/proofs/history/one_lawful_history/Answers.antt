use Rattle.cg_netlist.proofs.Histories.{has_history, has_one_history}
use Rattle.cg_netlist.proofs.history.one_lawful_history.Goals as goal

pub returns : goal.returns
returns c = record {
  some = has_history c.args.netlist.now c.nets.ensures.netlist.well_formed;
  one = has_one_history c.args.netlist.now c.nets.ensures.netlist.well_formed;
}
