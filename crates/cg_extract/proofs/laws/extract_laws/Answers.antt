use Rattle.cg_extract.proofs.laws.extract_laws.Goals as goal
use Rattle.cg_extract.proofs.Chained.{enables_chained}
use Rattle.cg_extract.proofs.ForGating.{bare_is_netlist, bare_is_placeable, lifted_asks, lifted_of_ungated, lifted_own}
use Rattle.cg_extract.proofs.ForGating.{lifted_shows_nets, unrefused_untested}
use Rattle.cg_extract.proofs.LiftedMachine.{lifted_is_machine, lifted_is_small}
use Rattle.cg_extract.proofs.LiftedRun.{lifted_is_run}

pub returns : goal.returns
returns c = record {
  machine = lifted_is_machine;
  small = lifted_is_small;
  run = lifted_is_run;
  chained = enables_chained;
  netlist = bare_is_netlist;
  placeable = bare_is_placeable;
  own = lifted_own;
  asks = lifted_asks;
  ungated = lifted_of_ungated;
  nets = lifted_shows_nets;
  untested = unrefused_untested;
}
