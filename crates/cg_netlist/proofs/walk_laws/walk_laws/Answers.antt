use Rattle.cg_netlist.proofs.WalkLawsHold.{clock_is_apart, gater_order_is_walk, nets_are_all, nets_do_settle, walk_leaves_moment}
use Rattle.cg_netlist.proofs.WalkLawsHold.{walk_order_is_walk}
use Rattle.cg_netlist.proofs.walk_laws.walk_laws.Goals as goal

pub returns : goal.returns
returns c = record {
  order = walk_order_is_walk;
  gates = gater_order_is_walk;
  settle = nets_do_settle;
  only = nets_are_all;
  leaves = walk_leaves_moment;
  clock = clock_is_apart;
}
