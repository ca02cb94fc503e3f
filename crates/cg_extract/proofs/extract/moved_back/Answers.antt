use Rattle.std.proofs.Common.{arith}
use Rattle.cg_netlist.proofs.OrderLemmas.{gaters_within}
use Rattle.cg_extract.proofs.extract.moved_back.Goals as goal

pub overflow_add-result : goal.overflow_add-result
overflow_add-result c =
    let few = gaters_within c.args.netlist.now c.gaters-gaters.ensures.netlist.in_order in
    omega (arith, few, c.gaters-gaters.ensures.count, c.gaters-gaters.ensures.netlist.nets, c.requires)
