use Rattle.std.proofs.Common.{arith}
use Rattle.cg_netlist.proofs.OrderLemmas.{cells_within}
use Rattle.cg_netlist.proofs.netlist.Netlist.cells.Goals as goal

pub overflow_cast-result : goal.overflow_cast-result
overflow_cast-result c = grind (arith, cells_within c.self.inside.parts c.self.invariant.netlist.in_order, c.self.invariant.netlist.nets)
