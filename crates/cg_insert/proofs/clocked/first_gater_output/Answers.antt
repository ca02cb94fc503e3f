use Rattle.std.proofs.Common.{arith}
use Rattle.cg_insert.proofs.clocked.first_gater_output.Goals as goal

pub overflow_add-result : goal.overflow_add-result
overflow_add-result c = omega (arith, c.nets.ensures, c.netlist-netlist.ensures.machine.small)
