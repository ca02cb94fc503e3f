use Rattle.std.proofs.Common.{drop}
use Rattle.cg_netlist.specs.Walk.{TakesEach}
use Rattle.cg_netlist.specs.Nets.{walk_order}
use Rattle.cg_netlist.proofs.Walks.{GoesOn}
use Rattle.cg_netlist.proofs.netlist.Netlist.walk.Given as goal

abbrev pub invariant-loop-id : goal.invariant-loop-id
invariant-loop-id g l = record {
  may : TakesEach g.F.FnMut l.self.cells (drop l.id-index l.order) l.step l.values;
  whole : GoesOn g.F.FnMut l.self.cells (walk_order l.self.cells) l.fn.step l.fn.values (drop l.id-index l.order) l.step l.values;
}
