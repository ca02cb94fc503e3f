use Rattle.cg_netlist.specs.Circuit.{gater_outputs}
use Rattle.cg_edge.specs.inner.Keeping.{AreDriven, SameBut}
use Rattle.cg_edge.proofs.clock_nets.drive_gaters.Given as goal

abbrev pub invariant-loop-id : goal.invariant-loop-id
invariant-loop-id l = AreDriven l.netlist l.chain l.latches l.nets l.id-index × SameBut (gater_outputs l.netlist) l.fn.nets l.nets
