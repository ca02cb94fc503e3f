use Rattle.std.proofs.Common.{◌≡◌, drop, length}
use Rattle.cg_edge.specs.inner.Keeping.{AreMarked, walk_of}
use Rattle.cg_edge.specs.inner.Runs.{AreRuns}
use Rattle.cg_edge.specs.inner.Stepped.{AreStepped}
use Rattle.cg_edge.proofs.register_step.step.Given as goal

abbrev pub invariant-loop-run : goal.invariant-loop-run
invariant-loop-run l =
    AreRuns l.schedule.netlist.now.registers l.first (length l.schedule.netlist.now.registers) (drop l.run-index l.schedule.runs.items)
    × AreStepped l.schedule.netlist.now l.before l.fn.nets l.fn.state l.first l.nets l.state l.rose × AreMarked (walk_of l.schedule.netlist.now) l.marks l.nets × (length l.marks ≡ length l.fn.marks)
