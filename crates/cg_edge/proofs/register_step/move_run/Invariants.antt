use Rattle.std.proofs.Common.{◌≡◌, Bool, List, length}
use Rattle.cg_edge.specs.inner.Keeping.{AreMarked, walk_of}
use Rattle.cg_edge.specs.inner.Stepped.{AllRise, AreStepped}
use Rattle.cg_edge.proofs.register_step.move_run.Given as goal

abbrev pub invariant-loop-k : goal.invariant-loop-k
invariant-loop-k l =
    ((now was : List Bool) → AllRise l.schedule.netlist.now l.before now l.first l.end → AreStepped l.schedule.netlist.now l.before now was l.first l.fn.nets l.fn.state l.fn.rose → AreStepped l.schedule.netlist.now l.before now was l.k l.nets l.state l.rose)
    × AreMarked (walk_of l.schedule.netlist.now) l.marks l.nets × (length l.marks ≡ length l.fn.marks)
