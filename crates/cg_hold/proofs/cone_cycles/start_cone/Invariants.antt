use Rattle.std.proofs.Common.{take}
use Rattle.cg_hold.proofs.ConeStarted.{StartOn}
use Rattle.cg_hold.proofs.cone_cycles.start_cone.Given as goal

abbrev pub invariant-loop-place : goal.invariant-loop-place
invariant-loop-place l = StartOn l.look.search.now.machine.now l.state (take l.place l.look.nets.now) l.words
