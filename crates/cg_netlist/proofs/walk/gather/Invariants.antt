use Rattle.std.proofs.Common.{◌≡◌, take}
use Rattle.cg_netlist.specs.Moment.{values_at}
use Rattle.cg_netlist.proofs.walk.gather.Given as goal

abbrev pub invariant-loop-place : goal.invariant-loop-place
invariant-loop-place g l = take l.place l.scratch ≡ values_at l.values (take l.place l.nets)
