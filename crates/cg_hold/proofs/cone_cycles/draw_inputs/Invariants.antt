use Rattle.std.proofs.Common.{◌≡◌, length}
use Rattle.cg_hold.proofs.cone_cycles.draw_inputs.Given as goal

abbrev pub invariant-loop-net : goal.invariant-loop-net
invariant-loop-net l = length l.words.items ≡ length l.fn.words.items
