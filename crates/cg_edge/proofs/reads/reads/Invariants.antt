use Rattle.std.proofs.Common.{◌≡◌, ◌<◌, ◌≤◌, ℕ, get_or, length, take}
use Rattle.cg_edge.specs.inner.Keeping.{walk_of}
use Rattle.cg_edge.specs.inner.Reads.{reads}
use Rattle.cg_edge.proofs.reads.reads.Given as goal

abbrev pub invariant-loop-place : goal.invariant-loop-place
invariant-loop-place l = (length l.counts.items ≡ length l.netlist.names) × ((x : ℕ) → x < length l.netlist.names → reads x (take l.place (walk_of l.netlist)) ≤ get_or l.counts.items x 0)
