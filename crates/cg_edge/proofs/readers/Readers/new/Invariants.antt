use Rattle.std.proofs.Common.{◌≡◌, ◌<◌, ◌≤◌, ℕ, get_or, length, take}
use Rattle.cg_edge.specs.inner.Keeping.{AreReaders, readers_at, walk_of}
use Rattle.cg_edge.specs.inner.Reads.{reads}
use Rattle.cg_edge.proofs.readers.Readers.new.Given as goal

abbrev pub invariant-loop-place : goal.invariant-loop-place
invariant-loop-place l =
    AreReaders (length l.netlist.names) l.place (walk_of l.netlist) l.filling.lists
    × ((x : ℕ) → x < length l.netlist.names → length (readers_at l.filling.lists x) ≡ reads x (take l.place (walk_of l.netlist)))
    × ((x : ℕ) → x < length l.netlist.names → reads x (walk_of l.netlist) ≤ get_or l.filling.room x 0)
