use Rattle.std.proofs.Common.{◌≡◌, ℕ, List, ◌++◌, length}
use Rattle.std.specs.Io.KnownBytes.{Appends}
use Rattle.cg_shelf.proofs.dir_shelf.write_whole.Given as goal

-- What is gone from the bytes was appended.
abbrev pub invariant-writes : goal.invariant-writes
invariant-writes g l = (done : List ℕ) × (l.bytes ≡ done ++ l.rest) × Appends (g.W.Write.contents l.fn.to) (g.W.Write.contents l.to) done

-- Each turn takes at least one byte of what is left.
abbrev pub decreases-writes : goal.decreases-writes
decreases-writes g l = length l.rest
