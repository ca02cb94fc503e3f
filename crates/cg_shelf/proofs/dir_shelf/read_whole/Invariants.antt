use Rattle.std.proofs.Common.{◌≤◌, ◌-◌, length}
use Rattle.std.specs.Io.KnownBytes.{Consumes}
use Rattle.cg_shelf.proofs.dir_shelf.read_whole.Given as goal

-- What was read is what the reader gave.
abbrev pub invariant-reads : goal.invariant-reads
invariant-reads g l = record {
  within : length l.into.items ≤ l.limit;
  taken : Consumes (g.R.Read.remaining l.fn.from) (g.R.Read.remaining l.from) l.into.items;
}

-- Each turn but the last reads at least one byte.
abbrev pub decreases-reads : goal.decreases-reads
decreases-reads g l = l.limit - length l.into.items
