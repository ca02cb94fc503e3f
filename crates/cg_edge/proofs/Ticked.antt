-- The marks that a simulator begins with.
use Rattle.std.proofs.Common.{◌≡◌, ◌<◌, ℕ, inl, Bool, true, List, length, slice_get, Some, ap, arith}
use Rattle.std.proofs.lemmas.Option.{slice_get_within}
use Rattle.cg_netlist.specs.Circuit.{Circuit}
use Rattle.cg_netlist.specs.Netlist.{IsNetlist}
use Rattle.cg_netlist.specs.Nets.{walk_order}
use Rattle.cg_edge.specs.inner.Keeping.{AreMarked, walk_of}
use Rattle.cg_edge.proofs.Walk.{walk_long}

-- where all places are marked, each cell is
pub all_marked : (c : Circuit) → IsNetlist c → (order : List ℕ) (marks nets : List Bool) → order ≡ walk_order c.cells → ((p : ℕ) → p < length order → slice_get marks p ≡ Some true) → AreMarked (walk_of c) marks nets
all_marked c good order marks nets is ones p cell at = inl (ones p (omega (arith, slice_get_within (walk_of c) p cell at, walk_long c good.well_formed, ap length is)))
