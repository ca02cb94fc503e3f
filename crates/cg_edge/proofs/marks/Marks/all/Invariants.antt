use Rattle.std.proofs.Common.{◌≡◌, ◌<◌, ℕ, Some, true, length, slice_get}
use Rattle.cg_edge.proofs.marks.Marks.all.Given as goal

abbrev pub invariant-loop-place : goal.invariant-loop-place
invariant-loop-place l = (length l.marks ≡ l.count) × ((p : ℕ) → p < l.place → slice_get l.marks p ≡ Some true)
