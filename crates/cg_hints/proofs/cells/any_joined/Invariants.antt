use Rattle.std.proofs.Common.{◌≡◌, false, take}
use Rattle.std.specs.List.{list_any}
use Rattle.cg_hint_laws.specs.Needs.{has_more}
use Rattle.cg_hints.proofs.cells.any_joined.Given as goal

abbrev pub invariant-loop-k : goal.invariant-loop-k
invariant-loop-k l = list_any has_more (take l.k l.terms) ≡ false
