use Rattle.std.proofs.Common.{◌≡◌, false, take}
use Rattle.std.specs.List.{list_any}
use Rattle.cg_stage_laws.specs.Stages.{has_inverted}
use Rattle.cg_hints.proofs.cells.any_inverted.Given as goal

abbrev pub invariant-loop-k : goal.invariant-loop-k
invariant-loop-k l = list_any has_inverted (take l.k l.terms) ≡ false
