use Rattle.std.proofs.Common.{◌≡◌, false, take}
use Rattle.cg_stage_laws.specs.Stages.{has_inverted}
use Rattle.cg_hints.proofs.cells.has_inverted.Given as goal

abbrev pub invariant-loop-literal : goal.invariant-loop-literal
invariant-loop-literal l = has_inverted (take l.literal-index l.term) ≡ false
