use Rattle.std.proofs.Common.{◌≡◌, ℕ, take}
use Rattle.cg_stage_groups.specs.Keys.{key_at}
use Rattle.cg_stage_groups.specs.Leaving.{had_key}
use Rattle.cg_stage_list_laws.specs.Rounds.{kept_key}
use Rattle.cg_stage_groups.proofs.leaving.leave_out.Given as goal

abbrev pub invariant-loop-before : goal.invariant-loop-before
invariant-loop-before l = (r : ℕ) → key_at l.keys r ≡ kept_key l.kind (had_key l.kind) (take l.before-index l.earlier) (key_at l.initial.keys) r
