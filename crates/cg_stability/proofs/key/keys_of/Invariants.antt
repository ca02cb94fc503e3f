use Rattle.std.proofs.Common.{◌≡◌, ◌<◌, ℕ, length}
use Rattle.cg_stage_groups.specs.Keys.{key_at}
use Rattle.cg_stage_list_laws.specs.StableList.{stable_key}
use Rattle.cg_stability.proofs.key.keys_of.Given as goal

abbrev pub invariant-loop-reg : goal.invariant-loop-reg
invariant-loop-reg l = record {
  count : length l.keys.items ≡ l.reg;
  each : (r : ℕ) → r < l.reg → key_at l.keys.items r ≡ stable_key l.machine r;
}
