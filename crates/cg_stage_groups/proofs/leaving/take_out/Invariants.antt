use Rattle.std.proofs.Common.{◌≡◌, ℕ, if◌then◌else◌, take}
use Rattle.cg_net.specs.NetSets.{is_in}
use Rattle.cg_stage_groups.specs.Keys.{key_at, key_seen}
use Rattle.cg_stage_groups.specs.Leaving.{without}
use Rattle.cg_stage_groups.proofs.leaving.take_out.Given as goal

abbrev pub invariant-loop-reg : goal.invariant-loop-reg
invariant-loop-reg l = (r : ℕ) → key_at l.keys r ≡ (if is_in (take l.reg-index l.regs) r then without l.inserted (key_seen l.tried) (key_at l.initial.keys r) else key_at l.initial.keys r)
