use Rattle.std.proofs.Common.{take}
use Rattle.cg_register_text.specs.Trials.{stage_trials}
use Rattle.cg_register_text.specs.inner.Seeing.{AreSeen}
use Rattle.cg_register_text.proofs.seen.seen_in_stages.Given as goal

abbrev pub invariant-stages : goal.invariant-stages
invariant-stages l = AreSeen l.registers (take l.place (stage_trials l.stages)) l.seen.items
