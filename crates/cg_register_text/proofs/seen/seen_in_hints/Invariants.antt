use Rattle.std.proofs.Common.{take}
use Rattle.cg_register_text.specs.inner.Seeing.{AreSeen}
use Rattle.cg_register_text.specs.Trials.{hint_trials}
use Rattle.cg_register_text.proofs.seen.seen_in_hints.Given as goal

abbrev pub invariant-hints : goal.invariant-hints
invariant-hints l = AreSeen l.registers (take l.place (hint_trials l.hints l.outcomes)) l.seen.items
