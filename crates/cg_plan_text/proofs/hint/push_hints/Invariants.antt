use Rattle.std.proofs.Common.{◌≡◌, ◌+◌, ◌++◌, drop}
use Rattle.cg_text.specs.Written.{text_of}
use Rattle.cg_plan_text.specs.HintWords.{hints_from}
use Rattle.cg_plan_text.proofs.hint.push_hints.Given as goal

abbrev pub invariant-hints : goal.invariant-hints
invariant-hints l = l.text.items ++ text_of (hints_from l.machine (l.place + 1) (drop l.place l.hints) (drop l.place l.outcomes)) ≡ l.fn.text.items ++ text_of (hints_from l.machine 1 l.hints l.outcomes)
