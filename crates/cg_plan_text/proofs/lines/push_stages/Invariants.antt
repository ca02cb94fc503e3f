use Rattle.std.proofs.Common.{◌≡◌, ◌+◌, ◌++◌, drop}
use Rattle.cg_text.specs.Written.{text_of}
use Rattle.cg_plan_text.specs.StageLines.{stages_from}
use Rattle.cg_plan_text.proofs.lines.push_stages.Given as goal

abbrev pub invariant-stages : goal.invariant-stages
invariant-stages l = l.text.items ++ text_of (stages_from l.machine (l.place + 1) (drop l.place l.stages)) ≡ l.fn.text.items ++ text_of (stages_from l.machine 1 l.stages)
