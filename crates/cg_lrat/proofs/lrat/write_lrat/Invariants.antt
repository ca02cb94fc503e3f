use Rattle.std.proofs.Common.{◌≡◌, take}
use Rattle.std.specs.List.{flat_map}
use Rattle.cg_text.specs.Written.{line_text}
use Rattle.cg_lrat.specs.LratText.{step_words}
use Rattle.cg_lrat.proofs.lrat.write_lrat.Given as goal

abbrev pub invariant-loop-place : goal.invariant-loop-place
invariant-loop-place l = l.text.items ≡ flat_map (λ step. line_text (step_words step)) (take l.place l.log.steps)
