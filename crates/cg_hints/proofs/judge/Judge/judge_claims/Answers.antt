use Rattle.std.proofs.Common.{ℕ, ◌∷◌, List, map, ◌∙◌, ap}
use Rattle.cg_hint_laws.specs.declared.outcome.HintClaim.TheVariants.{Hold, Idle}
use Rattle.cg_hints.proofs.judge.Judge.judge_claims.Goals as goal

pub judge_each-requires-clause-names : goal.judge_each-requires-clause-names
judge_each-requires-clause-names c = c.as_slice-2.ensures.value ∙ (c.in_ok-names.ensures ∙ ap (λ (l : List ℕ). Idle ∷ map Hold l) c.as_slice.ensures.parts)
