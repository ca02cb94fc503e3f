use Rattle.std.proofs.Common.{◌≡◌, ◌-◌, ◌++◌, [], List, length, slice_get, Option, Some, None, sym, ap, ◌∙◌}
use Rattle.std.specs.Option.{option_map_or}
use Rattle.std.proofs.lemmas.Bool.{ltb-true}
use Rattle.std.proofs.lemmas.List.{append-nil}
use Rattle.std.proofs.lemmas.Option.{slice_get-get_or, slice_get_past}
use Rattle.std.proofs.lemmas.Result.{on_ok_weaker}
use Rattle.cg_machine.specs.declared.stage.Stage.{Stage}
use Rattle.cg_plan_laws.specs.Reported.{without_bits}
use Rattle.cg_plan_laws.specs.declared.outcome.Outcome.{Outcome}
use Rattle.cg_plan_text.specs.Words.{Word, outcome_words}
use Rattle.cg_plan_text.specs.inner.Spaced.{spaced}
use Rattle.cg_register_text.specs.Words.{GatedData}
use Rattle.cg_register_text.proofs.line.push_stage_outcome.Goals as goal

pub returns-in-Some : goal.returns-in-Some
returns-in-Some c =
    let g = c.args.told.now in
    let stages = c.as_slice-stages.result.now in
    let i = c.saturating_sub.result in
    let tried = c.in-Some.tried.now in
    let words : Option (Stage × Outcome) → List Word = λ o. option_map_or (λ (t : Stage × Outcome). outcome_words g.plan.machine (without_bits t.1)) o [] in
    let here : slice_get stages i ≡ Some tried = slice_get-get_or stages i tried (ltb-true i (length stages) (sym c.in-Some.ensures.lookup.0)) ∙ ap Some (sym c.in-Some.ensures.lookup.1) in
    let seen : (c.told.inside.plan.now.machine ≡ g.plan.machine) × (c.told.inside.plan.now.stages ≡ g.plan.stages) = (ap (λ (x : GatedData). x.plan.machine) c.told.view_is, ap (λ (x : GatedData). x.plan.stages) c.told.view_is) in
    let at : slice_get g.plan.stages (c.args.number - 1) ≡ Some tried = ap (λ l. slice_get l (c.args.number - 1)) (sym seen.1) ∙ (ap (λ l. slice_get l (c.args.number - 1)) (sym c.as_slice-stages.ensures.parts) ∙ (ap (slice_get stages) (sym c.saturating_sub.ensures) ∙ here)) in
    on_ok_weaker c.push_stage_end.result (λ is. is ∙ (ap (λ m. c.args.text.now.items ++ spaced (outcome_words m (without_bits tried.1))) seen.0 ∙ ap (λ o. c.args.text.now.items ++ spaced (words o)) (sym at))) c.push_stage_end.ensures

pub returns-in-None : goal.returns-in-None
returns-in-None c =
    let g = c.args.told.now in
    let stages = c.as_slice-stages.result.now in
    let i = c.saturating_sub.result in
    let words : Option (Stage × Outcome) → List Word = λ o. option_map_or (λ (t : Stage × Outcome). outcome_words g.plan.machine (without_bits t.1)) o [] in
    let here : slice_get stages i ≡ None = slice_get_past stages i c.in-None.ensures.lookup.3 in
    let seen : (c.told.inside.plan.now.machine ≡ g.plan.machine) × (c.told.inside.plan.now.stages ≡ g.plan.stages) = (ap (λ (x : GatedData). x.plan.machine) c.told.view_is, ap (λ (x : GatedData). x.plan.stages) c.told.view_is) in
    let at : slice_get g.plan.stages (c.args.number - 1) ≡ None = ap (λ l. slice_get l (c.args.number - 1)) (sym seen.1) ∙ (ap (λ l. slice_get l (c.args.number - 1)) (sym c.as_slice-stages.ensures.parts) ∙ (ap (slice_get stages) (sym c.saturating_sub.ensures) ∙ here)) in
    sym (append-nil c.args.text.now.items) ∙ ap (λ o. c.args.text.now.items ++ spaced (words o)) (sym at)
