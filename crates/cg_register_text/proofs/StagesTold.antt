-- Stages as they are told are the trials of their turns.
use Rattle.std.proofs.Common.{◌≡◌, [], ◌∷◌, refl, sym, ap, ◌∙◌}
use Rattle.cg_machine.specs.declared.stage.Stage.{Stage}
use Rattle.cg_plan_laws.specs.Plan.{is_inserted}
use Rattle.cg_plan_laws.specs.Reported.{without_bits}
use Rattle.cg_plan_laws.specs.declared.outcome.Outcome.{Outcome}
use Rattle.cg_plan_laws.specs.declared.outcome.Outcome.TheVariants.{Inserted, NeverIdle, NoCell, Refuted, Small, Wide}
use Rattle.cg_register_text.specs.Laws.{StagesAreTold}
use Rattle.cg_register_text.specs.Meaning.{turn_trial}
use Rattle.cg_register_text.specs.Trials.{stage_trial, stage_trials}

-- bits say nothing of whether a stage was inserted
inserted_so : (o : Outcome) → is_inserted (without_bits o) ≡ is_inserted o
inserted_so Inserted = refl
inserted_so (Refuted claim bits) = refl
inserted_so (Wide claim n) = refl
inserted_so NeverIdle = refl
inserted_so (Small n) = refl
inserted_so (NoCell kind) = refl

pub stages_told : StagesAreTold
stages_told [] told are = ap stage_trials are
stages_told (turn ∷ turns) [] are = absurd are
stages_told (turn ∷ turns) (t ∷ told) are =
    let is : turn.outcome ≡ without_bits t.1 = cc (are.1.0) in
    let inserted : is_inserted t.1 ≡ is_inserted turn.outcome = sym (inserted_so t.1) ∙ ap is_inserted (sym is) in
    let one : stage_trial t ≡ turn_trial turn = λ i. record { regs = ap (λ (s : Stage). s.regs) are.0 i; inserted = inserted i } in
    ap (λ x. x ∷ stage_trials told) one ∙ ap (λ l. turn_trial turn ∷ l) (stages_told turns told are.2)
