-- The claims of a stage in order, each with its name and its question.
use Rattle.std.specs.Prelude.{List, ◌∷◌, map}
use Rattle.cg_machine.specs.Claims.{Target}
use Rattle.cg_machine.specs.Machine.{MachineData}
use Rattle.cg_machine.specs.declared.stage.Stage.{Stage}
use Rattle.cg_machine.specs.declared.stage.StageKind.{StageKind}
use Rattle.cg_machine.specs.declared.stage.StageKind.TheVariants.{Hold, Stable, Unseen}
use Rattle.cg_claim.specs.Question.{Question, hold_question, idle_question, stable_question, unseen_question}
use Rattle.cg_claim.specs.Targets.{unseen_targets}
use Rattle.cg_claim.specs.declared.name.ClaimName.{ClaimName}
use Rattle.cg_claim.specs.declared.name.ClaimName.TheVariants.{Hold as HoldName, Idle, Stable as StableName}
use Rattle.cg_stage_laws.specs.Stages.{first_literal}

-- a claim: its name and its question
abbrev pub NamedClaim : Type 0
NamedClaim = ClaimName × Question

-- the claim of a target
abbrev pub target_claim : Stage → ClaimName × Target → NamedClaim
target_claim s t = (t.0, unseen_question s.enable s.guards s.regs t.1)

-- the claims beside that the stage can idle: one for each register, or one for each target that one of them reaches
abbrev pub claims_by : StageKind → MachineData → Stage → List NamedClaim
claims_by Hold m s = map (λ r. (HoldName r, hold_question (first_literal s.enable) r)) s.regs
claims_by Stable m s = map (λ r. (StableName r, stable_question s.enable r)) s.regs
claims_by Unseen m s = map (target_claim s) (unseen_targets m s.enable s.regs)

abbrev pub claims_of : MachineData → Stage → List NamedClaim
claims_of m s = claims_by s.kind m s

-- that the stage can idle comes before the others
abbrev pub all_claims : MachineData → Stage → List NamedClaim
all_claims m s = (Idle, idle_question s.enable) ∷ claims_of m s
