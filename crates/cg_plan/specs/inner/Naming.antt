-- The claims of a stage by their names.
use Rattle.std.specs.Prelude.{◌≡◌, ◌<◌, List, length, map}
use Rattle.std.specs.List.{All}
use Rattle.cg_machine.specs.Machine.{MachineData}
use Rattle.cg_machine.specs.declared.stage.Stage.{Stage}
use Rattle.cg_claim.specs.Question.{Question, hold_question, idle_question, stable_question, unseen_question}
use Rattle.cg_claim.specs.declared.name.ClaimName.{ClaimName}
use Rattle.cg_claim.specs.declared.name.ClaimName.TheVariants.{Enable, Hold, Idle, Next, Output, Stable}
use Rattle.cg_plan_laws.specs.StageClaims.{NamedClaim, claims_of}
use Rattle.cg_stage_laws.specs.Stages.{first_literal}
use Rattle.cg_claim_reach.specs.Unseen.{UnseenData}
use Rattle.cg_unroll.specs.Claims.{target_of}

-- the question of the claim that a name names
abbrev pub question_of : MachineData → Stage → ClaimName → Question
question_of m s Idle = idle_question s.enable
question_of m s (Hold r) = hold_question (first_literal s.enable) r
question_of m s (Stable r) = stable_question s.enable r
question_of m s (Output k) = unseen_question s.enable s.guards s.regs (target_of m (Output k))
question_of m s (Next r) = unseen_question s.enable s.guards s.regs (target_of m (Next r))
question_of m s Enable = unseen_question s.enable s.guards s.regs (target_of m Enable)

-- the registers of a stage's unobservability claims, and their guards
abbrev pub unseen_of : Stage → UnseenData
unseen_of s = record { guards = s.guards; regs = s.regs }

-- what a name names is there
abbrev pub NameFits : MachineData → ClaimName → Type 0
NameFits m Idle = Unit {0}
NameFits m (Hold r) = r < length m.circuit.registers
NameFits m (Stable r) = r < length m.circuit.registers
NameFits m (Output k) = k < length m.circuit.outputs
NameFits m (Next r) = r < length m.circuit.registers
NameFits m Enable = Unit {0}

-- a claim with its name, and the claims of several names in order
abbrev pub named : MachineData → Stage → ClaimName → NamedClaim
named m s name = (name, question_of m s name)

abbrev pub claims_named : MachineData → Stage → List ClaimName → List NamedClaim
claims_named m s names = map (named m s) names

-- the names of the claims of a stage in order, but for that it can idle
pub record AreNames (m : MachineData) (s : Stage) (names : List ClaimName) : Type 0 where
  pub whole : claims_named m s names ≡ claims_of m s
  pub fit : All (NameFits m) names
