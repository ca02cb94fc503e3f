-- What comes of a stage by its claims, and the certificates of those claims.
use Rattle.std.specs.Prelude.{◌≡◌, ℕ, Bool, false, List, Option, None, Some}
use Rattle.cg_machine.specs.Machine.{MachineData}
use Rattle.cg_machine.specs.declared.stage.Stage.{Stage}
use Rattle.cg_claim.specs.LeafBits.{is_never}
use Rattle.cg_claim.specs.Question.{idle_question}
use Rattle.cg_plan_laws.specs.Plan.{is_inserted}
use Rattle.cg_plan_laws.specs.StageClaims.{NamedClaim, all_claims, claims_of}
use Rattle.cg_plan_laws.specs.Reported.{TellsOutcome}
use Rattle.cg_plan_laws.specs.Trying.{Tried, decided, first_false, measured, unless_passed}
use Rattle.cg_plan_laws.specs.declared.certificate.Certificate.{Certificate}
use Rattle.cg_plan_laws.specs.declared.outcome.Outcome.{Outcome}
use Rattle.cg_plan_laws.specs.declared.outcome.Outcome.TheVariants.{Inserted}
use Rattle.cg_stage_laws.specs.Effects.{limit_by}
use Rattle.cg_plan.specs.inner.Deciding.{AllCertified}

-- what comes of a stage by its claims, at this width
abbrev pub by_claims : MachineData → ℕ → Stage → Tried
by_claims m width s = measured m width (all_claims m s) (decided m s)

-- a stage of which this comes ends so, or it is inserted unless a limit is passed
abbrev pub IsJudged : MachineData → Stage → Tried → Option Outcome → Type 0
IsJudged m s given (Some outcome) = TellsOutcome m s given outcome × (is_inserted outcome ≡ false)
IsJudged m s given None = given ≡ unless_passed (limit_by s.kind m s)

-- all claims of a stage that does not end by them are certified, where proofs are wanted
abbrev pub Certifying : Bool → MachineData → ℕ → Stage → List Certificate → List Certificate → Option Outcome → Type 0
Certifying proof m number s before after (Some outcome) = Unit {0}
Certifying proof m number s before after None = AllCertified proof m number (claims_of m s) before after

-- all claims of a stage that is inserted are certified, where proofs are wanted
abbrev pub Pushes : Bool → MachineData → ℕ → Stage → List Certificate → List Certificate → Outcome → Type 0
Pushes proof m number s before after Inserted = AllCertified proof m number (claims_of m s) before after
Pushes proof m number s before after _ = Unit {0}

-- nothing is settled of a stage once these claims are done and others are left: it can idle, the first false claim is among
-- those left, and all that are done are certified where proofs are wanted
pub record IsOpen (proof : Bool) (m : MachineData) (number : ℕ) (s : Stage) (done rest : List NamedClaim)
    (before after : List Certificate) : Type 0 where
  pub idle : is_never m (idle_question s.enable) ≡ false
  pub left : first_false m rest ≡ first_false m (claims_of m s)
  pub certified : AllCertified proof m number done before after

-- what is settled of a stage once these claims are done and others are left: nothing yet, or how it ends where no claim that is
-- left is too wide or too large
abbrev pub IsSettled : Bool → MachineData → ℕ → Stage → List NamedClaim → List NamedClaim → List Certificate →
    List Certificate → Option Outcome → Type 0
IsSettled proof m number s done rest before after None = IsOpen proof m number s done rest before after
IsSettled proof m number s done rest before after (Some end) = IsJudged m s (decided m s) (Some end)
