-- Hold stages that come through their claims: what the search that found them has shown.
use Rattle.std.specs.Prelude.{◌≡◌, ℕ, false, List, [], ◌∷◌, None}
use Rattle.cg_machine.specs.Machine.{MachineData}
use Rattle.cg_machine.specs.declared.stage.Stage.{Stage}
use Rattle.cg_machine.specs.declared.stage.StageKind.TheVariants.{Hold}
use Rattle.cg_claim.specs.LeafBits.{is_never}
use Rattle.cg_claim.specs.Question.{idle_question}
use Rattle.cg_plan_laws.specs.StageClaims.{all_claims, claims_of}
use Rattle.cg_plan_laws.specs.Trying.{Tried, first_false, measured}

-- a hold stage that comes through its claims at this width: none is too wide or passes the limit on nodes, it can idle, and no
-- claim is false
pub record IsCleared (m : MachineData) (width : ℕ) (s : Stage) : Type 0 where
  pub kind : s.kind ≡ Hold
  pub narrow : (later : Tried) → measured m width (all_claims m s) later ≡ later
  pub idles : is_never m (idle_question s.enable) ≡ false
  pub holds : first_false m (claims_of m s) ≡ None

-- each stage of a list does
abbrev pub AllCleared : MachineData → ℕ → List Stage → Type 0
AllCleared m width [] = Unit {0}
AllCleared m width (s ∷ stages) = IsCleared m width s × AllCleared m width stages
