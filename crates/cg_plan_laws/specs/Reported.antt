-- What the code tells of a stage and of a plan, beside what the definitions say: bits that violate a refuted claim, and
-- certificates of the claims of inserted stages.
use Rattle.std.specs.Prelude.{◌≡◌, ℕ, ◌+◌, true, if◌then◌else◌, List, [], ◌∷◌, ◌++◌, map, slice_get, Option, Some, None}
use Rattle.cg_cell.specs.Cell.{CellData}
use Rattle.cg_cnf.specs.Clauses.{formula_of}
use Rattle.cg_limit.specs.declared.Limit.{Limit}
use Rattle.cg_lrat.specs.AcceptedLog.{IsAccepted}
use Rattle.cg_netlist.specs.declared.fault.AddFault.{AddFault}
use Rattle.cg_netlist.specs.declared.fault.AddFault.TheVariants.{Limit as LimitFault, NoMemory}
use Rattle.cg_machine.specs.Machine.{MachineData}
use Rattle.cg_machine.specs.declared.stage.Stage.{Stage}
use Rattle.cg_claim.specs.Build.{claim_run}
use Rattle.cg_claim.specs.LeafBits.{violates_at}
use Rattle.cg_claim.specs.Leaves.{leaves_of, shown_leaf}
use Rattle.cg_claim.specs.Question.{Question}
use Rattle.cg_claim.specs.declared.leaf.LeafBit.{LeafBit}
use Rattle.cg_claim.specs.declared.name.ClaimName.{ClaimName}
use Rattle.cg_stage_list_laws.specs.Literals.{ZeroCounts}
use Rattle.cg_plan_laws.specs.Plan.{Turn, is_inserted, plan_of, wide_of}
use Rattle.cg_plan_laws.specs.StageClaims.{NamedClaim, claims_of}
use Rattle.cg_plan_laws.specs.Trying.{Ends, Passes, Tried}
use Rattle.cg_plan_laws.specs.declared.certificate.Certificate.{Certificate}
use Rattle.cg_plan_laws.specs.declared.outcome.Outcome.{Outcome}
use Rattle.cg_plan_laws.specs.declared.outcome.Outcome.TheVariants.{Refuted}
use Rattle.cg_plan_laws.specs.declared.settings.Settings.{Settings}

-- an outcome but for the bits of a refuted claim
abbrev pub without_bits : Outcome → Outcome
without_bits (Refuted claim bits) = Refuted claim []
without_bits outcome = outcome

-- bits of a claim's leaves, one for each leaf in order, that violate the claim
pub record DoViolate (m : MachineData) (q : Question) (bits : List LeafBit) : Type 0 where
  pub leaves : map (λ (b : LeafBit). b.leaf) bits ≡ map shown_leaf (leaves_of m q)
  pub violated : violates_at m q (map (λ (b : LeafBit). b.bit) bits) ≡ true

-- these bits violate a claim of the stage that has this name
pub record IsRefuted (m : MachineData) (s : Stage) (claim : ClaimName) (bits : List LeafBit) : Type 0 where
  pub place : ℕ
  pub question : Question
  pub named : slice_get (claims_of m s) place ≡ Some (claim, question)
  pub violate : DoViolate m question bits

abbrev pub IsBacked : MachineData → Stage → Outcome → Type 0
IsBacked m s (Refuted claim bits) = IsRefuted m s claim bits
IsBacked m s _ = Unit {0}

-- an outcome that is told of a stage on a machine is what comes of it, and bits that are told with it violate the claim
abbrev pub TellsOutcome : MachineData → Stage → Tried → Outcome → Type 0
TellsOutcome m s result told = (result ≡ Ends (without_bits told)) × IsBacked m s told

-- a fault of trying a stage: the limit that is passed, or want of memory at any time
abbrev pub MayFail : Tried → AddFault → Type 0
MayFail result NoMemory = Unit {0}
MayFail result (LimitFault limit) = result ≡ Passes limit

-- a claim of the stage of this number, tried on this machine
pub record StageClaim : Type 0 where
  pub machine : MachineData
  pub number : ℕ
  pub claim : NamedClaim

-- a certificate of a claim: its formula, as that of the claim's goal, and a log that proves that nothing satisfies it
pub record Certifies (c : StageClaim) (certificate : Certificate) : Type 0 where
  pub stage : certificate.stage ≡ c.number
  pub claim : certificate.claim ≡ c.claim.0
  pub formula : certificate.formula ≡ formula_of (claim_run c.machine c.claim.1).domain (claim_run c.machine c.claim.1).answer
  pub accepted : IsAccepted certificate.formula certificate.log

-- certificates, one for each of these claims in order
abbrev pub AreCertified : List StageClaim → List Certificate → Type 0
AreCertified [] certificates = certificates ≡ []
AreCertified (c ∷ claims) [] = ⊥
AreCertified (c ∷ claims) (certificate ∷ certificates) = Certifies c certificate × AreCertified claims certificates

-- the claims of a stage that is inserted, beside that it can idle
abbrev pub certified_claims : ℕ → MachineData → Stage → List StageClaim
certified_claims number m s = map (λ c. record { machine = m; number = number; claim = c }) (claims_of m s)

-- the claims that are certified where this comes of a stage
abbrev pub claims_for : ℕ → MachineData → Stage → Outcome → List StageClaim
claims_for number m s outcome = if is_inserted outcome then certified_claims number m s else []

-- those of the turns of a plan, of which the first has this number
abbrev pub plan_claims : ℕ → List Turn → List StageClaim
plan_claims number [] = []
plan_claims number (turn ∷ turns) = claims_for number turn.machine turn.stage turn.outcome ++ plan_claims (number + 1) turns

-- the claims of a plan that are certified: those of all its turns where the settings ask for proofs, and else none
abbrev pub kept_claims : Settings → List Turn → List StageClaim
kept_claims settings turns = if settings.proof then plan_claims 1 turns else []

-- certificates of these claims are put behind others
pub record AreAppended (claims : List StageClaim) (before after : List Certificate) : Type 0 where
  pub more : List Certificate
  pub whole : after ≡ before ++ more
  pub certified : AreCertified claims more

-- stages with their outcomes as they are told of turns, one for each turn in order
abbrev pub AreTold : List Turn → List (Stage × Outcome) → Type 0
AreTold [] told = told ≡ []
AreTold (turn ∷ turns) [] = ⊥
AreTold (turn ∷ turns) (t ∷ told) =
    (t.0 ≡ turn.stage) × TellsOutcome turn.machine turn.stage (Ends turn.outcome) t.1 × AreTold turns told

-- a plan as it is told: the machine at its end, its stages with their outcomes, of how many registers the hold claims are
-- too wide on the machine that it begins with, and the certificates
pub record ReportedPlan : Type 0 where
  pub machine : MachineData
  pub stages : List (Stage × Outcome)
  pub wide : ℕ
  pub certificates : List Certificate

-- it is the plan of a machine, with a certificate for each claim of each inserted stage where the settings ask for proofs
pub record IsPlan (library : List CellData) (settings : Settings) (counts : Option ZeroCounts) (m : MachineData)
    (told : ReportedPlan) : Type 0 where
  pub whole : (plan_of library settings counts m).limit ≡ None
  pub machine : told.machine ≡ (plan_of library settings counts m).machine
  pub stages : AreTold (plan_of library settings counts m).turns told.stages
  pub wide : told.wide ≡ wide_of settings m
  pub certificates : AreCertified (kept_claims settings (plan_of library settings counts m).turns) told.certificates

-- a fault of a plan: the limit at which it stops, or want of memory at any time
abbrev pub PlanMayFail : Option Limit → AddFault → Type 0
PlanMayFail limit NoMemory = Unit {0}
PlanMayFail limit (LimitFault passed) = limit ≡ Some passed
