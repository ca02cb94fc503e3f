-- What is decided of claims, and the certificates that come of it.
use Rattle.std.specs.Prelude.{◌≡◌, ℕ, Bool, true, false, if◌then◌else◌, List, [], ◌∷◌, ◌++◌, map, Option, Some, None}
use Rattle.cg_machine.specs.Machine.{MachineData}
use Rattle.cg_claim.specs.LeafBits.{is_never}
use Rattle.cg_claim.specs.Question.{Question}
use Rattle.cg_claim.specs.declared.leaf.LeafBit.{LeafBit}
use Rattle.cg_plan_laws.specs.StageClaims.{NamedClaim}
use Rattle.cg_plan_laws.specs.Reported.{AreAppended, DoViolate, StageClaim}
use Rattle.cg_plan_laws.specs.declared.certificate.Certificate.{Certificate}
use Rattle.cg_plan_laws.specs.declared.outcome.Outcome.{Outcome}
use Rattle.cg_plan_laws.specs.declared.outcome.Outcome.TheVariants.{NeverIdle, Refuted}
use Rattle.cg_plan.specs.Planning.{StayWritable}

-- claims of the stage of this number
abbrev pub numbered : MachineData → ℕ → List NamedClaim → List StageClaim
numbered m number claims = map (λ c. record { machine = m; number = number; claim = c }) claims

-- more certificates are put behind others, or none
pub record Grow (before after : List Certificate) : Type 0 where
  pub more : List Certificate
  pub whole : after ≡ before ++ more

-- where proofs are wanted, certificates of these claims that can be written are put behind others; else nothing is
pub record AllCertified (proof : Bool) (m : MachineData) (number : ℕ) (claims : List NamedClaim)
    (before after : List Certificate) : Type 0 where
  pub appended : AreAppended (if proof then numbered m number claims else []) before after
  pub writable : StayWritable before after

-- a stage is refuted by this claim, with bits that violate it
pub record IsRefuting (m : MachineData) (c : NamedClaim) (end : Outcome) : Type 0 where
  pub bits : List LeafBit
  pub is : end ≡ Refuted c.0 bits
  pub violate : DoViolate m c.1 bits

-- a claim is decided: it is never violated, and certified where proofs are wanted, or its stage ends refuted by it
abbrev pub IsDecided : Bool → MachineData → ℕ → NamedClaim → List Certificate → List Certificate → Option Outcome → Type 0
IsDecided proof m number c before after None = (is_never m c.1 ≡ true) × AllCertified proof m number (c ∷ []) before after
IsDecided proof m number c before after (Some end) = (is_never m c.1 ≡ false) × IsRefuting m c end

-- the claim that a stage can idle, which has this question, is decided: where it is never violated the stage is never idle
abbrev pub IsIdleDecided : MachineData → Question → Option Outcome → Type 0
IsIdleDecided m q None = is_never m q ≡ false
IsIdleDecided m q (Some end) = (is_never m q ≡ true) × (end ≡ NeverIdle)

-- a claim has its turn: it is decided where nothing was settled before
abbrev pub Settles : Bool → MachineData → ℕ → NamedClaim → List Certificate → List Certificate → Option Outcome →
    Option Outcome → Type 0
Settles proof m number c before after None settled = IsDecided proof m number c before after settled
Settles proof m number c before after (Some end) settled = settled ≡ Some end
