-- What a run leaves and which of its calls failed, by its status.
use Rattle.std.specs.Prelude.{◌≡◌, ◌⊎◌, ℕ, IsTrue, List, [], ◌∷◌, Option, IsSomeAnd}
use Rattle.cg_shelf.specs.World.{World}
use Rattle.cg_shelf.specs.Shelf.{one_fault}
use Rattle.cg_shelf.specs.declared.faults.Call.TheVariants as calls
use Rattle.cg_shelf.specs.declared.faults.Fault.{Fault}
use Rattle.cg_run.specs.declared.writing.Output.{Output}
use Rattle.cg_run.specs.declared.refusal.Step.{Step}
use Rattle.cg_run.specs.declared.role.Role.{Role}
use Rattle.cg_run.specs.declared.status.Status.{Status}
use Rattle.cg_run.specs.declared.status.Status.TheVariants as statuses
use Rattle.cg_run.specs.Reads.{Untouched}
use Rattle.cg_run.specs.Roles.{is_among}
use Rattle.cg_run.specs.Writes.{HasStep, LeavesAt, Written, is_stored}

-- a part of the writes of an output was made: those before one of them, which is open
pub record Broken (names : Role → List ℕ) (output : Output) (before after : World) : Type 0 where
  pub step : Step
  pub writing : HasStep output step
  pub leaves : LeavesAt names output step before after

-- what stands
abbrev pub StandsBy : (Role → List ℕ) → Option Output → World → World → Status → Type 0
StandsBy names out before after statuses.Done = IsSomeAnd out (λ output. Written names output before after)
StandsBy names out before after statuses.Rejected = IsSomeAnd out (λ output. Written names output before after)
StandsBy names out before after statuses.WriteFault = IsSomeAnd out (λ output. Broken names output before after)
StandsBy names out before after statuses.NoMemory =
    Untouched before after ⊎ IsSomeAnd out (λ output. Broken names output before after)
StandsBy names out before after other = Untouched before after

-- The failed calls that are no complaint: at most one. A load that failed is that of a file which the mode loads, and a store
-- that failed is that of a file which it stores.
abbrev pub FailsBy : (Role → List ℕ) → List Role → Option Output → List Fault → Status → Type 0
FailsBy names loads out made statuses.ReadFault =
    (role : Role) × (IsTrue (is_among role loads) × (made ≡ one_fault calls.Load (names role)))
FailsBy names loads out made statuses.WriteFault =
    ((role : Role)
    × (IsSomeAnd out (λ output. IsTrue (is_stored role output.stores)) × (made ≡ one_fault calls.Store (names role))))
    ⊎ (made ≡ one_fault calls.Say [])
FailsBy names loads out made statuses.NoMemory = (made ≡ []) ⊎ ((fault : Fault) × (made ≡ fault ∷ []))
FailsBy names loads out made other = made ≡ []
