-- What every run keeps, whatever its mode, and how what is held ends it.
use Rattle.std.specs.Prelude.{◌≡◌, ◌≢◌, ℕ, IsTrue, List, length, nat_lt, if◌then◌else◌, Option, None, Some, Ok, Err, ⊤}
use Rattle.cg_limit.specs.declared.TheConstants.{MOST_FILE_BYTES}
use Rattle.cg_shelf.specs.World.{World}
use Rattle.cg_shelf.specs.declared.faults.LoadFault.TheVariants as loads
use Rattle.cg_run.specs.declared.writing.Finish.{Finish}
use Rattle.cg_run.specs.declared.writing.Finish.TheVariants as finishes
use Rattle.cg_run.specs.declared.writing.Output.{Output}
use Rattle.cg_run.specs.declared.refusal.Refusal.{Refusal}
use Rattle.cg_run.specs.declared.role.Role.{Role}
use Rattle.cg_run.specs.declared.status.Status.{Status}
use Rattle.cg_run.specs.declared.status.Status.TheVariants as statuses
use Rattle.cg_run.specs.Refusal.{status_of}
use Rattle.cg_run.specs.Status.{finish_status}
use Rattle.cg_run.specs.Verdict.{ComesTo, Given, Loaded, Task}
use Rattle.cg_run.specs.Writes.{is_stored}

-- A name that is not that of a file which is stored keeps what it held: it is apart from those of every output to which
-- files come.
abbrev pub IsApart : (Role → List ℕ) → Output → List ℕ → Type 0
IsApart names output name = (role : Role) → IsTrue (is_stored role output.stores) → name ≢ names role

abbrev pub KeepsOthers : Task → (Role → List ℕ) → World → World → Type 0
KeepsOthers task names before after = (name : List ℕ) →
    ((given : Given) (output : Output) → ComesTo task given output → IsApart names output name) → after.held name ≡ before.held name

-- what a load gives of the bytes that are held, where it does not fail
abbrev pub loaded_of : Option (List ℕ) → Loaded
loaded_of None = Some (Err loads.Failed)
loaded_of (Some bytes) = Some (if nat_lt MOST_FILE_BYTES (length bytes) then Err loads.TooLong else Ok bytes)

abbrev pub held_files : (Role → List ℕ) → World → Given
held_files names world = λ role. loaded_of (world.held (names role))

-- a fact of how a run ended, unless a call of the shelf failed or there was no memory
abbrev pub UnlessFails : (Status → Type 0) → Status → Type 0
UnlessFails P statuses.ReadFault = ⊤
UnlessFails P statuses.WriteFault = ⊤
UnlessFails P statuses.NoMemory = ⊤
UnlessFails P result = P result

-- how files end a run: by what they are refused for, or else as an output says to which they come
abbrev pub EndsBy : Option Refusal → (Output → Type 0) → Status → Type 0
EndsBy (Some refusal) comes result = result ≡ status_of refusal
EndsBy None comes result = (output : Output) × (comes output × (result ≡ finish_status output.finish))

abbrev pub EndsAs : Task → Given → Status → Type 0
EndsAs task given result = EndsBy (task.refused given) (task.comes given) result

-- a fact of how a run finished, of the runs that did
abbrev pub FinishBy : (Finish → Type 0) → Status → Type 0
FinishBy P statuses.Done = P finishes.Done
FinishBy P statuses.Rejected = P finishes.Rejected
FinishBy P other = ⊤
