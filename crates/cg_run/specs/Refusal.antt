-- What a refusal means: status, line of complaint, failed calls, and how far the run had come. One line a kind.
use Rattle.std.specs.Prelude.{◌≤◌, ℕ, Bool, if◌then◌else◌, IsTrue, List, [], ◌∷◌, ◌++◌, codes, length, Result, Ok, Err, ⊤}
use Rattle.cg_limit.specs.declared.Limit.{Limit}
use Rattle.cg_limit.specs.declared.Limit.TheVariants as limits
use Rattle.cg_shelf.specs.declared.faults.Call.TheVariants as calls
use Rattle.cg_shelf.specs.declared.faults.Fault.{Fault}
use Rattle.cg_shelf.specs.declared.faults.StoreFault.{StoreFault}
use Rattle.cg_shelf.specs.declared.faults.StoreFault.TheVariants as stores
use Rattle.cg_shelf.specs.Shelf.{one_fault}
use Rattle.cg_run.specs.declared.refusal.Owner.{Owner}
use Rattle.cg_run.specs.declared.refusal.Owner.TheVariants as owners
use Rattle.cg_run.specs.declared.refusal.Step.{Step}
use Rattle.cg_run.specs.declared.refusal.Step.TheVariants as steps
use Rattle.cg_run.specs.declared.refusal.Refusal.{Refusal}
use Rattle.cg_run.specs.declared.refusal.Refusal.TheVariants as refusals
use Rattle.cg_run.specs.declared.refusal.Trouble.{Trouble}
use Rattle.cg_run.specs.declared.refusal.Trouble.TheVariants as troubles
use Rattle.cg_run.specs.declared.role.Role.{Role}
use Rattle.cg_run.specs.declared.status.Status.{Status}
use Rattle.cg_run.specs.declared.status.Status.TheVariants as statuses

-- how a run ends because of the content of a file
abbrev pub owner_status : Owner → Status
owner_status owners.Netlist = statuses.Netlist
owner_status owners.Library = statuses.Library
owner_status owners.Stimulus = statuses.Stimulus

-- the words that name a limit
abbrev pub limit_text : Limit → List ℕ
limit_text limits.File = codes "file"
limit_text limits.Nets = codes "nets"
limit_text limits.Registers = codes "registers"
limit_text limits.CoverInputs = codes "cover inputs"
limit_text limits.LibraryCells = codes "library cells"
limit_text limits.Nesting = codes "nesting"
limit_text limits.ClaimNodes = codes "claim nodes"
limit_text limits.Rows = codes "rows"
limit_text limits.Variables = codes "variables"

-- how a run ends that is refused so
abbrev pub status_of : Refusal → Status
status_of (refusals.Content content) = owner_status content.owner
status_of (refusals.Limit limit) = statuses.Limit
status_of (refusals.Load role) = statuses.ReadFault
status_of (refusals.Store role) = statuses.WriteFault
status_of refusals.Say = statuses.WriteFault
status_of (refusals.NoMemory step) = statuses.NoMemory

-- what the complaint says
abbrev pub reason_text : (Role → List ℕ) → Refusal → List ℕ
reason_text names (refusals.Content content) = content.text
reason_text names (refusals.Limit limit) = codes "limit " ++ limit_text limit
reason_text names (refusals.Load role) = codes "read fault " ++ names role
reason_text names (refusals.Store role) = codes "write fault " ++ names role
reason_text names refusals.Say = codes "write fault -"
reason_text names (refusals.NoMemory step) = codes "no memory"

abbrev pub complaint_line : List ℕ → List ℕ
complaint_line reason = codes "clockgate: " ++ reason ++ 10 ∷ []

abbrev pub complaint_text : (Role → List ℕ) → Refusal → List ℕ
complaint_text names refusal = complaint_line (reason_text names refusal)

-- the failed calls that it comes from
abbrev pub faults_of : (Role → List ℕ) → Refusal → List Fault
faults_of names (refusals.Content content) = []
faults_of names (refusals.Limit limit) = []
faults_of names (refusals.Load role) = one_fault calls.Load (names role)
faults_of names (refusals.Store role) = one_fault calls.Store (names role)
faults_of names refusals.Say = one_fault calls.Say []
faults_of names (refusals.NoMemory step) = []

abbrev pub outcome_faults : {T : Type 0} → (Role → List ℕ) → Result T Refusal → List Fault
outcome_faults names (Ok x) = []
outcome_faults names (Err refusal) = faults_of names refusal

-- a trouble of reading, as the refusal that it is
abbrev pub refusal_of : Trouble → Refusal
refusal_of (troubles.Content content) = refusals.Content content
refusal_of (troubles.Limit limit) = refusals.Limit limit
refusal_of troubles.NoMemory = refusals.NoMemory steps.Reading

-- how far the run had come
abbrev pub step_of : Refusal → Step
step_of (refusals.Content content) = steps.Reading
step_of (refusals.Limit limit) = steps.Reading
step_of (refusals.Load role) = steps.Reading
step_of (refusals.Store role) = steps.Storing role
step_of refusals.Say = steps.Saying
step_of (refusals.NoMemory step) = step

-- what the shelf answered to the write that was refused: it failed, or found no memory
abbrev pub write_fault : Refusal → StoreFault
write_fault (refusals.NoMemory step) = stores.NoMemory
write_fault refusal = stores.Failed

abbrev pub write_answer : {T : Type 0} → Result T Refusal → Result (Unit {0}) StoreFault
write_answer (Ok x) = Ok tt
write_answer (Err refusal) = Err (write_fault refusal)

-- the refusal that is complained of: where there is no memory for its line, that of want of memory
abbrev pub shown_as : Bool → Refusal → Refusal
shown_as has_line refusal = if has_line then refusal else refusals.NoMemory (step_of refusal)

-- The line of a refusal is there, since room for it was made before the first load, but for that of a content, which may be
-- longer: there may be no memory for it.
abbrev pub HasLine : Refusal → Bool → Type 0
HasLine (refusals.Content content) has_line = ⊤
HasLine refusal has_line = IsTrue has_line

-- so much room is enough for the line of a refusal that is none of a content
abbrev pub HasRoom : (Role → List ℕ) → ℕ → Refusal → Type 0
HasRoom names room (refusals.Content content) = ⊤
HasRoom names room refusal = length (complaint_text names refusal) ≤ room
