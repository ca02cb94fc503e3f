-- What a run did: one relation, whatever its mode loads, makes of it, stores and says.
use Rattle.std.specs.Prelude.{◌≡◌, ℕ, Bool, IsTrue, List, [], ◌∷◌, ◌++◌, Option, Result, Ok, Err, IfSome, IsSomeAnd}
use Rattle.cg_shelf.specs.World.{World}
use Rattle.cg_shelf.specs.Asked.{Calls, Complained}
use Rattle.cg_shelf.specs.Shelf.{Appends, call_faults}
use Rattle.cg_shelf.specs.declared.faults.Call.TheVariants.{Complain}
use Rattle.cg_shelf.specs.declared.faults.StoreFault.{StoreFault}
use Rattle.cg_shelf.specs.declared.faults.StoreFault.TheVariants as stores
use Rattle.cg_run.specs.declared.writing.Finish.{Finish}
use Rattle.cg_run.specs.declared.writing.Output.{Output}
use Rattle.cg_run.specs.declared.refusal.Refusal.{Refusal}
use Rattle.cg_run.specs.declared.refusal.Step.{Step}
use Rattle.cg_run.specs.declared.refusal.Step.TheVariants as steps
use Rattle.cg_run.specs.declared.role.Role.{Role}
use Rattle.cg_run.specs.declared.status.Status.{Status}
use Rattle.cg_run.specs.declared.status.Status.TheVariants as statuses
use Rattle.cg_run.specs.ByStatus.{FailsBy, StandsBy}
use Rattle.cg_run.specs.Refusal.{HasLine, complaint_text, faults_of, outcome_faults, shown_as, status_of, step_of, write_fault}
use Rattle.cg_run.specs.Status.{finish_status}
use Rattle.cg_run.specs.Verdict.{ComesTo, EndAtFaults, FileLoaded, Given, Halts, Task}
use Rattle.cg_run.specs.Reads.{Agrees, Untouched, load_calls}
use Rattle.cg_run.specs.Writes.{CallsAt, HasStep, LeavesAt, WriteCalls, Writes, Written}

-- Why a run was refused, where its files are refused for this, or it began to put this output out: before the first write,
-- for that very refusal, or for want of memory; at a write, which the output has.
abbrev pub CauseAt : Option Refusal → Option Output → Refusal → Step → Type 0
CauseAt refused out refusal steps.Reading = Halts refused refusal
CauseAt refused out refusal (steps.Storing role) = IsSomeAnd out (λ output. HasStep output (steps.Storing role))
CauseAt refused out refusal steps.Saying = IsSomeAnd out (λ output. HasStep output steps.Saying)

abbrev pub Cause : Option Refusal → Option Output → Result Finish Refusal → Type 0
Cause refused out (Ok finish) = IsSomeAnd out (λ output. output.finish ≡ finish)
Cause refused out (Err refusal) = CauseAt refused out refusal (step_of refusal)

-- what stands: nothing new, a part of the writes, or all
abbrev pub StandsAt : (Role → List ℕ) → Option Output → Step → World → World → Type 0
StandsAt names out steps.Reading before after = Untouched before after
StandsAt names out (steps.Storing role) before after =
    IsSomeAnd out (λ output. LeavesAt names output (steps.Storing role) before after)
StandsAt names out steps.Saying before after = IsSomeAnd out (λ output. LeavesAt names output steps.Saying before after)

abbrev pub Leaves : (Role → List ℕ) → Option Output → World → World → Result Finish Refusal → Type 0
Leaves names out before after (Ok finish) = IsSomeAnd out (λ output. Written names output before after)
Leaves names out before after (Err refusal) = StandsAt names out (step_of refusal) before after

-- the calls of the writes: none before there is an output, and then those of its texts in order
abbrev pub MadeAt : (Role → List ℕ) → Option Output → Step → StoreFault → Calls → Type 0
MadeAt names out steps.Reading fault made = made ≡ []
MadeAt names out (steps.Storing role) fault made = IsSomeAnd out (λ output. CallsAt names output (steps.Storing role) fault made)
MadeAt names out steps.Saying fault made = IsSomeAnd out (λ output. CallsAt names output steps.Saying fault made)

abbrev pub Made : (Role → List ℕ) → Option Output → Result Finish Refusal → Calls → Type 0
Made names out (Ok finish) made = IsSomeAnd out (λ output. WriteCalls names output (Ok finish) made)
Made names out (Err refusal) made = MadeAt names out (step_of refusal) (write_fault refusal) made

-- a run's status once its line was complained: want of memory while complaining is what it ends with
abbrev pub status_after : {T : Type 0} → Status → Result T StoreFault → Status
status_after status (Ok x) = status
status_after status (Err stores.Failed) = status
status_after status (Err stores.NoMemory) = statuses.NoMemory

-- one line is complained, by one call, of which this is the answer
pub record Complains (line : List ℕ) (status : Status) (before after : World) (result : Status) : Type 0 where
  pub answer : Result (Unit {0}) StoreFault
  pub ends : result ≡ status_after status answer
  pub complained : IsTrue before.tells → Appends before.complained after.complained line answer
  pub same_held : IsTrue before.tells → after.held ≡ before.held
  pub same_said : IsTrue before.tells → after.said ≡ before.said
  pub tells : after.tells ≡ before.tells
  pub listed : after.calls ≡ before.calls ++ Complained line answer ∷ []
  pub failed : after.faults ≡ before.faults ++ call_faults Complain [] answer

-- A refused run ends with its line of complaint. Where there is no memory for the line of a content, it ends with that of want of
-- memory.
pub record Refuses (names : Role → List ℕ) (refusal : Refusal) (before after : World) (result : Status) : Type 0 where
  pub has_line : Bool
  pub is_there : HasLine refusal has_line
  pub complains : Complains (complaint_text names (shown_as has_line refusal)) (status_of (shown_as has_line refusal)) before after result

-- how a run closes after its outcome
abbrev pub Closes : (Role → List ℕ) → Result Finish Refusal → World → World → Status → Type 0
Closes names (Ok finish) before after result = (result ≡ finish_status finish) × (after ≡ before)
Closes names (Err refusal) before after result = Refuses names refusal before after result

-- How a refused run ended, by the whole of it: it made this one call to complain, of which `answer` is what the shelf answered.
pub record EndsRefused (names : Role → List ℕ) (refusal : Refusal) (complaint : Calls) (before after : World)
    (result : Status) : Type 0 where
  pub has_line : Bool
  pub is_there : HasLine refusal has_line
  pub answer : Result (Unit {0}) StoreFault
  pub made : complaint ≡ Complained (complaint_text names (shown_as has_line refusal)) answer ∷ []
  pub status : result ≡ status_after (status_of (shown_as has_line refusal)) answer
  pub complained : IsTrue before.tells →
      Appends before.complained after.complained (complaint_text names (shown_as has_line refusal)) answer
  pub failed : after.faults ≡ before.faults ++ faults_of names refusal ++ call_faults Complain [] answer

-- one that finished complained of nothing, and no call of it failed
pub record EndsFinished (finish : Finish) (complaint : Calls) (before after : World) (result : Status) : Type 0 where
  pub made : complaint ≡ []
  pub status : result ≡ finish_status finish
  pub complained : IsTrue before.tells → after.complained ≡ before.complained
  pub failed : after.faults ≡ before.faults

abbrev pub Ends : (Role → List ℕ) → Result Finish Refusal → Calls → World → World → Status → Type 0
Ends names (Ok finish) complaint before after result = EndsFinished finish complaint before after result
Ends names (Err refusal) complaint before after result = EndsRefused names refusal complaint before after result

-- All calls of a run, in order, each with what it answered, on every shelf: the loads of the files that were asked for, the
-- writes, and the complaint.
pub record Called (names : Role → List ℕ) (asks : List FileLoaded) (out : Option Output) (outcome : Result Finish Refusal)
    (complaint : Calls) (before after : World) : Type 0 where
  pub writes : Calls
  pub made : Made names out outcome writes
  pub listed : after.calls ≡ before.calls ++ load_calls names asks ++ writes ++ complaint

-- What a run did. `given` is what its loads gave, `out` is the one output that it put out or began to, `outcome` is how far it
-- came, and `complaint` is its call to complain, if it made one; each part is of these.
pub record Runs (task : Task) (names : Role → List ℕ) (before after : World) (result : Status) : Type 0 where
  pub given : Given
  pub out : Option Output
  pub outcome : Result Finish Refusal
  pub complaint : Calls
  -- what the loads gave agrees with what was held
  pub told : IsTrue before.tells → (role : Role) → Agrees (before.held (names role)) (given role)
  -- why: nothing was refused and the files come to the output, or the files are refused for this; a load that gave no bytes is it
  pub comes : IfSome out (ComesTo task given)
  pub cause : Cause (task.refused given) out outcome
  pub unloaded : EndAtFaults (task.asks given) outcome
  -- what was called, how it ended, and what stands
  pub calls : Called names (task.asks given) out outcome complaint before after
  pub ends : Ends names outcome complaint before after result
  pub leaves : IsTrue before.tells → Leaves names out before after outcome
  pub tells : after.tells ≡ before.tells
  -- what follows, by the status: what stands, and which calls failed besides that to complain
  pub stands : IsTrue before.tells → StandsBy names out before after result
  pub fails : FailsBy names task.loads out (outcome_faults names outcome) result

-- how a run finished whose output was written, or why it was not
abbrev pub finished_as : {T : Type 0} → Output → Result T Refusal → Result Finish Refusal
finished_as output (Ok x) = Ok output.finish
finished_as output (Err refusal) = Err refusal

-- an output was written, as far as its writes came
pub record WritesOut (names : Role → List ℕ) (output : Output) (before after : World)
    (outcome : Result Finish Refusal) : Type 0 where
  pub answer : Result (Unit {0}) Refusal
  pub writes : Writes names output before after answer
  pub is : outcome ≡ finished_as output answer

-- What reading came to, up to the complaint: an output is written, and of a refusal nothing is written. Only the shelf asks for
-- memory.
abbrev pub Tries : (Role → List ℕ) → Result Output Refusal → World → World → Result Finish Refusal → Type 0
Tries names (Ok output) before after outcome = WritesOut names output before after outcome
Tries names (Err refusal) before after outcome = (outcome ≡ Err refusal) × (after ≡ before)

-- The writing half of a run: what reading came to was put out, and then the run closed. `between` is the shelf before the line
-- of complaint.
pub record PutsOut (names : Role → List ℕ) (found : Result Output Refusal) (before after : World) (result : Status) : Type 0 where
  pub outcome : Result Finish Refusal
  pub between : World
  pub tries : Tries names found before between outcome
  pub closes : Closes names outcome between after result
