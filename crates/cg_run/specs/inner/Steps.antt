-- The steps of the two halves of a run: the load of one file, one store, all stores, the say; and a run up to its complaint.
use Rattle.std.specs.Prelude.{◌≡◌, ℕ, IsTrue, List, [], ◌∷◌, ◌++◌, Option, Some, Result, Ok, Err, IfErr, IfSome, ⊤}
use Rattle.cg_limit.specs.declared.TheConstants.{MOST_FILE_BYTES}
use Rattle.cg_shelf.specs.World.{World}
use Rattle.cg_shelf.specs.Asked.{Calls}
use Rattle.cg_shelf.specs.Asked as shelf
use Rattle.cg_shelf.specs.Shelf.{AppendsFront, SameBut}
use Rattle.cg_shelf.specs.declared.faults.LoadFault.{LoadFault}
use Rattle.cg_shelf.specs.declared.faults.StoreFault.{StoreFault}
use Rattle.cg_run.specs.declared.writing.Finish.{Finish}
use Rattle.cg_run.specs.declared.writing.Output.{Output}
use Rattle.cg_run.specs.declared.writing.Text.{Text}
use Rattle.cg_run.specs.declared.refusal.Refusal.{Refusal}
use Rattle.cg_run.specs.declared.refusal.Step.{Step}
use Rattle.cg_run.specs.declared.refusal.Step.TheVariants as steps
use Rattle.cg_run.specs.declared.role.Role.{Role}
use Rattle.cg_run.specs.Reads.{Agrees, Untouched, load_calls}
use Rattle.cg_run.specs.Refusal.{outcome_faults, step_of, write_answer, write_fault}
use Rattle.cg_run.specs.Run.{Cause, Leaves, Made}
use Rattle.cg_run.specs.Verdict.{ComesTo, EndAtFaults, Given, Task, brought}
use Rattle.cg_run.specs.Writes.{OpenAt, StoresUpTo, is_stored, puts, store_calls}

-- The load of one file: it gave this.
pub record Loads (names : Role → List ℕ) (role : Role) (before after : World) (answer : Result (List ℕ) Refusal) : Type 0 where
  pub gave : Result (List ℕ) LoadFault
  pub told : IsTrue before.tells → Agrees (before.held (names role)) (Some gave)
  pub is : answer ≡ brought role (Some gave)
  pub listed : after.calls ≡ before.calls ++ shelf.Loaded (names role) MOST_FILE_BYTES gave ∷ []
  pub untouched : IsTrue before.tells → Untouched before after
  pub quiet : IsTrue before.tells → after.complained ≡ before.complained
  pub tells : after.tells ≡ before.tells
  pub failed : after.faults ≡ before.faults ++ outcome_faults names answer

-- the bytes stand there where the store was not refused, and what was said grew by the text or by a front part of it
abbrev pub Holds : {T : Type 0} → Option (List ℕ) → List ℕ → Result T Refusal → Type 0
Holds held bytes (Ok x) = held ≡ Some bytes
Holds held bytes (Err refusal) = ⊤

abbrev pub SaidBy : {T : Type 0} → List ℕ → List ℕ → List ℕ → Result T Refusal → Type 0
SaidBy text before after (Ok x) = after ≡ before ++ text
SaidBy text before after (Err refusal) = AppendsFront before after text

-- one store
pub record StoresOne {T : Type 0} (names : Role → List ℕ) (text : Text) (before after : World)
    (answer : Result T Refusal) : Type 0 where
  pub refused : IfErr answer (λ refusal. step_of refusal ≡ steps.Storing text.role)
  pub listed : after.calls ≡ before.calls ++ shelf.Stored (names text.role) text.bytes (write_answer answer) ∷ []
  pub stored : IsTrue before.tells → Holds (after.held (names text.role)) text.bytes answer
  pub others : IsTrue before.tells → SameBut (names text.role) before.held after.held
  pub said : IsTrue before.tells → after.said ≡ before.said
  pub complained : IsTrue before.tells → after.complained ≡ before.complained
  pub tells : after.tells ≡ before.tells
  pub failed : after.faults ≡ before.faults ++ outcome_faults names answer

-- all stores
pub record StoredAll (names : Role → List ℕ) (texts : List Text) (before after : World) : Type 0 where
  pub held : (name : List ℕ) → after.held name ≡ puts names texts before.held name
  pub said : after.said ≡ before.said

abbrev pub OpenStep : (Role → List ℕ) → List Text → Step → World → World → Type 0
OpenStep names texts steps.Reading before after = ⊥
OpenStep names texts (steps.Storing role) before after = OpenAt names texts role before after
OpenStep names texts steps.Saying before after = ⊥

abbrev pub StoresStep : List Text → Step → Type 0
StoresStep texts steps.Reading = ⊥
StoresStep texts (steps.Storing role) = IsTrue (is_stored role texts)
StoresStep texts steps.Saying = ⊥

abbrev pub StoreLeaves : {T : Type 0} → (Role → List ℕ) → List Text → World → World → Result T Refusal → Type 0
StoreLeaves names texts before after (Ok x) = StoredAll names texts before after
StoreLeaves names texts before after (Err refusal) = OpenStep names texts (step_of refusal) before after

abbrev pub StoresAt : (Role → List ℕ) → List Text → Step → StoreFault → Calls → Type 0
StoresAt names texts steps.Reading fault made = ⊥
StoresAt names texts (steps.Storing role) fault made = StoresUpTo names texts role fault made
StoresAt names texts steps.Saying fault made = ⊥

abbrev pub StoreCalls : {T : Type 0} → (Role → List ℕ) → List Text → Result T Refusal → Calls → Type 0
StoreCalls names texts (Ok x) made = made ≡ store_calls names texts
StoreCalls names texts (Err refusal) made = StoresAt names texts (step_of refusal) (write_fault refusal) made

pub record StoresAll {T : Type 0} (names : Role → List ℕ) (texts : List Text) (before after : World)
    (answer : Result T Refusal) : Type 0 where
  pub refused : IfErr answer (λ refusal. StoresStep texts (step_of refusal))
  pub leaves : IsTrue before.tells → StoreLeaves names texts before after answer
  pub made : Calls
  pub by : StoreCalls names texts answer made
  pub listed : after.calls ≡ before.calls ++ made
  pub quiet : IsTrue before.tells → after.complained ≡ before.complained
  pub tells : after.tells ≡ before.tells
  pub failed : after.faults ≡ before.faults ++ outcome_faults names answer

-- the say
pub record SaysAll {T : Type 0} (names : Role → List ℕ) (text : List ℕ) (before after : World)
    (answer : Result T Refusal) : Type 0 where
  pub refused : IfErr answer (λ refusal. step_of refusal ≡ steps.Saying)
  pub listed : after.calls ≡ before.calls ++ shelf.Said text (write_answer answer) ∷ []
  pub said : IsTrue before.tells → SaidBy text before.said after.said answer
  pub held : IsTrue before.tells → after.held ≡ before.held
  pub complained : IsTrue before.tells → after.complained ≡ before.complained
  pub tells : after.tells ≡ before.tells
  pub failed : after.faults ≡ before.faults ++ outcome_faults names answer

-- A run up to its complaint: its calls are the loads of the files that were asked for, in order, and then the writes.
pub record Attempts (task : Task) (names : Role → List ℕ) (before after : World) (outcome : Result Finish Refusal) : Type 0 where
  pub given : Given
  pub told : IsTrue before.tells → (role : Role) → Agrees (before.held (names role)) (given role)
  pub out : Option Output
  pub comes : IfSome out (ComesTo task given)
  pub cause : Cause (task.refused given) out outcome
  pub unloaded : EndAtFaults (task.asks given) outcome
  pub leaves : IsTrue before.tells → Leaves names out before after outcome
  pub writes : Calls
  pub made : Made names out outcome writes
  pub listed : after.calls ≡ before.calls ++ load_calls names (task.asks given) ++ writes
  pub quiet : IsTrue before.tells → after.complained ≡ before.complained
  pub tells : after.tells ≡ before.tells
  pub failed : after.faults ≡ before.faults ++ outcome_faults names outcome
