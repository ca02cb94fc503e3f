-- What a mode comes to, found by reading alone, from what its loads gave.
use Rattle.std.specs.Prelude.{◌≡◌, ℕ, List, [], ◌∷◌, Option, None, Some, Result, Ok, Err, IfErr, IsOkAnd, ⊤}
use Rattle.std.specs.List.{AllByRecursion}
use Rattle.cg_limit.specs.declared.Limit.TheVariants as limits
use Rattle.cg_shelf.specs.declared.faults.LoadFault.{LoadFault}
use Rattle.cg_shelf.specs.declared.faults.LoadFault.TheVariants as loads
use Rattle.cg_run.specs.declared.writing.Output.{Output}
use Rattle.cg_run.specs.declared.refusal.Refusal.{Refusal}
use Rattle.cg_run.specs.declared.refusal.Refusal.TheVariants as refusals
use Rattle.cg_run.specs.declared.refusal.Step.TheVariants as steps
use Rattle.cg_run.specs.declared.refusal.Trouble.{Trouble}
use Rattle.cg_run.specs.declared.refusal.Trouble.TheVariants as troubles
use Rattle.cg_run.specs.declared.role.Role.{Role}
use Rattle.cg_run.specs.Refusal.{refusal_of}

-- what the load of one file gave, and what the loads of a run gave: nothing of a file that was not loaded
abbrev pub Loaded : Type 0
Loaded = Option (Result (List ℕ) LoadFault)

abbrev pub Given : Type 0
Given = Role → Loaded

-- what a run goes on with, or the first refusal
infixl 10 ◌>>=◌
abbrev pub ◌>>=◌ : {A B : Type 0} → Result A Refusal → (A → Result B Refusal) → Result B Refusal
◌>>=◌ (Ok found) next = next found
◌>>=◌ (Err refusal) next = Err refusal

-- what reading comes to, as part of a run
abbrev pub troubled : {T : Type 0} → Result T Trouble → Result T Refusal
troubled (Ok found) = Ok found
troubled (Err trouble) = Err (refusal_of trouble)

-- The bytes of a file, or why the run is refused without them. Only want of memory keeps a run from a load whose turn
-- has come.
abbrev pub brought : Role → Loaded → Result (List ℕ) Refusal
brought role None = Err (refusals.NoMemory steps.Reading)
brought role (Some (Ok bytes)) = Ok bytes
brought role (Some (Err loads.Failed)) = Err (refusals.Load role)
brought role (Some (Err loads.TooLong)) = Err (refusals.Limit limits.File)
brought role (Some (Err loads.NoMemory)) = Err (refusals.NoMemory steps.Reading)

-- what the mode makes of a file
abbrev pub taken : {M : Type 0} → (M → Role → List ℕ → Result M Trouble) → M → Role → Loaded → Result M Refusal
taken takes state role loaded = brought role loaded >>= λ bytes. troubled (takes state role bytes)

-- nothing stops what was found
abbrev pub unstopped : {M : Type 0} → M → Option Trouble
unstopped state = None

-- what was found, unless something stops it
abbrev pub stopped : {M : Type 0} → Option Trouble → M → Result M Refusal
stopped None state = Ok state
stopped (Some trouble) state = Err (refusal_of trouble)

-- What a mode finds: it takes the files of these roles one after another, each before the next is loaded, and the first
-- refusal ends it; at the end what was found may itself be refused.
abbrev pub reached : {M : Type 0} → (M → Role → List ℕ → Result M Trouble) → (M → Option Trouble) → M → List Role → Given →
    Result M Refusal
reached takes stops state [] given = stopped (stops state) state
reached takes stops state (role ∷ rest) given = taken takes state role (given role) >>= λ next. reached takes stops next rest given

-- a file that was loaded, and what its load gave
pub record FileLoaded : Type 0 where
  pub role : Role
  pub gave : Result (List ℕ) LoadFault

-- the files that are loaded until then, in order
abbrev pub onward : {M : Type 0} → Result M Refusal → (M → List FileLoaded) → List FileLoaded
onward (Ok next) more = more next
onward (Err refusal) more = []

abbrev pub asked_from : {M : Type 0} → Role → Loaded → Result M Refusal → (M → List FileLoaded) → List FileLoaded
asked_from role None next more = []
asked_from role (Some gave) next more = record { role = role; gave = gave } ∷ onward next more

abbrev pub asked : {M : Type 0} → (M → Role → List ℕ → Result M Trouble) → M → List Role → Given → List FileLoaded
asked takes state [] given = []
asked takes state (role ∷ rest) given =
    asked_from role (given role) (taken takes state role (given role)) (λ next. asked takes next rest given)

-- the refusal, where there is one
abbrev pub refusal_in : {T : Type 0} → Result T Refusal → Option Refusal
refusal_in (Ok found) = None
refusal_in (Err refusal) = Some refusal

-- A mode, as what a run does with it: which files it loads, in order, and as far as it comes, each with what its load gave; for
-- what they are refused, if they are; and which outputs they come to where nothing is refused. There may be more than one, of
-- which a run puts out one.
pub record Task : Type 1 where
  pub loads : List Role
  pub asks : Given → List FileLoaded
  pub refused : Given → Option Refusal
  pub comes : Given → Output → Type 0

abbrev pub task_of : {M : Type 0} → (M → Role → List ℕ → Result M Trouble) → (M → Option Trouble) → (M → Output → Type 0) → M →
    List Role → Task
task_of takes stops gives state loads = record {
  loads = loads;
  asks = asked takes state loads;
  refused = λ given. refusal_in (reached takes stops state loads given);
  comes = λ given output. IsOkAnd (reached takes stops state loads given) (λ found. gives found output);
}

-- nothing is refused, and the files come to this output
pub record ComesTo (task : Task) (given : Given) (output : Output) : Type 0 where
  pub unrefused : task.refused given ≡ None
  pub comes : task.comes given output

-- what code answers that makes no call of the shelf: what it comes to, or want of memory
abbrev pub Answers : {T : Type 0} → Result T Trouble → Result T Trouble → Type 0
Answers v (Ok found) = v ≡ Ok found
Answers v (Err (troubles.Content content)) = v ≡ Err (troubles.Content content)
Answers v (Err (troubles.Limit limit)) = v ≡ Err (troubles.Limit limit)
Answers v (Err troubles.NoMemory) = ⊤

-- what code answers once all files are taken: where nothing stops it an output that it may give, what stops it, or want of
-- memory
abbrev pub Concludes : Option Trouble → (Output → Type 0) → Result Output Trouble → Type 0
Concludes stops gives (Ok output) = (stops ≡ None) × gives output
Concludes stops gives (Err (troubles.Content content)) = stops ≡ Some (troubles.Content content)
Concludes stops gives (Err (troubles.Limit limit)) = stops ≡ Some (troubles.Limit limit)
Concludes stops gives (Err troubles.NoMemory) = ⊤

-- Why a run is refused before its first write: for what its files are refused, or memory was wanting. Want of memory has no
-- witness: a run may end so before any load, and behind any load that gave bytes.
abbrev pub Halts : Option Refusal → Refusal → Type 0
Halts refused (refusals.Content content) = refused ≡ Some (refusals.Content content)
Halts refused (refusals.Limit limit) = refused ≡ Some (refusals.Limit limit)
Halts refused (refusals.Load role) = refused ≡ Some (refusals.Load role)
Halts refused (refusals.Store role) = ⊥
Halts refused refusals.Say = ⊥
Halts refused (refusals.NoMemory step) = step ≡ steps.Reading

-- what the reading half of a run answers of what was found: what that may come to, or why it is refused; it writes nothing
abbrev pub Comes : {M T : Type 0} → (M → T → Type 0) → Result M Refusal → Result T Refusal → Type 0
Comes gives v (Ok output) = IsOkAnd v (λ found. gives found output)
Comes gives v (Err refusal) = Halts (refusal_in v) refusal

-- Each load that gave no bytes is what the answer is refused for: no memory is asked for behind it.
abbrev pub IsRefused : {T : Type 0} → Refusal → Result T Refusal → Type 0
IsRefused refusal (Ok found) = ⊥
IsRefused refusal (Err other) = other ≡ refusal

abbrev pub unloaded : Role → LoadFault → Refusal
unloaded role loads.Failed = refusals.Load role
unloaded role loads.TooLong = refusals.Limit limits.File
unloaded role loads.NoMemory = refusals.NoMemory steps.Reading

abbrev pub EndAtFaults : {T : Type 0} → List FileLoaded → Result T Refusal → Type 0
EndAtFaults files answer = AllByRecursion (λ file. IfErr file.gave (λ fault. IsRefused (unloaded file.role fault) answer)) files

-- what is made of what was found
abbrev pub found_as : {A B E : Type 0} → (A → B) → Result A E → Result B E
found_as make (Ok found) = Ok (make found)
found_as make (Err fault) = Err fault
