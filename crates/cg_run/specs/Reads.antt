-- What the reading half of a run does.
use Rattle.std.specs.Prelude.{◌≡◌, ◌≤◌, ◌<◌, ℕ, IsTrue, List, ◌++◌, length, map, Option, None, Some, Result, Ok, Err, IsSomeAnd, ⊤}
use Rattle.cg_limit.specs.declared.TheConstants.{MOST_FILE_BYTES}
use Rattle.cg_shelf.specs.World.{World}
use Rattle.cg_shelf.specs.Asked.{Calls}
use Rattle.cg_shelf.specs.Asked as shelf
use Rattle.cg_shelf.specs.declared.faults.LoadFault.TheVariants as loads
use Rattle.cg_run.specs.declared.refusal.Refusal.{Refusal}
use Rattle.cg_run.specs.declared.refusal.Trouble.{Trouble}
use Rattle.cg_run.specs.declared.role.Role.{Role}
use Rattle.cg_run.specs.Refusal.{outcome_faults}
use Rattle.cg_run.specs.Verdict.{Comes, EndAtFaults, FileLoaded, Given, Loaded, asked, reached, unstopped}

-- nothing was stored or said
pub record Untouched (before after : World) : Type 0 where
  pub held : after.held ≡ before.held
  pub said : after.said ≡ before.said

-- What a load gave agrees with what was held: bytes are those held, a file too long is too long. A load that failed or
-- found no memory says nothing of what was held.
abbrev pub Agrees : Option (List ℕ) → Loaded → Type 0
Agrees held None = ⊤
Agrees held (Some (Ok bytes)) = (held ≡ Some bytes) × (length bytes ≤ MOST_FILE_BYTES)
Agrees held (Some (Err loads.Failed)) = ⊤
Agrees held (Some (Err loads.TooLong)) = IsSomeAnd held (λ bytes. MOST_FILE_BYTES < length bytes)
Agrees held (Some (Err loads.NoMemory)) = ⊤

-- the calls that load these files, each with what it gave
abbrev pub load_calls : (Role → List ℕ) → List FileLoaded → Calls
load_calls names files = map (λ file. shelf.Loaded (names file.role) MOST_FILE_BYTES file.gave) files

-- The reading half of a run. `given` is what its loads gave: the calls that were made are these loads, each with what it gave,
-- and where the shelf tells, that agrees with what was held. One that gave no bytes is what it is refused for. Nothing is
-- stored, said or complained.
pub record Reads {M T : Type 0} (takes : M → Role → List ℕ → Result M Trouble) (stops : M → Option Trouble) (gives : M → T → Type 0)
    (names : Role → List ℕ) (state : M) (loads : List Role) (before after : World) (answer : Result T Refusal) : Type 0 where
  pub given : Given
  pub told : IsTrue before.tells → (role : Role) → Agrees (before.held (names role)) (given role)
  pub cause : Comes gives (reached takes stops state loads given) answer
  pub unloaded : EndAtFaults (asked takes state loads given) answer
  pub listed : after.calls ≡ before.calls ++ load_calls names (asked takes state loads given)
  pub untouched : IsTrue before.tells → Untouched before after
  pub quiet : IsTrue before.tells → after.complained ≡ before.complained
  pub tells : after.tells ≡ before.tells
  pub failed : after.faults ≡ before.faults ++ outcome_faults names answer

-- The files are loaded and taken, and what was found in them is what they come to: nothing stops it yet.
abbrev pub Collects : {M : Type 0} → (M → Role → List ℕ → Result M Trouble) → (Role → List ℕ) → M → List Role → World → World →
    Result M Refusal → Type 0
Collects takes names state loads before after answer =
    Reads takes unstopped (λ found end. found ≡ end) names state loads before after answer
