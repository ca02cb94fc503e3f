-- What the four calls of a shelf answer and change.
use Rattle.std.specs.Prelude.{◌≡◌, ◌≢◌, ℕ, ◌<◌, List, [], ◌∷◌, ◌++◌, length, Option, Some, Result, Ok, Err, IsSomeAnd, ⊤}
use Rattle.cg_shelf.specs.declared.faults.Call.{Call}
use Rattle.cg_shelf.specs.declared.faults.Call.TheVariants.{Load}
use Rattle.cg_shelf.specs.declared.faults.Fault.{Fault}
use Rattle.cg_shelf.specs.declared.faults.LoadFault.{LoadFault}
use Rattle.cg_shelf.specs.declared.faults.LoadFault.TheVariants as loads
use Rattle.cg_shelf.specs.declared.faults.StoreFault.{StoreFault}
use Rattle.cg_shelf.specs.declared.faults.StoreFault.TheVariants as stores

-- The list of one failed call.
abbrev pub one_fault : Call → List ℕ → List Fault
one_fault call name = record { call = call; name = name } ∷ []

-- The failed calls that a load adds: itself where it answers Failed, and otherwise none.
abbrev pub load_faults : {T : Type 0} → List ℕ → Result T LoadFault → List Fault
load_faults name (Ok x) = []
load_faults name (Err loads.Failed) = one_fault Load name
load_faults name (Err loads.TooLong) = []
load_faults name (Err loads.NoMemory) = []

-- The failed calls that a store, a say or a complain adds: itself where it answers Failed, and otherwise none.
abbrev pub call_faults : {T : Type 0} → Call → List ℕ → Result T StoreFault → List Fault
call_faults call name (Ok x) = []
call_faults call name (Err stores.Failed) = one_fault call name
call_faults call name (Err stores.NoMemory) = []

-- What a load answers of the bytes that are held: Ok gives them, and TooLong says that they are more than
-- the limit. A call that failed, or found no memory, says nothing of them.
abbrev pub LoadAnswers : {T : Type 0} → Option (List ℕ) → ℕ → List ℕ → Result T LoadFault → Type 0
LoadAnswers held limit into (Ok x) = held ≡ Some into
LoadAnswers held limit into (Err loads.Failed) = ⊤
LoadAnswers held limit into (Err loads.TooLong) = IsSomeAnd held (λ bytes. limit < length bytes)
LoadAnswers held limit into (Err loads.NoMemory) = ⊤

-- A text that grew by a front part of the bytes.
pub record AppendsFront (old new bytes : List ℕ) : Type 0 where
  pub front : List ℕ
  pub rest : List ℕ
  pub parts : bytes ≡ front ++ rest
  pub joined : new ≡ old ++ front

-- What a say or a complain adds to a text: all of the bytes where it answers Ok, and a front part of them
-- where it is refused.
abbrev pub Appends : {T : Type 0} → List ℕ → List ℕ → List ℕ → Result T StoreFault → Type 0
Appends old new bytes (Ok x) = new ≡ old ++ bytes
Appends old new bytes (Err e) = AppendsFront old new bytes

-- Every name but one holds what it held.
abbrev pub SameBut : List ℕ → (List ℕ → Option (List ℕ)) → (List ℕ → Option (List ℕ)) → Type 0
SameBut stored old new = (name : List ℕ) → name ≢ stored → new name ≡ old name

-- What a load gave: the bytes, or why it gave none.
abbrev pub load_given : {T : Type 0} → List ℕ → Result T LoadFault → Result (List ℕ) LoadFault
load_given into (Ok x) = Ok into
load_given into (Err fault) = Err fault
