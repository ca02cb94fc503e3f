-- The calls of a shelf, each with what it answered.
use Rattle.std.specs.Prelude.{◌≡◌, ◌⊎◌, ℕ, ◌==◌, cond, List, [], ◌∷◌, ◌++◌, Result, Ok, Err, refl}
use Rattle.std.specs.Coded.{Coded, code_by, coded_list, coded_result, coded_ℕ, coded×, coded⊎}
use Rattle.std.proofs.Common.{inl, inr}
use base.Stored.{coded_unit}
use Rattle.cg_shelf.specs.declared.faults.LoadFault.{LoadFault}
use Rattle.cg_shelf.specs.declared.faults.LoadFault.TheVariants as loads
use Rattle.cg_shelf.specs.declared.faults.StoreFault.{StoreFault}
use Rattle.cg_shelf.specs.declared.faults.StoreFault.TheVariants as stores

-- A call that was made, with what it was asked for and what it answered: a load of a file by its name, of no more bytes than a
-- limit, with the bytes that it gave or why it gave none; a store of bytes under a name; bytes that were to be said, or to be
-- complained.
pub data Asked : Type 0 where
  Loaded : List ℕ → ℕ → Result (List ℕ) LoadFault → Asked
  Stored : List ℕ → List ℕ → Result (Unit {0}) StoreFault → Asked
  Said : List ℕ → Result (Unit {0}) StoreFault → Asked
  Complained : List ℕ → Result (Unit {0}) StoreFault → Asked

-- the calls of a shelf, in order
abbrev pub Calls : Type 0
Calls = List Asked

-- That two calls that are coded alike are the same, which a value that only proofs see has to show.
abbrev fault_number : LoadFault → ℕ
fault_number loads.Failed = 0
fault_number loads.TooLong = 1
fault_number loads.NoMemory = 2

abbrev fault_at : ℕ → LoadFault
fault_at n = cond (n == 0) loads.Failed (cond (n == 1) loads.TooLong loads.NoMemory)

pub fault_back : (fault : LoadFault) → fault_at (fault_number fault) ≡ fault
fault_back loads.Failed = refl
fault_back loads.TooLong = refl
fault_back loads.NoMemory = refl

abbrev pub load_fault_code : Coded LoadFault
load_fault_code = code_by ℕ coded_ℕ fault_number fault_at fault_back

abbrev refusal_number : StoreFault → ℕ
refusal_number stores.Failed = 0
refusal_number stores.NoMemory = 1

abbrev refusal_at : ℕ → StoreFault
refusal_at n = cond (n == 0) stores.Failed stores.NoMemory

pub refusal_back : (fault : StoreFault) → refusal_at (refusal_number fault) ≡ fault
refusal_back stores.Failed = refl
refusal_back stores.NoMemory = refl

abbrev pub store_fault_code : Coded StoreFault
store_fault_code = code_by ℕ coded_ℕ refusal_number refusal_at refusal_back

abbrev Load : Type 0
Load = List ℕ × (ℕ × Result (List ℕ) LoadFault)

abbrev Write : Type 0
Write = List ℕ × Result (Unit {0}) StoreFault

abbrev parts_of : Asked → (Load ⊎ (List ℕ × Write)) ⊎ (Write ⊎ Write)
parts_of (Loaded name limit gave) = inl (inl (name, (limit, gave)))
parts_of (Stored name bytes answer) = inl (inr (name, (bytes, answer)))
parts_of (Said bytes answer) = inr (inl (bytes, answer))
parts_of (Complained bytes answer) = inr (inr (bytes, answer))

abbrev from_parts : (Load ⊎ (List ℕ × Write)) ⊎ (Write ⊎ Write) → Asked
from_parts (inl (inl load)) = Loaded load.0 load.1.0 load.1.1
from_parts (inl (inr store)) = Stored store.0 store.1.0 store.1.1
from_parts (inr (inl say)) = Said say.0 say.1
from_parts (inr (inr complaint)) = Complained complaint.0 complaint.1

pub parts_back : (call : Asked) → from_parts (parts_of call) ≡ call
parts_back (Loaded name limit gave) = refl
parts_back (Stored name bytes answer) = refl
parts_back (Said bytes answer) = refl
parts_back (Complained bytes answer) = refl

abbrev bytes_code : Coded (List ℕ)
bytes_code = coded_list coded_ℕ

abbrev write_code : Coded Write
write_code = coded× bytes_code (coded_result coded_unit store_fault_code)

abbrev pub calls_code : Coded Calls
calls_code =
    coded_list
    (code_by ((Load ⊎ (List ℕ × Write)) ⊎ (Write ⊎ Write))
    (coded⊎ (coded⊎ (coded× bytes_code (coded× coded_ℕ (coded_result bytes_code load_fault_code))) (coded× bytes_code write_code)) (coded⊎ write_code write_code))
    parts_of from_parts parts_back)
