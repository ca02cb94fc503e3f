-- What a shelf in memory is seen as.
use Rattle.std.specs.Prelude.{◌≡◌, ◌⊎◌, ℕ, Bool, true, false, nat_eq, List, [], ◌∷◌, ◌++◌, Option, Some, Result, Ok, Err, ⊤}
use Rattle.std.specs.Option.{option_map}
use Rattle.std.specs.List.{list_any}
use Rattle.std.specs.BTreeMap.{get_by_text}
use Rattle.cg_shelf.specs.World.{World}
use Rattle.cg_shelf.specs.declared.faults.Call.{Call}
use Rattle.cg_shelf.specs.declared.faults.Call.TheVariants.{Load}
use Rattle.cg_shelf.specs.declared.faults.CallMade.{CallMade}
use Rattle.cg_shelf.specs.declared.faults.LoadFault.{LoadFault}
use Rattle.cg_shelf.specs.declared.faults.LoadFault.TheVariants as loads
use Rattle.cg_shelf.specs.declared.faults.StoreFault.{StoreFault}
use Rattle.cg_shelf.specs.declared.faults.StoreFault.TheVariants as stores
use Rattle.cg_shelf.specs.declared.mem_shelf.MemShelf.{MemShelf}

-- The bytes that are held under a name.
abbrev pub held_by : MemShelf → List ℕ → Option (List ℕ)
held_by shelf name = option_map (λ bytes. bytes.items) (get_by_text shelf.files name)

-- A shelf in memory tells everything.
abbrev pub world_of : MemShelf → World
world_of shelf = record {
  tells = true;
  held = held_by shelf;
  said = shelf.said.items;
  complained = shelf.complained.items;
  calls = shelf.calls.listed;
  faults = shelf.faults.items;
}

-- The calls that it lists for its user, by kind and name. One that found no memory for its entry is not there.
abbrev pub made_by : MemShelf → List CallMade
made_by shelf = shelf.made.items

abbrev pub one_call : Call → List ℕ → List CallMade
one_call call name = record { call = call; name = name } ∷ []

abbrev pub ListsLoad : {T : Type 0} → List ℕ → List CallMade → List CallMade → Result T LoadFault → Type 0
ListsLoad name before after (Ok x) = after ≡ before ++ one_call Load name
ListsLoad name before after (Err loads.Failed) = after ≡ before ++ one_call Load name
ListsLoad name before after (Err loads.TooLong) = after ≡ before ++ one_call Load name
ListsLoad name before after (Err loads.NoMemory) = (after ≡ before ++ one_call Load name) ⊎ (after ≡ before)

abbrev pub Lists : {T : Type 0} → Call → List ℕ → List CallMade → List CallMade → Result T StoreFault → Type 0
Lists call name before after (Ok x) = after ≡ before ++ one_call call name
Lists call name before after (Err stores.Failed) = after ≡ before ++ one_call call name
Lists call name before after (Err stores.NoMemory) = (after ≡ before ++ one_call call name) ⊎ (after ≡ before)

-- How many calls were made, and the numbers of the calls that are to fail.
abbrev pub count_of : MemShelf → ℕ
count_of shelf = shelf.count

abbrev pub failing_of : MemShelf → List ℕ
failing_of shelf = shelf.failing.items

-- The number of the next call is among those that are to fail.
abbrev pub next_fails : MemShelf → Bool
next_fails shelf = list_any (λ number. nat_eq number (count_of shelf)) (failing_of shelf)

-- A load answers Failed exactly where the test passes; want of memory may come at any time.
abbrev pub LoadFailsWhere : {T : Type 0} → Bool → Result T LoadFault → Type 0
LoadFailsWhere fails (Ok x) = fails ≡ false
LoadFailsWhere fails (Err loads.Failed) = fails ≡ true
LoadFailsWhere fails (Err loads.TooLong) = fails ≡ false
LoadFailsWhere fails (Err loads.NoMemory) = ⊤

-- The same of a call that puts bytes out.
abbrev pub FailsWhere : {T : Type 0} → Bool → Result T StoreFault → Type 0
FailsWhere fails (Ok x) = fails ≡ false
FailsWhere fails (Err stores.Failed) = fails ≡ true
FailsWhere fails (Err stores.NoMemory) = ⊤
