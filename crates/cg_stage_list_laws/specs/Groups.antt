-- Registers by their keys: those with one key form a group, and the groups stand in the order of their first register.
use Rattle.std.specs.Prelude.{ℕ, Bool, false, if◌then◌else◌, List, nat_eq, Option, Some, None, option_and_then}
use Rattle.std.specs.List.{filter, filter_map, find}
use Rattle.std.specs.Option.{option_map_or}

-- a key, and the registers that have it
pub record Group (K : Type 0) : Type 0 where
  pub key : K
  pub regs : List ℕ

-- whether a register has a key
abbrev pub has_key : {K : Type 0} → (K → K → Bool) → (ℕ → Option K) → K → ℕ → Bool
has_key same key k r = option_map_or (same k) (key r) false

-- whether a register is the one that was found first
abbrev pub is_first : Option ℕ → ℕ → Bool
is_first None r = false
is_first (Some first) r = nat_eq first r

-- the group of a key at the first register that has it
abbrev pub group_of : {K : Type 0} → (K → K → Bool) → (ℕ → Option K) → List ℕ → ℕ → K → Option (Group K)
group_of same key regs r k =
    if is_first (find (has_key same key k) regs) r then Some (record { key = k; regs = filter (has_key same key k) regs }) else None

abbrev pub groups : {K : Type 0} → (K → K → Bool) → (ℕ → Option K) → List ℕ → List (Group K)
groups same key regs = filter_map (λ r. option_and_then (group_of same key regs r) (key r)) regs
