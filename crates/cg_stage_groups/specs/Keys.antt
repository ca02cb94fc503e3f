-- Keys of registers and groups by them, as data.
use Rattle.std.specs.Prelude.{ℕ, List, [], ◌∷◌, slice_get, Option}
use Rattle.std.specs.Option.{option_flatten, option_map}
use Rattle.cg_stage_groups.specs.declared.key.Key.{Key}
use Rattle.cg_stage_list_laws.specs.Groups.{Group}
use Rattle.cg_stage_list_laws.specs.StableList.{StableKey}

-- a key: its numbers, and the own enable
abbrev pub key_seen : Key → StableKey
key_seen key = record { enables = key.numbers.items; own = key.own }

-- the key at a register's place, where it has one
abbrev pub key_at : List (Option Key) → ℕ → Option StableKey
key_at keys r = option_map key_seen (option_flatten (slice_get keys r))

-- groups from their keys and their registers
abbrev pub groups_seen : List Key → List (List ℕ) → List (Group StableKey)
groups_seen [] regs = []
groups_seen (key ∷ keys) [] = []
groups_seen (key ∷ keys) (rs ∷ regs) = record { key = key_seen key; regs = rs } ∷ groups_seen keys regs
