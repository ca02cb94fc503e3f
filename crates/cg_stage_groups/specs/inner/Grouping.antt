-- Groups with one more register behind the others.
use Rattle.std.specs.Prelude.{ℕ, Bool, if◌then◌else◌, List, [], ◌∷◌, ◌++◌, map, Option, Some, None}
use Rattle.std.specs.List.{list_any}
use Rattle.cg_stage_list_laws.specs.Groups.{Group}

-- a group with a register behind its own, where it has this key
abbrev pub extend : {K : Type 0} → (K → K → Bool) → K → ℕ → Group K → Group K
extend same k r g = if same g.key k then record { key = g.key; regs = g.regs ++ r ∷ [] } else g

-- groups with a register in the group of its key, which stands behind the others where it is new
abbrev pub with_member : {K : Type 0} → (K → K → Bool) → List (Group K) → K → ℕ → List (Group K)
with_member {K} same gs k r =
    map (extend same k r) gs ++ (if list_any (λ (g : Group K). same g.key k) gs then [] else record { key = k; regs = r ∷ [] } ∷ [])

-- a register without a key is in no group
abbrev pub with_key : {K : Type 0} → (K → K → Bool) → List (Group K) → Option K → ℕ → List (Group K)
with_key same gs None r = gs
with_key same gs (Some k) r = with_member same gs k r
