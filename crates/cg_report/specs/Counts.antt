-- What is counted over moments.
use Rattle.std.specs.Prelude.{ℕ, ◌+◌, ◌-◌, ◌^◌, min, Bool, true, false, List, [], ◌∷◌, Option, None, Some, if◌then◌else◌}
use Rattle.std.specs.List.{count_by, sum_by}
use Rattle.cg_report.specs.Shown.{Shown}

-- a number that stops at 2 ^ 64 - 1
abbrev pub capped : ℕ → ℕ
capped n = min n (2 ^ 64 - 1)

-- the rises of all registers
abbrev pub rises : List Shown → ℕ
rises moments = sum_by (λ now. count_by (λ rose. rose) now.rose) moments

-- whether two bits differ, as a number
abbrev pub differs : Bool → Bool → ℕ
differs true now = if now then 0 else 1
differs false now = if now then 1 else 0

-- at how many places two lists of bits differ
abbrev pub differing : List Bool → List Bool → ℕ
differing [] now = 0
differing (b ∷ before) [] = 0
differing (b ∷ before) (n ∷ now) = differs b n + differing before now

-- how many nets differ from the moment before, if there is one
abbrev pub toggled : Option (List Bool) → List Bool → ℕ
toggled None now = 0
toggled (Some before) now = differing before now

-- the pairs of a net and two neighbouring moments at which it differs, behind these bits
abbrev pub toggles_from : Option (List Bool) → List Shown → ℕ
toggles_from before [] = 0
toggles_from before (now ∷ later) = toggled before now.nets + toggles_from (Some now.nets) later

abbrev pub toggles : List Shown → ℕ
toggles moments = toggles_from None moments

-- the bits of the nets at the last moment
abbrev pub last_from : Option (List Bool) → List Shown → Option (List Bool)
last_from before [] = before
last_from before (now ∷ later) = last_from (Some now.nets) later

abbrev pub last_nets : List Shown → Option (List Bool)
last_nets moments = last_from None moments
