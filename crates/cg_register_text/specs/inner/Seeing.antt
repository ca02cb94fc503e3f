-- What was tried for each register, as it is noted trial by trial.
use Rattle.std.specs.Prelude.{◌≡◌, ◌<◌, ◌==◌, ℕ, Bool, false, if◌then◌else◌, List, [], ◌∷◌, ◌++◌, length, slice_get, slice_set, nat_lt}
use Rattle.std.specs.Prelude.{None, Some}
use Rattle.std.specs.Option.{option_map_or}
use Rattle.cg_net.specs.NetSets.{is_in}
use Rattle.cg_register_text.specs.Trials.{Trial, givers, last_failed, last_of}
use Rattle.cg_register_text.specs.declared.seen.Seen.{Seen}

-- nothing was tried
abbrev pub unseen : Seen
unseen = record { givers = []; failed = None }

-- what these trials are for a register
abbrev pub seen_of : List Trial → ℕ → Seen
seen_of trials r = record { givers = givers trials r; failed = last_failed trials r }

-- whether a number is the last of some
abbrev pub ends_with : List ℕ → ℕ → Bool
ends_with numbers number = option_map_or (λ last. last == number) (last_of numbers) false

-- a number behind some, unless it is their last
abbrev pub with_number : List ℕ → ℕ → List ℕ
with_number numbers number = if ends_with numbers number then numbers else numbers ++ number ∷ []

-- one trial more that has the register
abbrev pub noted : ℕ → Bool → Seen → Seen
noted number inserted seen =
    if inserted then record { givers = with_number seen.givers number; failed = seen.failed }
    else record { givers = seen.givers; failed = Some number }

abbrev pub noted_at : ℕ → ℕ → Bool → List Seen → List Seen
noted_at r number inserted seen =
    if nat_lt r (length seen) then slice_set seen r (noted number inserted (option_map_or (λ s. s) (slice_get seen r) unseen)) else seen

-- a trial was noted at each of its registers
pub record AreNoted (regs : List ℕ) (number : ℕ) (inserted : Bool) (old new : List Seen) : Type 0 where
  pub long : length new ≡ length old
  pub each : (r : ℕ) (s : Seen) → slice_get old r ≡ Some s →
      slice_get new r ≡ Some (if is_in regs r then noted number inserted s else s)

-- for each of so many registers there is what these trials are for it
pub record AreSeen (registers : ℕ) (trials : List Trial) (seen : List Seen) : Type 0 where
  pub long : length seen ≡ registers
  pub each : (r : ℕ) → r < registers → slice_get seen r ≡ Some (seen_of trials r)
