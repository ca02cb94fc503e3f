-- The first net that passes a test, and marks on the nets before one.
use Rattle.std.specs.Prelude.{◌≡◌, ℕ, ◌<◌, Bool, true, false, List, Option, MatchOption}
use Rattle.std.specs.List.{list_any, range_with_len}
use Rattle.cg_net.specs.Marks.{is_marked}

-- whether a net before this one has a mark
abbrev pub marked_before : List Bool → ℕ → Bool
marked_before marks net = list_any (is_marked marks) (range_with_len 0 net)

-- the first of n nets that passes a test
abbrev pub IsFirst : ℕ → (ℕ → Bool) → Option ℕ → Type 0
IsFirst n test first = MatchOption first
    ((net : ℕ) → net < n → test net ≡ false)
    (λ found. (found < n) × (test found ≡ true) × ((net : ℕ) → net < found → test net ≡ false))
