-- What is kept beside a table of names where some of its nets stand in an order: for each net a place.
use Rattle.std.specs.Prelude.{◌≡◌, ◌≢◌, ℕ, ◌<◌, List, length, slice_get, unwrap_or, Some}
use Rattle.std.specs.List.{All, AllPairs}

-- the place that is kept for a net
abbrev pub net_place : List ℕ → ℕ → ℕ
net_place places net = unwrap_or (slice_get places net) 0

-- at the place that is kept for a net the order has this net
abbrev pub IsPlaced : List ℕ → List ℕ → ℕ → Type 0
IsPlaced order places net = slice_get order (net_place places net) ≡ Some net

-- the nets of an order have names, which differ; a place is kept for each name, and for each net of the order one where it stands
pub record ArePlaced (names : List (List ℕ)) (order places : List ℕ) : Type 0 where
  pub within : All (λ net. net < length names) order
  pub different : AllPairs (λ name other. name ≢ other) names
  pub long : length places ≡ length names
  pub placed : All (IsPlaced order places) order
