-- Tables of names, and the nets that they name: a net is the place of its name.
use Rattle.std.specs.Prelude.{ℕ, Bool, List, [], ◌∷◌, ◌++◌, if◌then◌else◌, nat_eq, slice_get, unwrap_or}
use Rattle.std.specs.List.{list_any, position_or_len}
use Rattle.std.specs.Str.{bytes_eq}
use lib.Pointwise.{pointwise}

-- whether a name is among these
abbrev pub is_known : List (List ℕ) → List ℕ → Bool
is_known names name = list_any (pointwise nat_eq name) names

-- the names with this one behind them, if it is not among them
abbrev pub with_name : List (List ℕ) → List ℕ → List (List ℕ)
with_name names name = if is_known names name then names else names ++ name ∷ []

-- names with more behind them, each that is not there yet
abbrev pub with_names : List (List ℕ) → List (List ℕ) → List (List ℕ)
with_names names [] = names
with_names names (name ∷ more) = with_names (with_name names name) more

-- the name of a net
abbrev pub NetName : Type 0
NetName = List ℕ

-- the name of the net with a number
abbrev pub net_name : List NetName → ℕ → NetName
net_name names net = unwrap_or (slice_get names net) []

-- the place of a name among names
abbrev pub name_place : List NetName → NetName → ℕ
name_place names name = position_or_len (bytes_eq name) names
