-- How often nets are 0 at the low moments of the rows that are played.
use Rattle.std.specs.Prelude.{◌≡◌, ℕ, ◌<◌, not, List, [], ◌∷◌, length, slice_get, Some}
use Rattle.std.specs.List.{count_by}
use Rattle.cg_netlist.specs.Circuit.{Circuit}
use Rattle.cg_netlist.specs.History.{Moment}
use Rattle.cg_netlist.specs.Moment.{bit}

-- the low moments of the rows of a played history: of each row the first of its two moments; the last moment is of no row
abbrev pub low_moments : List Moment → List Moment
low_moments [] = []
low_moments (last ∷ []) = []
low_moments (low ∷ high ∷ history) = low ∷ low_moments history

-- at how many of these moments a net is 0
abbrev pub zeros_of : ℕ → List Moment → ℕ
zeros_of net moments = count_by (λ now. not (bit now.nets net)) moments

-- for each net there is the number of low moments at which it is 0
pub record CountZeros (c : Circuit) (history : List Moment) (zeros : List ℕ) : Type 0 where
  pub count : length zeros ≡ length c.names
  pub each : (net : ℕ) → net < length c.names → slice_get zeros net ≡ Some (zeros_of net (low_moments history))
