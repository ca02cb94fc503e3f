-- What the search for ranks keeps from step to step. It goes over a graph: for each cell the list of the cells above it, those
-- that drive its inputs. Up is towards the inputs of the netlist, so that the cells above have lower ranks.
use Rattle.std.specs.Prelude.{◌≡◌, ◌≢◌, ℕ, ◌+◌, ◌*◌, ◌<◌, ◌≤◌, Bool, true, false, not, if◌then◌else◌, List, [], ◌∷◌, ◌++◌, map}
use Rattle.std.specs.Prelude.{length, take, get_or, slice_get, slice_set, Option, Some, None, is_some, MatchOption, unwrap_or}
use Rattle.std.specs.Prelude.{replicate}
use Rattle.std.specs.List.{filter_map, count_by, range_with_len, All}
use Rattle.std.specs.Option.{option_flatten}
use Rattle.cg_netlist.specs.Circuit.{LogicCell}
use Rattle.cg_net.specs.NetSets.{is_in}
use Rattle.cg_netlist.specs.Ranks.{next_rank, rank_within}
use Rattle.cg_netlist.specs.declared.ranks.Progress.{Progress}

-- an entry of a table of things that may not be there
abbrev pub entry : List (Option ℕ) → ℕ → Option ℕ
entry table k = option_flatten (slice_get table k)

-- the cells that drive these nets
abbrev pub drivers_at : List (Option ℕ) → List ℕ → List ℕ
drivers_at drivers nets = filter_map (entry drivers) nets

-- the table of the cells that drive the nets names cells, and has a place for each net at an input
pub record IsGraph (drivers : List (Option ℕ)) (cells : List (LogicCell ℕ)) : Type 0 where
  pub driving : (net k : ℕ) → entry drivers net ≡ Some k → k < length cells
  pub nets : (k : ℕ) (cell : LogicCell ℕ) → slice_get cells k ≡ Some cell → All (λ net. net < length drivers) cell.inputs

-- the cells above cell k
abbrev pub cells_above : List (List ℕ) → ℕ → List ℕ
cells_above above k = get_or above k []

-- cell j stands above cell k
abbrev pub IsAbove : List (List ℕ) → ℕ → ℕ → Type 0
IsAbove above k j = is_in (cells_above above k) j ≡ true

-- above each cell stand cells of the graph alone
abbrev pub NamesCells : List (List ℕ) → Type 0
NamesCells above = (k : ℕ) → All (λ j. j < length above) (cells_above above k)

-- the rank of each cell
abbrev pub ranks_in : List (List ℕ) → List (Option ℕ)
ranks_in above = map (rank_within (cells_above above) (length above)) (range_with_len 0 (length above))

-- the rank that these cells give one that they stand above
abbrev pub rank_under : List (Option ℕ) → List ℕ → Option ℕ
rank_under ranks js = next_rank (map (entry ranks) js)

-- of the cells above one the search has looked at those before a place, and these give this rank
pub record HasLooked (ranks : List (Option ℕ)) (js : List ℕ) (p : Progress) : Type 0 where
  pub place : p.place ≤ length js
  pub rank : rank_under ranks (take p.place js) ≡ Some p.rank

-- the search has looked on at the cells above one, to the answered one without a rank, or to their end
pub record Looks (above : List (List ℕ)) (ranks : List (Option ℕ)) (old new : Progress) (next : Option ℕ) : Type 0 where
  pub cell : new.cell ≡ old.cell
  pub looked : HasLooked ranks (cells_above above new.cell) new
  pub stops : MatchOption next (new.place ≡ length (cells_above above new.cell))
      (λ j. IsAbove above new.cell j × (entry ranks j ≡ None))

-- the search at a moment: the ranks that it has given, which cells it has seen, and the cells on its way up, the highest last
pub record Search : Type 0 where
  pub ranks : List (Option ℕ)
  pub seen : List Bool
  pub stack : List Progress

-- before the search, with this many cells
abbrev pub unsearched : ℕ → Search
unsearched n = record { ranks = replicate n None; seen = replicate n false; stack = [] }

-- one more cell on top of the stack
abbrev pub with_top : Search → Progress → Search
with_top s top = record s { stack = s.stack ++ top ∷ [] }

-- a cell gets the rank that those above it give it
abbrev pub with_rank : Search → Progress → Search
with_rank s p = record s { ranks = slice_set s.ranks p.cell (Some p.rank) }

-- cell k is seen, and comes on top of the stack
abbrev pub entered : Search → ℕ → Search
entered s k =
    record s {
      seen = slice_set s.seen k true;
      stack = s.stack ++ record { cell = k; place = 0; rank = 0 } ∷ [];
    }

-- the cells on the stack are given up: none of them has a rank
abbrev pub given_up : Search → Search
given_up s = record s { stack = [] }

abbrev pub was_seen : Search → ℕ → Bool
was_seen s k = unwrap_or (slice_get s.seen k) false

-- above the top a cell without a rank is met: where it was seen before, the way up leads into a cycle
abbrev pub met : Search → Progress → ℕ → Search
met s top above = if was_seen s above then given_up s else entered (with_top s top) above

-- cell k was seen, and has no rank
abbrev pub IsPending : Search → ℕ → Type 0
IsPending s k = (was_seen s k ≡ true) × (entry s.ranks k ≡ None)

-- cell k was given up: it is pending, and no longer on the stack
pub record IsLost (s : Search) (k : ℕ) : Type 0 where
  pub pending : IsPending s k
  pub off : (i : ℕ) (p : Progress) → slice_get s.stack i ≡ Some p → p.cell ≢ k

-- a cell on the stack: pending, with the cells above it looked at as far as its progress says
pub record IsStacked (above : List (List ℕ)) (s : Search) (p : Progress) : Type 0 where
  pub pending : IsPending s p.cell
  pub looked : HasLooked s.ranks (cells_above above p.cell) p

-- The tables have a place for each cell, and the ranks are those that the cells above give. On the stack each cell stands
-- once, and under the next. A cell that was given up lies under another that was.
pub record IsSound (above : List (List ℕ)) (s : Search) : Type 0 where
  pub ranks_fit : length s.ranks ≡ length above
  pub seen_fits : length s.seen ≡ length above
  pub small : (k rank : ℕ) → entry s.ranks k ≡ Some rank → rank < count_by is_some s.ranks
  pub ranked : (k rank : ℕ) → entry s.ranks k ≡ Some rank → rank_under s.ranks (cells_above above k) ≡ Some rank
  pub ranked_seen : (k rank : ℕ) → entry s.ranks k ≡ Some rank → was_seen s k ≡ true
  pub stacked : (i : ℕ) (p : Progress) → slice_get s.stack i ≡ Some p → IsStacked above s p
  pub once : (i j : ℕ) (p q : Progress) → slice_get s.stack i ≡ Some p → slice_get s.stack j ≡ Some q → p.cell ≡ q.cell → i ≡ j
  pub rises : (i : ℕ) (p q : Progress) → slice_get s.stack i ≡ Some p → slice_get s.stack (i + 1) ≡ Some q
      → IsAbove above p.cell q.cell
  pub lost : (k : ℕ) → IsLost s k → (j : ℕ) × IsAbove above k j × IsLost s j

-- how much is left to do: it falls with each step
abbrev pub left : Search → ℕ
left s = 2 * count_by not s.seen + length s.stack

-- a step of the search
pub record Advances (above : List (List ℕ)) (old new : Search) : Type 0 where
  pub sound : IsSound above new
  pub seen : (k : ℕ) → was_seen old k ≡ true → was_seen new k ≡ true
  pub nearer : left new < left old

-- the search has gone up from each cell before `next`, and is back
pub record HasVisited (above : List (List ℕ)) (s : Search) (next : ℕ) : Type 0 where
  pub sound : IsSound above s
  pub back : s.stack ≡ []
  pub seen : (k : ℕ) → k < next → was_seen s k ≡ true
