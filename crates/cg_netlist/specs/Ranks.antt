-- How deep the logic cells of a netlist lie, in the words of levelised simulation: the rank of a cell is the length
-- of the longest way up from it through logic cells.
use Rattle.std.specs.Prelude.{ℕ, zero, suc, ◌+◌, ◌==◌, max, Bool, false, List, [], ◌∷◌, map, length, slice_get, Option, Some, None}
use Rattle.std.specs.Prelude.{is_none}
use Rattle.std.specs.List.{position_from, filter_map, range_with_len}
use Rattle.std.specs.Option.{option_map, option_map_or}
use Rattle.cg_netlist.specs.Circuit.{LogicCell}

-- the rank under cells of these ranks: 0 under none, and else one more than the greatest; none where one of them has none
abbrev pub next_rank : List (Option ℕ) → Option ℕ
next_rank [] = Some 0
next_rank (None ∷ ranks) = None
next_rank (Some rank ∷ ranks) = option_map (max (rank + 1)) (next_rank ranks)

-- the rank of cell k where no way up from it, from driven to driving cell, passes more than n cells, k among them; else none
abbrev pub rank_within : (ℕ → List ℕ) → ℕ → ℕ → Option ℕ
rank_within above zero k = None
rank_within above (suc n) k = next_rank (map (rank_within above n) (above k))

-- the first logic cell that drives a net, if one does
abbrev pub driving_cell : List (LogicCell ℕ) → ℕ → Option ℕ
driving_cell cells net = position_from (λ cell. cell.output == net) 0 cells

-- the logic cells that drive the inputs of cell k
abbrev pub driving_cells : List (LogicCell ℕ) → ℕ → List ℕ
driving_cells cells k = option_map_or (λ cell. filter_map (driving_cell cells) cell.inputs) (slice_get cells k) []

-- The rank of a logic cell. None where its cone holds a cycle of logic cells: exactly then some way up from it passes more
-- cells than there are, and comes back to one of its own.
abbrev pub rank_of : List (LogicCell ℕ) → ℕ → Option ℕ
rank_of cells = rank_within (driving_cells cells) (length cells)

abbrev pub ranks_of : List (LogicCell ℕ) → List (Option ℕ)
ranks_of cells = map (rank_of cells) (range_with_len 0 (length cells))

-- the first cell that drives a net has no rank
abbrev pub is_unranked : List (LogicCell ℕ) → ℕ → Bool
is_unranked cells net = option_map_or (λ k. is_none (rank_of cells k)) (driving_cell cells net) false
