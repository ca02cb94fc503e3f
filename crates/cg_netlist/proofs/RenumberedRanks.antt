-- Logic cells have the ranks that they had when their nets get other numbers.
use Rattle.std.proofs.Common.{◌≡◌, ℕ, ◌+◌, ◌==◌, cond, List, [], ◌∷◌, map, length, slice_get, Option, Some, None, refl, ap, ◌∙◌}
use Rattle.std.specs.List.{AllByRecursion, cons_option, filter_map, position_from, range_with_len}
use Rattle.std.specs.Option.{option_map_or}
use Rattle.std.proofs.lemmas.List.{length-map}
use Rattle.std.proofs.lemmas.Option.{slice_get-map}
use Rattle.cg_netlist.specs.Circuit.{LogicCell}
use Rattle.cg_netlist.specs.Ranks.{driving_cell, driving_cells, rank_within, ranks_of}
use Rattle.cg_netlist.specs.Wiring.{map_cell}

module _ (f : ℕ → ℕ) where
  -- a net is told from the outputs of the cells by its other number as it is by its own
  abbrev pub TellsApart : List (LogicCell ℕ) → Type 0
  TellsApart cells = (net : ℕ) → AllByRecursion (λ cell. (f cell.output == f net) ≡ (cell.output == net)) cells

  same_first : (cells : List (LogicCell ℕ)) (a net : ℕ) → AllByRecursion (λ cell. (f cell.output == f net) ≡ (cell.output == net)) cells → position_from (λ (cell : LogicCell ℕ). cell.output == f net) a (map (map_cell f) cells) ≡ position_from (λ (cell : LogicCell ℕ). cell.output == net) a cells
  same_first [] a net told = refl
  same_first (cell ∷ cells) a net told =
      ap (λ b. cond b (Some a) (position_from (λ (other : LogicCell ℕ). other.output == f net) (a + 1) (map (map_cell f) cells))) told.0
      ∙ ap (λ o. cond (cell.output == net) (Some a) o) (same_first cells (a + 1) net told.1)

  same_drivers : (cells : List (LogicCell ℕ)) → TellsApart cells → (nets : List ℕ) → filter_map (driving_cell (map (map_cell f) cells)) (map f nets) ≡ filter_map (driving_cell cells) nets
  same_drivers cells told [] = refl
  same_drivers cells told (net ∷ nets) =
      ap (λ o. cons_option o (filter_map (driving_cell (map (map_cell f) cells)) (map f nets))) (same_first cells 0 net (told net))
      ∙ ap (cons_option (driving_cell cells net)) (same_drivers cells told nets)

  same_above : (cells : List (LogicCell ℕ)) → TellsApart cells → (k : ℕ) → driving_cells (map (map_cell f) cells) k ≡ driving_cells cells k
  same_above cells told k =
      ap (λ o. option_map_or (λ (cell : LogicCell ℕ). filter_map (driving_cell (map (map_cell f) cells)) cell.inputs) o []) (slice_get-map (map_cell f) cells k)
      ∙ go (slice_get cells k)
    where
      go : (o : Option (LogicCell ℕ)) → option_map_or (λ (cell : LogicCell ℕ). filter_map (driving_cell (map (map_cell f) cells)) cell.inputs) (Rattle.std.specs.Option.option_map (map_cell f) o) [] ≡ option_map_or (λ (cell : LogicCell ℕ). filter_map (driving_cell cells) cell.inputs) o []
      go None = refl
      go (Some cell) = same_drivers cells told cell.inputs

  pub renumbered_ranks : (cells : List (LogicCell ℕ)) → TellsApart cells → ranks_of (map (map_cell f) cells) ≡ ranks_of cells
  renumbered_ranks cells told =
      ap (λ n. map (rank_within (driving_cells (map (map_cell f) cells)) n) (range_with_len 0 n)) (length-map cells (map_cell f))
      ∙ ap (λ above. map (rank_within above (length cells)) (range_with_len 0 (length cells))) (λ i k. same_above cells told k i)
