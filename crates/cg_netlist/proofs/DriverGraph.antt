-- The graph in which the cells that drive the inputs of a cell stand above it.
use Rattle.std.proofs.Common.{ℕ, zero, suc, ◌<◌, ◌≡◌, List, [], ◌∷◌, Option, Some, None, map, length, get_or, refl, sym, ap, ◌∙◌, subst}
use Rattle.std.specs.List.{All, AllByRecursion, cons_option, filter_map, range_with_len, slice_get}
use Rattle.std.specs.Option.{option_map_or}
use Rattle.std.proofs.lemmas.List.{length-map}
use Rattle.std.proofs.lemmas.List.Elements.{All-head, All-nil, All-tail}
use Rattle.cg_netlist.specs.Circuit.{LogicCell}
use Rattle.cg_netlist.specs.inner.Ranking.{IsGraph, NamesCells, cells_above, drivers_at, entry, ranks_in}
use Rattle.cg_netlist.specs.Ranks.{driving_cell, driving_cells, rank_within, ranks_of}
use Rattle.cg_netlist.proofs.Each.{from_recursion}

module _ (drivers : List (Option ℕ)) (cells : List (LogicCell ℕ)) (graph : IsGraph drivers cells) where
  abbrev drivers_of : LogicCell ℕ → List ℕ
  drivers_of cell = drivers_at drivers cell.inputs

  abbrev above : List (List ℕ)
  above = map drivers_of cells

  abbrev IsNet : ℕ → Type 0
  IsNet net = net < length drivers

  abbrev IsCell : ℕ → Type 0
  IsCell k = k < length cells

  all_cells : (nets : List ℕ) → AllByRecursion IsCell (drivers_at drivers nets)
  all_cells [] = tt
  all_cells (net ∷ nets) = at (entry drivers net) (graph.driving net) (all_cells nets)
    where
      at : (o : Option ℕ) → ((k : ℕ) → o ≡ Some k → IsCell k) → AllByRecursion IsCell (drivers_at drivers nets)
          → AllByRecursion IsCell (cons_option o (drivers_at drivers nets))
      at None is all = all
      at (Some k) is all = (is k refl, all)

  pub names_cells : NamesCells above
  names_cells = subst (λ n. (k : ℕ) → All (λ j. j < n) (cells_above above k)) (sym (length-map cells drivers_of)) (at cells)
    where
      at : (some : List (LogicCell ℕ)) (k : ℕ) → All IsCell (get_or (map drivers_of some) k [])
      at [] k = All-nil IsCell
      at (cell ∷ some) zero = from_recursion IsCell (drivers_of cell) (all_cells cell.inputs)
      at (cell ∷ some) (suc k) = at some k

  -- where the table tells which cell drives each net, the ranks are those of the cells
  module _ (table : (net : ℕ) → IsNet net → entry drivers net ≡ driving_cell cells net) where
    same_drivers : (nets : List ℕ) → All IsNet nets → drivers_at drivers nets ≡ filter_map (driving_cell cells) nets
    same_drivers [] all = refl
    same_drivers (net ∷ nets) all =
        ap (λ o. cons_option o (drivers_at drivers nets)) (table net (All-head IsNet net nets all))
        ∙ ap (cons_option (driving_cell cells net)) (same_drivers nets (All-tail IsNet net nets all))

    same_above : (k : ℕ) → cells_above above k ≡ driving_cells cells k
    same_above = at cells graph.nets
      where
        at : (some : List (LogicCell ℕ)) → ((k : ℕ) (cell : LogicCell ℕ) → slice_get some k ≡ Some cell → All IsNet cell.inputs)
            → (k : ℕ) → get_or (map drivers_of some) k [] ≡ option_map_or (λ cell. filter_map (driving_cell cells) cell.inputs) (slice_get some k) []
        at [] nets k = refl
        at (cell ∷ some) nets zero = same_drivers cell.inputs (nets 0 cell refl)
        at (cell ∷ some) nets (suc k) = at some (λ i. nets (suc i)) k

    pub ranks_are : ranks_in above ≡ ranks_of cells
    ranks_are =
        ap (λ n. map (rank_within (cells_above above) n) (range_with_len 0 n)) (length-map cells drivers_of)
        ∙ ap (λ f. map (rank_within f (length cells)) (range_with_len 0 (length cells))) (λ i k. same_above k i)
