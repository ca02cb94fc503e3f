-- Cells without a rank, by the tables of drivers and ranks.
use Rattle.std.proofs.Common.{◌≡◌, ℕ, zero, suc, ◌+◌, ◌<◌, Bool, true, false, cond, List, [], ◌∷◌, Option, Some, None, is_none}
use Rattle.std.proofs.Common.{length, refl, sym, ap, ◌∙◌, subst, arith}
use Rattle.std.specs.List.{All, AllByRecursion, position_from, slice_get}
use Rattle.std.specs.Option.{option_map_or}
use Rattle.std.proofs.lemmas.List.FromFn.{get_or-map-range_with_len, length-map-range_with_len}
use Rattle.std.proofs.lemmas.Option.{same_Some}
use Rattle.cg_netlist.specs.Circuit.{LogicCell}
use Rattle.cg_net.specs.Marks.{AreMarksOf}
use Rattle.cg_netlist.specs.Places.{CellWithin}
use Rattle.cg_netlist.specs.inner.Ranking.{IsGraph, entry}
use Rattle.cg_netlist.specs.Ranks.{driving_cell, is_unranked, rank_of, ranks_of}
use Rattle.cg_netlist.proofs.EntryLemmas.{entry_or, entry_within}
use Rattle.cg_netlist.proofs.Each.{from_recursion}

-- the number of a driving cell is that of a cell
pub first_within : (test : LogicCell ℕ → Bool) (a : ℕ) (cells : List (LogicCell ℕ)) (k : ℕ) → position_from test a cells ≡ Some k → k < a + length cells
first_within test a [] k is = absurd (cc)
first_within test a (cell ∷ cells) k is = go (test cell) is (first_within test (a + 1) cells k)
  where
    go : (b : Bool) → cond b (Some a) (position_from test (a + 1) cells) ≡ Some k → (position_from test (a + 1) cells ≡ Some k → k < a + 1 + length cells) → k < a + suc (length cells)
    go true is later = let same : a ≡ k = same_Some a k is in omega (arith, same)
    go false is later = omega (arith, later is)

-- the tables of drivers and ranks, as marks
pub is_graph_of : (n : ℕ) (drivers : List (Option ℕ)) (cells : List (LogicCell ℕ)) → AllByRecursion (CellWithin n) cells → length drivers ≡ n → ((net : ℕ) → net < n → entry drivers net ≡ driving_cell cells net) → IsGraph drivers cells
is_graph_of n drivers cells within fits tells = record {
  driving = λ net k is. omega (arith, first_within _ 0 cells k (sym (tells net (omega (arith, fits, entry_within drivers net k is))) ∙ is));
  nets = λ k cell at. subst (λ m. All (λ net. net < m) cell.inputs) (sym fits) (from_recursion (λ net. net < n) cell.inputs (cell_at cells k cell within at).inputs);
}
  where
    cell_at : (ks : List (LogicCell ℕ)) (k : ℕ) (cell : LogicCell ℕ) → AllByRecursion (CellWithin n) ks → slice_get ks k ≡ Some cell → CellWithin n cell
    cell_at [] k cell all at = absurd (cc)
    cell_at (c ∷ ks) zero cell all at = subst (CellWithin n) (same_Some c cell at) all.0
    cell_at (c ∷ ks) (suc k) cell all at = cell_at ks k cell all.1 at

entry_ranks : (cells : List (LogicCell ℕ)) (k : ℕ) → k < length cells → entry (ranks_of cells) k ≡ rank_of cells k
entry_ranks cells k lt = sym (entry_or (ranks_of cells) k) ∙ get_or-map-range_with_len (rank_of cells) 0 (length cells) k k None lt (omega arith)

pub ranked_under : (drivers ranks : List (Option ℕ)) (cells : List (LogicCell ℕ)) → IsGraph drivers cells → ranks ≡ ranks_of cells → (net k : ℕ) → entry drivers net ≡ Some k → k < length ranks
ranked_under drivers ranks cells graph ranks_are net k is = omega (arith, graph.driving net k is, ap length ranks_are, length-map-range_with_len (rank_of cells) 0 (length cells))

pub unranked_table : (n : ℕ) (marks : List Bool) (drivers ranks : List (Option ℕ)) (cells : List (LogicCell ℕ)) → IsGraph drivers cells → length drivers ≡ n → ((net : ℕ) → net < n → entry drivers net ≡ driving_cell cells net) → ranks ≡ ranks_of cells
    → AreMarksOf marks (length drivers) (λ net. option_map_or (λ k. is_none (entry ranks k)) (entry drivers net) false) → AreMarksOf marks n (is_unranked cells)
unranked_table n marks drivers ranks cells graph fits tells ranks_are table = record {
  fits = table.fits ∙ fits;
  tells = λ net lt. table.tells net (omega (arith, lt, fits)) ∙ (ap (λ rs. option_map_or (λ k. is_none (entry rs k)) (entry drivers net) false) ranks_are
      ∙ (go net (entry drivers net) refl ∙ ap (λ o. option_map_or (λ k. is_none (rank_of cells k)) o false) (tells net lt)));
}
  where
    go : (net : ℕ) (o : Option ℕ) → entry drivers net ≡ o → option_map_or (λ k. is_none (entry (ranks_of cells) k)) o false ≡ option_map_or (λ k. is_none (rank_of cells k)) o false
    go net None is = refl
    go net (Some k) is = ap (λ r. is_none r) (entry_ranks cells k (graph.driving net k is))
