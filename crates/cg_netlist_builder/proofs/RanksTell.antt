-- The ranks of logic cells tell which ways up end: a cell has a rank where those from its output do.
use Rattle.std.specs.Prelude.{[], ◌≡◌, ◌≢◌, ℕ, zero, suc, ◌+◌, ◌<◌, ◌==◌, Bool, true, false, not, ◌&&◌, ◌||◌, max, List, ◌∷◌, map}
use Rattle.std.specs.Prelude.{length, slice_get, Option, None, Some, nat_eq, is_some}
use Rattle.std.proofs.Common.{refl, ap, ◌∙◌, sym, subst, inl, inr, arith, cond}
use Rattle.std.specs.List.{AllByRecursion, AllPairs, IsDistinct, cons_option, filter_map, list_all, position_from}
use Rattle.std.specs.Option.{option_map, option_map_or}
use Rattle.std.specs.Str.{bytes_eq}
use Rattle.std.proofs.lemmas.Bool.{both_ways, cases_Bool, or_left, or_right, eqb-true, eq-eqb}
use Rattle.cg_net.proofs.Members.{distinct_head, distinct_tail}
use Rattle.cg_netlist_parts.proofs.Kept.{CellNets}
use Rattle.cg_netlist_parts.proofs.KnownNames.{itself}
use Rattle.cg_netlist_parts.proofs.OrderMapped.{cells_driven_mapped}
use Rattle.cg_netlist_parts.proofs.ToldByNames.{known_as, told}
use Rattle.cg_netlist_parts.proofs.WaysEnd.{undriven_ends, unknown_all}
use Rattle.cg_netlist.specs.Circuit.{LogicCell}
use Rattle.cg_net.specs.NetSets.{is_in}
use Rattle.cg_net.specs.Names.{NetName, is_known, net_name}
use Rattle.cg_netlist.specs.Ranks.{driving_cell, driving_cells, next_rank, rank_within}
use Rattle.cg_netlist_parts.specs.Faults.{ends_within}
use Rattle.cg_netlist_parts.specs.Part.{cells}
use Rattle.cg_netlist.specs.Wiring.{driven_by_cells, map_cell}

-- there is a rank under cells if each of them has one
next_there : (rs : List (Option ℕ)) → is_some (next_rank rs) ≡ list_all (λ r. is_some r) rs
next_there [] = refl
next_there (None ∷ rs) = refl
next_there (Some r ∷ rs) = mapped (next_rank rs) ∙ next_there rs
  where
    mapped : (o : Option ℕ) → is_some (option_map (max (r + 1)) o) ≡ is_some o
    mapped None = refl
    mapped (Some n) = refl

-- the cell that drives a net, if one does
pub driven_by_none : (cells : List (LogicCell ℕ)) (a x : ℕ) → position_from (λ cell. cell.output == x) a cells ≡ None → is_in (driven_by_cells cells) x ≡ false
driven_by_none [] a x none = refl
driven_by_none (k ∷ cells) a x none = go (k.output == x) refl none (λ rest. driven_by_none cells (a + 1) x rest)
  where
    go : (b : Bool) → (k.output == x) ≡ b → cond b (Some a) (position_from (λ cell. cell.output == x) (a + 1) cells) ≡ None → (position_from (λ cell. cell.output == x) (a + 1) cells ≡ None → is_in (driven_by_cells cells) x ≡ false) → is_in (driven_by_cells (k ∷ cells)) x ≡ false
    go true e none later = absurd (cc)
    go false e none later = elim (cases_Bool (nat_eq x k.output)) [
      | inl same ↦ absurd (both_ways (k.output == x) e (eq-eqb k.output x (sym (eqb-true x k.output same))))
      | inr other ↦ ap (λ b. b || is_in (driven_by_cells cells) x) other ∙ later none
    ]

pub driven_by_some : (cells : List (LogicCell ℕ)) (a x j : ℕ) → position_from (λ cell. cell.output == x) a cells ≡ Some j → (i : ℕ) × (cell : LogicCell ℕ) × (j ≡ a + i) × (slice_get cells i ≡ Some cell) × (cell.output ≡ x)
driven_by_some [] a x j is = absurd (cc)
driven_by_some (k ∷ cells) a x j is = go (k.output == x) refl is (λ rest. driven_by_some cells (a + 1) x j rest)
  where
    go : (b : Bool) → (k.output == x) ≡ b → cond b (Some a) (position_from (λ cell. cell.output == x) (a + 1) cells) ≡ Some j
        → (position_from (λ cell. cell.output == x) (a + 1) cells ≡ Some j → (i : ℕ) × (cell : LogicCell ℕ) × (j ≡ a + 1 + i) × (slice_get cells i ≡ Some cell) × (cell.output ≡ x))
        → (i : ℕ) × (cell : LogicCell ℕ) × (j ≡ a + i) × (slice_get (k ∷ cells) i ≡ Some cell) × (cell.output ≡ x)
    go true e is later = let same : a ≡ j = cc in (0, k, omega (arith, same), refl, eqb-true k.output x e)
    go false e is later = let more = later is in (suc more.0, more.1, omega (arith, more.2), more.3, more.4)

output_there : (ks : List (LogicCell ℕ)) (k : ℕ) (cell : LogicCell ℕ) → slice_get ks k ≡ Some cell → is_in (driven_by_cells ks) cell.output ≡ true
output_there [] k cell at = absurd (cc)
output_there (x ∷ ks) zero cell at = let same : x ≡ cell = cc in ap (λ (m : LogicCell ℕ). is_in (m.output ∷ driven_by_cells ks) cell.output) same ∙ or_left (nat_eq cell.output cell.output) (is_in (driven_by_cells ks) cell.output) (eq-eqb cell.output cell.output refl)
output_there (x ∷ ks) (suc k) cell at = or_right (nat_eq cell.output x.output) (is_in (driven_by_cells ks) cell.output) (output_there ks k cell at)

module _ (names : List NetName) (different : AllPairs (λ name other. name ≢ other) names) where
  abbrev name : ℕ → NetName
  name = net_name names

  abbrev Is : ℕ → Type 0
  Is x = x < length names

  outputs_in : (ks : List (LogicCell ℕ)) → AllByRecursion (CellNets Is) ks → AllByRecursion Is (driven_by_cells ks)
  outputs_in [] all = tt
  outputs_in (k ∷ ks) all = (all.0.output, outputs_in ks all.1)

  cell_in_names : (ks : List (LogicCell ℕ)) → AllByRecursion (CellNets Is) ks → (k : ℕ) (cell : LogicCell ℕ) → slice_get ks k ≡ Some cell → CellNets Is cell
  cell_in_names [] all k cell at = absurd (cc)
  cell_in_names (x ∷ ks) all zero cell at = let same : x ≡ cell = cc in subst (CellNets Is) same all.0
  cell_in_names (x ∷ ks) all (suc k) cell at = cell_in_names ks all.1 k cell at

  pub driven_as : (ks : List (LogicCell ℕ)) → AllByRecursion (CellNets Is) ks → (x : ℕ) → Is x → is_known (driven_by_cells (map (map_cell name) ks)) (name x) ≡ is_in (driven_by_cells ks) x
  driven_as ks all x lt = ap (λ xs. is_known xs (name x)) (cells_driven_mapped name ks) ∙ known_as names different (driven_by_cells ks) x (outputs_in ks all) lt

  and_true : (b : Bool) → (b && true) ≡ b
  and_true true = refl
  and_true false = refl

  -- of cells with different outputs one drives a net
  only_one : (ks : List (LogicCell ℕ)) → AllByRecursion (CellNets Is) ks → IsDistinct nat_eq (driven_by_cells ks) → (k : ℕ) (cell : LogicCell ℕ) → slice_get ks k ≡ Some cell → (q : LogicCell NetName → Bool)
      → list_all (λ (c : LogicCell NetName). not (bytes_eq (name cell.output) c.output) || q c) (map (map_cell name) ks) ≡ q (map_cell name cell)
  only_one [] all once k cell at q = absurd (cc)
  only_one (x ∷ ks) all once zero cell at q =
      let same : x ≡ cell = cc in
      let lt : Is cell.output = subst (λ (c : LogicCell ℕ). Is c.output) same all.0.output in
      let none : is_in (driven_by_cells ks) cell.output ≡ false = ap (λ (c : LogicCell ℕ). is_in (driven_by_cells ks) c.output) (sym same) ∙ distinct_head x.output (driven_by_cells ks) once in
      let rest : list_all (λ (c : LogicCell NetName). not (bytes_eq (name cell.output) c.output) || q c) (map (map_cell name) ks) ≡ true = unknown_all q (map (map_cell name) ks) (name cell.output) (driven_as ks all.1 cell.output lt ∙ none) in
      let here : (not (bytes_eq (name cell.output) (name x.output)) || q (map_cell name x)) ≡ q (map_cell name cell) =
      ap (λ (c : LogicCell ℕ). not (bytes_eq (name cell.output) (name c.output)) || q (map_cell name c)) same ∙ ap (λ b. not b || q (map_cell name cell)) (itself (name cell.output)) in
      ap (λ b. b && list_all (λ (c : LogicCell NetName). not (bytes_eq (name cell.output) c.output) || q c) (map (map_cell name) ks)) here ∙ (ap (λ b. q (map_cell name cell) && b) rest ∙ and_true (q (map_cell name cell)))
  only_one (x ∷ ks) all once (suc k) cell at q =
      let fits = cell_in_names ks all.1 k cell at in
      let other : nat_eq cell.output x.output ≡ false = elim (cases_Bool (nat_eq cell.output x.output)) [
        | inl same ↦ absurd (both_ways (is_in (driven_by_cells ks) x.output) (distinct_head x.output (driven_by_cells ks) once) (ap (is_in (driven_by_cells ks)) (sym (eqb-true cell.output x.output same)) ∙ output_there ks k cell at))
        | inr no' ↦ no'
      ] in
      ap (λ b. (not b || q (map_cell name x)) && list_all (λ (c : LogicCell NetName). not (bytes_eq (name cell.output) c.output) || q c) (map (map_cell name) ks)) (told names different cell.output x.output fits.output all.0.output ∙ other)
      ∙ only_one ks all.1 (distinct_tail x.output (driven_by_cells ks) once) k cell at q

  module _ (cells : List (LogicCell ℕ)) (all : AllByRecursion (CellNets Is) cells) (once : IsDistinct nat_eq (driven_by_cells cells)) where
    abbrev seen : List (LogicCell NetName)
    seen = map (map_cell name) cells

    -- the cells above a net
    one_input : (n x : ℕ) → Is x → ((k : ℕ) (cell : LogicCell ℕ) → slice_get cells k ≡ Some cell → is_some (rank_within (driving_cells cells) n k) ≡ ends_within seen n (name cell.output))
        → (o : Option ℕ) → driving_cell cells x ≡ o → option_map_or (λ j. is_some (rank_within (driving_cells cells) n j)) o true ≡ ends_within seen n (name x)
    one_input n x lt ranks None is = sym (undriven_ends seen n (name x) (driven_as cells all x lt ∙ driven_by_none cells 0 x is))
    one_input n x lt ranks (Some j) is =
        let found = driven_by_some cells 0 x j is in
        let place : j ≡ found.0 = found.2 ∙ omega arith in
        ap (λ i. is_some (rank_within (driving_cells cells) n i)) place ∙ (ranks found.0 found.1 found.3 ∙ ap (λ y. ends_within seen n (name y)) found.4)

    all_inputs : (n : ℕ) → ((k : ℕ) (cell : LogicCell ℕ) → slice_get cells k ≡ Some cell → is_some (rank_within (driving_cells cells) n k) ≡ ends_within seen n (name cell.output))
        → (xs : List ℕ) → AllByRecursion Is xs → list_all (λ (r : Option ℕ). is_some r) (map (rank_within (driving_cells cells) n) (filter_map (driving_cell cells) xs)) ≡ list_all (ends_within seen n) (map name xs)
    all_inputs n ranks [] within = refl
    all_inputs n ranks (x ∷ xs) within = go (driving_cell cells x) (one_input n x within.0 ranks (driving_cell cells x) refl) (all_inputs n ranks xs within.1)
      where
        go : (o : Option ℕ) → option_map_or (λ j. is_some (rank_within (driving_cells cells) n j)) o true ≡ ends_within seen n (name x)
            → list_all (λ (r : Option ℕ). is_some r) (map (rank_within (driving_cells cells) n) (filter_map (driving_cell cells) xs)) ≡ list_all (ends_within seen n) (map name xs)
            → list_all (λ (r : Option ℕ). is_some r) (map (rank_within (driving_cells cells) n) (cons_option o (filter_map (driving_cell cells) xs))) ≡ (ends_within seen n (name x) && list_all (ends_within seen n) (map name xs))
        go None ends rest = rest ∙ ap (λ b. b && list_all (ends_within seen n) (map name xs)) ends
        go (Some j) ends rest = ap (λ b. is_some (rank_within (driving_cells cells) n j) && b) rest ∙ ap (λ b. b && list_all (ends_within seen n) (map name xs)) ends

    -- a cell has a rank within n cells exactly where the ways up from its output end within n
    pub rank_ends : (n k : ℕ) (cell : LogicCell ℕ) → slice_get cells k ≡ Some cell → is_some (rank_within (driving_cells cells) n k) ≡ ends_within seen n (name cell.output)
    rank_ends zero k cell at = sym (ap not (driven_as cells all cell.output (cell_in_names cells all k cell at).output ∙ output_there cells k cell at))
    rank_ends (suc n) k cell at =
        next_there (map (rank_within (driving_cells cells) n) (driving_cells cells k))
        ∙ (ap (λ o. list_all (λ (r : Option ℕ). is_some r) (map (rank_within (driving_cells cells) n) (option_map_or (λ c. filter_map (driving_cell cells) c.inputs) o []))) at
        ∙ (all_inputs n (λ j c c_at. rank_ends n j c c_at) cell.inputs (cell_in_names cells all k cell at).inputs
        ∙ sym (only_one cells all once k cell at (λ c. list_all (ends_within seen n) c.inputs))))
