-- A cone that was found, as a claim has it.
use Rattle.std.proofs.Common.{◌≡◌, ℕ, ◌-◌, ◌<◌, Bool, true, false, cond, List, [], ◌∷◌, length, take}
use Rattle.std.proofs.Common.{slice_get, Option, Some, None, refl, sym, ◌∙◌, ap, subst, arith, inl, inr}
use Rattle.std.specs.List.{cons_option, filter, range_with_len}
use Rattle.std.specs.Option.{option_map_or}
use Rattle.cg_netlist.specs.Circuit.{LogicCell}
use Rattle.cg_net.specs.NetSets.{is_in}
use Rattle.cg_netlist_cone.specs.Cone.{cell_feeds, cone_at, cone_of}
use Rattle.cg_netlist.specs.Moment.{values_at}
use Rattle.cg_netlist.specs.Nets.{walk_order}
use Rattle.std.proofs.lemmas.List.{length-take-le}
use Rattle.cg_netlist_cone.specs.declared.cone.Cone.{Cone}
use Rattle.cg_net.proofs.Members.{All-from_members, is_in_cases}
use Rattle.cg_netlist.proofs.CellFits.{walk_within}
use Rattle.cg_machine.specs.Machine.{IsMachine, MachineData, order_of, walk_of}
use Rattle.cg_machine.proofs.Lists.{below_range}
use Rattle.cg_claim_reach.specs.Reached.{IsConeOf}
use Rattle.cg_claim_reach.proofs.Filtering.{in_filtered}
use Rattle.cg_claim.proofs.Reached.{and_first}

-- the cells at the places that pass are the cells that pass
fed_cells : (cells : List (LogicCell ℕ)) (nets order : List ℕ)
    → values_at cells (filter (λ k. option_map_or (λ cell. is_in nets cell.output) (slice_get cells k) false) order) ≡ filter (λ cell. is_in nets cell.output) (values_at cells order)
fed_cells cells nets [] = refl
fed_cells cells nets (k ∷ order) = go (filter (λ k. option_map_or (λ cell. is_in nets cell.output) (slice_get cells k) false) order) (values_at cells order) (fed_cells cells nets order) (slice_get cells k) refl
  where
    go : (places : List ℕ) (walk : List (LogicCell ℕ)) → values_at cells places ≡ filter (λ cell. is_in nets cell.output) walk → (o : Option (LogicCell ℕ)) → slice_get cells k ≡ o
        → values_at cells (cond (option_map_or (λ cell. is_in nets cell.output) o false) (k ∷ places) places) ≡ filter (λ cell. is_in nets cell.output) (cons_option o walk)
    go places walk rest None at = rest
    go places walk rest (Some cell) at = chosen (is_in nets cell.output)
      where
        chosen : (b : Bool) → values_at cells (cond b (k ∷ places) places) ≡ cond b (cell ∷ filter (λ cell. is_in nets cell.output) walk) (filter (λ cell. is_in nets cell.output) walk)
        chosen true = ap (λ o. cons_option o (values_at cells places)) at ∙ ap (λ l. cell ∷ l) rest
        chosen false = rest

module _ (m : MachineData) (good : IsMachine m) where
  abbrev own : List ℕ
  own = walk_order (take m.own_cells m.circuit.cells)

  own_long : length (take m.own_cells m.circuit.cells) ≡ m.own_cells
  own_long = length-take-le m.own_cells m.circuit.cells (omega (arith, good.own_cells))

  -- the walk order has cells of the machine
  pub order_within : (k : ℕ) → is_in (order_of m) k ≡ true → k < length m.circuit.cells
  order_within k among = elim (is_in_cases own (range_with_len m.own_cells (length m.circuit.cells - m.own_cells)) k among) [
    | inl early ↦ omega (arith, walk_within (take m.own_cells m.circuit.cells) k early, own_long, good.own_cells)
    | inr late ↦ omega (arith, below_range (length m.circuit.cells - m.own_cells) m.own_cells k late, good.own_cells)
  ]

  pub found_cone : (roots : List ℕ) (cone : Cone) → cone ≡ cone_at m.circuit (order_of m) roots → IsConeOf m (cone_of (walk_of m) roots) cone
  found_cone roots cone is = subst (IsConeOf m (cone_of (walk_of m) roots)) (sym is) (record {
    within = All-from_members (λ k. k < length m.circuit.cells) (filter (cell_feeds m.circuit (cone_of (walk_of m) roots)) (order_of m)) (λ k among.
        order_within k (and_first (is_in (order_of m) k) (cell_feeds m.circuit (cone_of (walk_of m) roots) k) (sym (in_filtered (cell_feeds m.circuit (cone_of (walk_of m) roots)) (order_of m) k) ∙ among)));
    cells = fed_cells m.circuit.cells (cone_of (walk_of m) roots) (order_of m);
    inputs = refl;
    registers = refl;
  })
