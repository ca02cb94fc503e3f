-- The places of a machine's walk order: those of the netlist, and behind them the added gates.
use Rattle.std.proofs.Common.{◌≡◌, ℕ, zero, suc, ◌+◌, ◌-◌, ◌<◌, ◌≤◌, List, ◌++◌, length, map, nat_eq}
use Rattle.std.proofs.Common.{slice_get, take, Option, Some, sym, ◌∙◌, ap, arith}
use Rattle.std.specs.List.{IsDistinct, range_with_len}
use Rattle.std.proofs.lemmas.Bool.{false_from_ne_true}
use Rattle.std.proofs.lemmas.List.{length-append, length-map, length-take-le}
use Rattle.std.proofs.lemmas.Map.Steps.{length-le_from_distinct_below}
use Rattle.cg_limit.specs.declared.TheConstants.{MOST_NETS}
use Rattle.cg_netlist.specs.Circuit.{Circuit, LogicCell, cell_nets, given_nets}
use Rattle.cg_net.specs.NetSets.{is_in}
use Rattle.cg_netlist.specs.Netlist.{IsNetlist}
use Rattle.cg_netlist.specs.Nets.{walk_order}
use Rattle.cg_netlist.proofs.CellFits.{walk_within}
use Rattle.cg_netlist_cone.proofs.ConeEdge.{data_rises}
use Rattle.cg_netlist.proofs.Driven.{distinct_range, in_range}
use Rattle.cg_netlist.proofs.Given.{distinct_cells, driver_within}
use Rattle.cg_net.proofs.Members.{distinct_append, is_in_right, one_place}
use Rattle.cg_net.proofs.TableLemmas.{front_get}
use Rattle.cg_netlist_cone.specs.inner.Reaching.{IsWired}
use Rattle.cg_netlist.proofs.WalkPlaces.{walk_long, walk_once}
use Rattle.cg_machine.specs.Added.{own_netlist}
use Rattle.cg_machine.specs.Machine.{IsMachine, MachineData, order_of}
use Rattle.cg_machine.specs.Gates.{AddedGate, gate_cell}
use Rattle.cg_machine.proofs.Cycles.{get_back}
use Rattle.cg_netlist.proofs.OrderLemmas.{length-range_with_len}

pub range_at : (n a k : ℕ) → k < n → slice_get (range_with_len a n) k ≡ Some (a + k)
range_at zero a k below = absurd (omega arith)
range_at (suc n) a zero below = let e : a ≡ a + 0 = omega arith in ap Some e
range_at (suc n) a (suc k) below = let e : a + 1 + k ≡ a + suc k = omega arith in range_at n (a + 1) k (omega arith) ∙ ap Some e

module _ (m : MachineData) (good : IsMachine m) where
  abbrev own : List (LogicCell ℕ)
  own = take m.own_cells m.circuit.cells

  abbrev added : ℕ
  added = length m.circuit.cells - m.own_cells

  own_count : length own ≡ m.own_cells
  own_count = length-take-le m.own_cells m.circuit.cells (omega (arith, good.own_cells))

  pub place_own : (id place : ℕ) → slice_get (walk_order own) place ≡ Some id → slice_get (order_of m) place ≡ Some id
  place_own id place at = front_get (walk_order own) (range_with_len m.own_cells added) place id at

  pub place_added : (id place : ℕ) → length own ≤ id → id < length m.circuit.cells → place ≡ length (walk_order own) + (id - length own) → slice_get (order_of m) place ≡ Some id
  place_added id place past below is =
      let e : m.own_cells + (id - length own) ≡ id = omega (arith, own_count, past) in
      ap (slice_get (order_of m)) is
      ∙ (get_back (walk_order own) (range_with_len m.own_cells added) (id - length own)
      ∙ (range_at added m.own_cells (id - length own) (omega (arith, own_count, past, below)) ∙ ap Some e))

  pub order_long : length (order_of m) ≡ length (walk_order own) + added
  order_long = length-append (walk_order own) (range_with_len m.own_cells added) ∙ ap (λ n. length (walk_order own) + n) (length-range_with_len added m.own_cells)

  pub cell_added : (id place : ℕ) → length (walk_order own) ≤ place → place < length (order_of m) → id ≡ length own + (place - length (walk_order own)) → slice_get (order_of m) place ≡ Some id
  cell_added id place past below is =
      let e : length (walk_order own) + (place - length (walk_order own)) ≡ place = omega (arith, past) in
      let f : m.own_cells + (place - length (walk_order own)) ≡ id = omega (arith, own_count, is) in
      ap (slice_get (order_of m)) (sym e)
      ∙ (get_back (walk_order own) (range_with_len m.own_cells added) (place - length (walk_order own))
      ∙ (range_at added m.own_cells (place - length (walk_order own)) (omega (arith, order_long, past, below)) ∙ ap Some f))

  -- no cell stands twice
  pub order_once : IsDistinct nat_eq (order_of m)
  order_once = distinct_append (walk_order own) (range_with_len m.own_cells added) (walk_once own) (distinct_range added m.own_cells) (λ x among.
      false_from_ne_true (is_in (range_with_len m.own_cells added) x) (λ later.
      let low = walk_within own x among in
      let high = (in_range added m.own_cells x later).0 in
      omega (arith, low, high, own_count)))

  pub one_of_order : (i j k : ℕ) → slice_get (order_of m) i ≡ Some k → slice_get (order_of m) j ≡ Some k → i ≡ j
  one_of_order i j k at_i at_j = one_place (order_of m) i j k order_once at_i at_j

  pub few_cells : length m.circuit.cells ≤ length m.circuit.names
  few_cells =
      let count = length-le_from_distinct_below (cell_nets m.circuit) (length m.circuit.names) (distinct_cells m.circuit good.well_formed.driven) (λ x among. driver_within m.circuit good.well_formed.driven x (is_in_right (given_nets m.circuit) (cell_nets m.circuit) x among)) in
      omega (arith, count, length-map m.circuit.cells (λ (cell : LogicCell ℕ). cell.output))

  pub own_walk_long : length (walk_order own) ≤ length own
  own_walk_long = walk_long own

  -- the netlist's cells and their walk order are few
  pub own_few : length own ≤ length m.circuit.cells
  own_few = omega (arith, own_count, good.own_cells)

  pub cells_small : length m.circuit.cells ≤ MOST_NETS
  cells_small = omega (arith, few_cells, good.small)

  pub walk_small : length (walk_order own) ≤ MOST_NETS
  walk_small = omega (arith, own_walk_long, own_few, cells_small)

  -- a machine is wired in its walk order
  pub machine_wired : IsNetlist (own_netlist m) → IsWired m.circuit (order_of m)
  machine_wired netlist = record { well_formed = good.well_formed; walk = good.walk; once = order_once; rises = data_rises (own_netlist m) netlist.in_order }

-- how many logic cells a machine has
pub kept_cells : (c : Circuit) (prefix : List ℕ) (es : List (Option ℕ)) (gs : List AddedGate) (ds : List (ℕ × ℕ)) → length (c.cells ++ map gate_cell gs) ≡ length c.cells + length gs
kept_cells c prefix es gs ds = omega (arith, length-append c.cells (map gate_cell gs), length-map gs gate_cell)
