-- The logic cells in walk order, each at its place.
use Rattle.std.proofs.Common.{◌≡◌, ℕ, zero, suc, ◌+◌, ◌<◌, ◌≤◌, inl, inr, true, false, List, [], ◌∷◌, length, slice_get}
use Rattle.std.proofs.Common.{get_or, Some, refl, sym, ◌∙◌, ap, subst, arith}
use Rattle.std.specs.List.{All, filter, flat_map, range_with_len}
use Rattle.std.proofs.lemmas.Bool.{both_ways, false_from_ne_true}
use Rattle.std.proofs.lemmas.Option.{same_Some}
use Rattle.cg_netlist.specs.Circuit.{Circuit, LogicCell, cell_nets}
use Rattle.cg_net.specs.NetSets.{is_in}
use Rattle.cg_netlist.specs.Nets.{IsOrdered, IsWalk, has_rank, outputs, walk_order}
use Rattle.cg_netlist.specs.WellFormed.{IsWellFormed}
use Rattle.cg_netlist.proofs.Driven.{in_range}
use Rattle.cg_netlist.proofs.Given.{distinct_cells}
use Rattle.cg_net.proofs.Members.{All-from_members, is_in_cases, member_at, one_place}
use Rattle.cg_netlist.proofs.Values.{at_map, length-values_at, value_at}
use Rattle.cg_netlist.proofs.WalkOrder.{walk_is}
use Rattle.cg_edge.specs.inner.Keeping.{walk_of}
use Rattle.cg_netlist.proofs.CellFits.{from_filter}

each_in : (f : ℕ → List ℕ) (xs : List ℕ) (y : ℕ) → is_in (flat_map f xs) y ≡ true → (x : ℕ) × (is_in (f x) y ≡ true)
each_in f [] y among = absurd (both_ways false refl among)
each_in f (x ∷ xs) y among = elim (is_in_cases (f x) (flat_map f xs) y among) [ inl here ↦ (x, here) | inr later ↦ each_in f xs y later ]

-- walk order has numbers of cells alone
pub walk_within : (cells : List (LogicCell ℕ)) → All (λ k. k < length cells) (walk_order cells)
walk_within cells = All-from_members (λ k. k < length cells) (walk_order cells) (λ k among.
    let numbers = range_with_len 0 (length cells) in
    let found : (r : ℕ) × (is_in (filter (has_rank cells r) numbers) k ≡ true) = each_in (λ r. filter (has_rank cells r) numbers) numbers k among in
    let range : (0 ≤ k) × (k < 0 + length cells) = in_range (length cells) 0 k (from_filter (has_rank cells found.0) numbers k found.1) in
    let below : k < 0 + length cells = range.1 in
    omega arith)

-- no input of a cell is driven by itself or by one behind it
pub ordered_at : (walk : List (LogicCell ℕ)) (q i : ℕ) (a b : LogicCell ℕ) → IsOrdered walk → q ≤ i → slice_get walk q ≡ Some a → slice_get walk i ≡ Some b → is_in a.inputs b.output ≡ false
ordered_at [] q i a b ordered below here there = absurd (cc)
ordered_at (cell ∷ walk) zero i a b ordered below here there =
    let same : cell ≡ a = same_Some cell a here in
    subst (λ (x : LogicCell ℕ). is_in x.inputs b.output ≡ false) same
    (false_from_ne_true (is_in cell.inputs b.output) (λ input. both_ways (is_in (outputs (cell ∷ walk)) b.output) (ordered.0 b.output input) (member_at (outputs (cell ∷ walk)) i b.output (at_map (λ (x : LogicCell ℕ). x.output) (cell ∷ walk) i b there))))
ordered_at (cell ∷ walk) (suc q) zero a b ordered below here there = absurd (omega arith)
ordered_at (cell ∷ walk) (suc q) (suc i) a b ordered below here there = ordered_at walk q i a b ordered.1 (omega arith) here there

module _ (c : Circuit) (good : IsWellFormed c) where
  pub walked : IsWalk c.cells (walk_of c)
  walked = walk_is c.cells good.ranks good.ranked (distinct_cells c good.driven)

  pub walk_long : length (walk_of c) ≡ length (walk_order c.cells)
  walk_long = length-values_at c.cells (walk_order c.cells) (walk_within c.cells)

  -- the cell at a place
  pub walk_at : (order : List ℕ) → order ≡ walk_order c.cells → (p k : ℕ) → slice_get order p ≡ Some k → slice_get (walk_of c) p ≡ slice_get c.cells k
  walk_at order is p k at = value_at c.cells (walk_order c.cells) p k (walk_within c.cells) (ap (λ ks. slice_get ks p) (sym is) ∙ at)

  -- cells of one output are one cell
  pub one_cell : (p q : ℕ) (a b : LogicCell ℕ) → slice_get (walk_of c) p ≡ Some a → slice_get (walk_of c) q ≡ Some b → a.output ≡ b.output → a ≡ b
  one_cell p q a b here there same =
      let k = walked.of_cells p a here in
      let l = walked.of_cells q b there in
      let place : k.0 ≡ l.0 = one_place (cell_nets c) k.0 l.0 a.output (distinct_cells c good.driven) (at_map (λ (x : LogicCell ℕ). x.output) c.cells k.0 a k.1) (at_map (λ (x : LogicCell ℕ). x.output) c.cells l.0 b l.1 ∙ ap (λ x. Some x) (sym same)) in
      same_Some a b (sym k.1 ∙ (ap (slice_get c.cells) place ∙ l.1))

pub order_within : (cells : List (LogicCell ℕ)) (order : List ℕ) → order ≡ walk_order cells → (i x : ℕ) → x ≡ get_or order i x → i < length order → x < length cells
order_within cells order is i x at below =
    let small = walk_within cells i x (let long = ap length is in omega (arith, below, long)) in
    let same : x ≡ get_or (walk_order cells) i x = at ∙ ap (λ ks. get_or ks i x) is in
    omega (arith, small, same)
