-- What a walk needs of the logic cells of a netlist.
use Rattle.std.proofs.Common.{◌≡◌, ℕ, zero, suc, ◌<◌, ◌≤◌, Bool, true, false, cond, List, [], ◌∷◌, length, nat_eq, slice_get, Some}
use Rattle.std.proofs.Common.{refl, ap, inl, inr, arith}
use Rattle.std.specs.List.{All, filter, flat_map, range_with_len}
use Rattle.std.proofs.lemmas.Bool.{both_ways, or_cases, or_left, or_right}
use Rattle.std.proofs.lemmas.Option.{none-some, same_Some}
use Rattle.cg_netlist.specs.Circuit.{Circuit, LogicCell, cell_nets, given_nets, used_nets}
use Rattle.cg_net.specs.NetSets.{is_in}
use Rattle.cg_netlist.specs.Netlist.{IsNetlist, widest_of}
use Rattle.cg_netlist.specs.Nets.{has_rank, walk_order}
use Rattle.cg_netlist.proofs.Driven.{in_range}
use Rattle.cg_netlist.proofs.Given.{driver_within}
use Rattle.cg_net.proofs.Members.{All-from_members, All-member, is_in_cases, is_in_right, member_at}
use Rattle.cg_netlist.proofs.Used.{input_is_used}
use Rattle.cg_netlist.proofs.Values.{at_map}

pub from_filter : (test : ℕ → Bool) (xs : List ℕ) (x : ℕ) → is_in (filter test xs) x ≡ true → is_in xs x ≡ true
from_filter test [] x among = among
from_filter test (y ∷ xs) x among = go (from_filter test xs x) (test y) among
  where
    go : (is_in (filter test xs) x ≡ true → is_in xs x ≡ true) → (b : Bool) → is_in (cond b (y ∷ filter test xs) (filter test xs)) x ≡ true → is_in (y ∷ xs) x ≡ true
    go later true inside = elim (or_cases (nat_eq x y) (is_in (filter test xs) x) inside) [ inl here ↦ or_left (nat_eq x y) (is_in xs x) here | inr there ↦ or_right (nat_eq x y) (is_in xs x) (later there) ]
    go later false inside = or_right (nat_eq x y) (is_in xs x) (later inside)

from_each : (f : ℕ → List ℕ) (n : ℕ) → ((a x : ℕ) → is_in (f a) x ≡ true → x < n) → (xs : List ℕ) (x : ℕ) → is_in (flat_map f xs) x ≡ true → x < n
from_each f n small [] x among = absurd (both_ways false refl among)
from_each f n small (a ∷ xs) x among = elim (is_in_cases (f a) (flat_map f xs) x among) [ inl here ↦ small a x here | inr there ↦ from_each f n small xs x there ]

-- walk order names cells that are there
pub walk_within : (cells : List (LogicCell ℕ)) (k : ℕ) → is_in (walk_order cells) k ≡ true → k < length cells
walk_within cells k among =
    from_each (λ rank. filter (has_rank cells rank) (range_with_len 0 (length cells))) (length cells)
    (λ a x inside. let w = in_range (length cells) 0 x (from_filter (has_rank cells a) (range_with_len 0 (length cells)) x inside) in omega (arith, w.1))
    (range_with_len 0 (length cells)) k among

pub widest_at : (cells : List (LogicCell ℕ)) (k : ℕ) (cell : LogicCell ℕ) → slice_get cells k ≡ Some cell → length cell.inputs ≤ widest_of cells
widest_at [] k cell at = absurd (none-some cell at)
widest_at (d ∷ cells) zero cell at = let same : d ≡ cell = same_Some d cell at in omega (arith, ap (λ (x : LogicCell ℕ). length x.inputs) same)
widest_at (d ∷ cells) (suc k) cell at = omega (arith, widest_at cells k cell at)

-- the nets of a logic cell are there, and its inputs are no more than the widest cell's
pub record CellFits (c : Circuit) (cell : LogicCell ℕ) : Type 0 where
  pub inputs : All (λ net. net < length c.names) cell.inputs
  pub output : cell.output < length c.names
  pub wide : length cell.inputs ≤ widest_of c.cells

pub cell_fits : (c : Circuit) → IsNetlist c → (k : ℕ) (cell : LogicCell ℕ) → slice_get c.cells k ≡ Some cell → CellFits c cell
cell_fits c good k cell at = record {
  inputs = All-from_members (λ net. net < length c.names) cell.inputs (λ net among. All-member (λ x. x < length c.names) (used_nets c) net good.well_formed.used (input_is_used c k net cell at among));
  output = driver_within c good.well_formed.driven cell.output (is_in_right (given_nets c) (cell_nets c) cell.output (member_at (cell_nets c) k cell.output (at_map (λ (x : LogicCell ℕ). x.output) c.cells k cell at)));
  wide = widest_at c.cells k cell at;
}
