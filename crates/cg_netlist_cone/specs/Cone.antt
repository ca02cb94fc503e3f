-- The cone of nets: the nets from which logic cells lead to one of them, and what stands there.
use Rattle.std.specs.Prelude.{◌≡◌, ℕ, Bool, true, false, if◌then◌else◌, List, [], ◌∷◌, ◌++◌, length, slice_get, Some}
use Rattle.std.specs.List.{filter, list_any, range_with_len}
use Rattle.std.specs.Option.{option_map_or}
use Rattle.cg_netlist.specs.Circuit.{Circuit, LogicCell, data_inputs, shown_nets}
use Rattle.cg_net.specs.NetSets.{is_in}
use Rattle.cg_netlist.specs.Moment.{values_at}
use Rattle.cg_netlist_cone.specs.declared.cone.Cone.{Cone}

-- cells lead from net y to a net
pub data Reaches (cells : List (LogicCell ℕ)) (y : ℕ) : ℕ → Type 0 where
  here : Reaches cells y y
  through : (k : ℕ) (cell : LogicCell ℕ) (z : ℕ) → slice_get cells k ≡ Some cell → is_in cell.inputs z ≡ true → Reaches cells y z →
      Reaches cells y cell.output

-- net y is in the cone of one of the roots
pub record IsInCone (cells : List (LogicCell ℕ)) (roots : List ℕ) (y : ℕ) : Type 0 where
  pub root : ℕ
  pub among : is_in roots root ≡ true
  pub reaches : Reaches cells y root

-- the nets of a cone: the roots, and with the output of a cell its inputs. The cells stand in walk order, and the last
-- are looked at first.
abbrev pub cone_of : List (LogicCell ℕ) → List ℕ → List ℕ
cone_of [] nets = nets
cone_of (cell ∷ cells) nets = let later = cone_of cells nets in if is_in later cell.output then later ++ cell.inputs else later

-- whether a logic cell has its output, a register shows its bit at one of these nets
abbrev pub cell_feeds : Circuit → List ℕ → ℕ → Bool
cell_feeds c nets k = option_map_or (λ cell. is_in nets cell.output) (slice_get c.cells k) false

abbrev pub register_feeds : Circuit → List ℕ → ℕ → Bool
register_feeds c nets r = option_map_or (λ cell. list_any (is_in nets) (shown_nets cell)) (slice_get c.registers r) false

-- what stands in the cone of these nets, where the logic cells are walked in this order: the cells in that order, the data
-- inputs and the registers in theirs
abbrev pub cone_at : Circuit → List ℕ → List ℕ → Cone
cone_at c order roots =
    let nets = cone_of (values_at c.cells order) roots in
    record {
      cells = filter (cell_feeds c nets) order;
      inputs = filter (is_in nets) (data_inputs c);
      registers = filter (register_feeds c nets) (range_with_len 0 (length c.registers));
    }
