-- Nets that a walk back from some nets has found, and what drives them.
use Rattle.std.specs.Prelude.{◌≡◌, ℕ, ◌<◌, Bool, true, false, ◌&&◌, List, length, slice_get, take, nat_eq, Some}
use Rattle.std.specs.List.{IsDistinct, list_any}
use Rattle.std.specs.Option.{option_map_or}
use Rattle.cg_netlist.specs.Circuit.{Circuit, LogicCell, data_inputs, shown_nets}
use Rattle.cg_net.specs.NetSets.{is_in}
use Rattle.cg_netlist_cone.specs.Cone.{IsInCone}
use Rattle.cg_netlist.specs.Moment.{values_at}
use Rattle.cg_netlist.specs.Nets.{IsWalk}
use Rattle.cg_netlist.specs.WellFormed.{IsWellFormed}
use Rattle.cg_netlist.specs.inner.Rising.{Rises}

-- the roots were found, only nets of their cone were, and with the output of a cell among the first `next` its inputs
pub record IsReached (c : Circuit) (roots : List ℕ) (next : ℕ) (found : List ℕ) : Type 0 where
  pub within : (y : ℕ) → is_in found y ≡ true → y < length c.names
  pub starts : (y : ℕ) → is_in roots y ≡ true → is_in found y ≡ true
  pub only : (y : ℕ) → is_in found y ≡ true → IsInCone c.cells roots y
  pub closed : (k : ℕ) (cell : LogicCell ℕ) → slice_get c.cells k ≡ Some cell → is_in (take next found) cell.output ≡ true
      → (x : ℕ) → is_in cell.inputs x ≡ true → is_in found x ≡ true

-- the cell at place p of an order has net y as its output; register r shows its bit at net y
abbrev pub cell_shows : Circuit → List ℕ → ℕ → ℕ → Bool
cell_shows c order p y =
    option_map_or (λ k. option_map_or (λ cell. nat_eq cell.output y) (slice_get c.cells k) false) (slice_get order p) false

abbrev pub register_shows : Circuit → ℕ → ℕ → Bool
register_shows c r y = option_map_or (λ cell. is_in (shown_nets cell) y) (slice_get c.registers r) false

-- what drives these nets: the places of the cells in an order, the data inputs, and the registers
pub record IsEdge (c : Circuit) (order nets : List ℕ) (cells inputs registers : List ℕ) : Type 0 where
  pub cells_are : (p : ℕ) → is_in cells p ≡ list_any (cell_shows c order p) nets
  pub inputs_are : (y : ℕ) → is_in inputs y ≡ (is_in nets y && is_in (data_inputs c) y)
  pub registers_are : (r : ℕ) → is_in registers r ≡ list_any (register_shows c r) nets

-- the nets have one driver each, the cells stand once in walk order, and the data inputs rise
pub record IsWired (c : Circuit) (order : List ℕ) : Type 0 where
  pub well_formed : IsWellFormed c
  pub walk : IsWalk c.cells (values_at c.cells order)
  pub once : IsDistinct nat_eq order
  pub rises : Rises 0 (data_inputs c)
