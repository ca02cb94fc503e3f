-- The logic cells as they are laid out for a quick look.
use Rattle.std.specs.Prelude.{◌≡◌, ◌≤◌, ℕ, ◌+◌, ◌*◌, ◌++◌, Bool, List, [], ◌∷◌, drop, length, slice_get, take, Some}
use Rattle.std.specs.Int.{bit_at}
use Rattle.cg_cell.specs.Bits.{one_if}
use Rattle.cg_netlist.specs.declared.parts.LogicFunction.{LogicFunction}
use Rattle.cg_netlist.specs.Circuit.{Circuit, LogicCell}
use Rattle.cg_netlist.specs.Moment.{function_value}
use Rattle.cg_edge.specs.declared.flat.FlatCell.{FlatCell}

-- the row of a truth table at which some bits stand, the first of them the lowest of the row's number
abbrev pub row_of : List Bool → ℕ
row_of [] = 0
row_of (b ∷ bits) = one_if b + 2 * row_of bits

-- a truth table of a function of n bits: each row's bit is the function's value at the bits that stand there
abbrev pub IsTruthTable : LogicFunction → ℕ → ℕ → Type 0
IsTruthTable function n table = (bits : List Bool) → length bits ≡ n →
    bit_at table (row_of bits) ≡ one_if (function_value function bits)

-- the cells that are laid out, and the inputs of one behind those of the other
pub record Layout : Type 0 where
  pub cells : List FlatCell
  pub inputs : List ℕ

-- a logic cell is laid out, with a table where it has few inputs
pub record IsLaid (all : List ℕ) (laid : FlatCell) (cell : LogicCell ℕ) : Type 0 where
  pub output : laid.output ≡ cell.output
  pub count : laid.count ≡ length cell.inputs
  pub within : laid.first + laid.count ≤ length all
  pub inputs : take laid.count (drop laid.first all) ≡ cell.inputs
  pub table : length cell.inputs ≤ 6 → IsTruthTable cell.function (length cell.inputs) laid.table

-- the k-th logic cell is laid out at the place p
abbrev pub IsLaidAt : Circuit → ℕ → Layout → ℕ → Type 0
IsLaidAt c k layout p = (laid : FlatCell) (cell : LogicCell ℕ) → slice_get layout.cells p ≡ Some laid →
    slice_get c.cells k ≡ Some cell → IsLaid layout.inputs laid cell

-- the cells at the places below n of an order are laid out, in that order
pub record AreLaid (c : Circuit) (order : List ℕ) (n : ℕ) (layout : Layout) : Type 0 where
  pub long : length layout.cells ≡ n
  pub laid : (p k : ℕ) → slice_get order p ≡ Some k → IsLaidAt c k layout p

-- a logic cell was laid out behind the others
pub record IsPushed (cell : LogicCell ℕ) (old new : Layout) : Type 0 where
  pub laid : FlatCell
  pub cells : new.cells ≡ old.cells ++ laid ∷ []
  pub inputs : new.inputs ≡ old.inputs ++ cell.inputs
  pub is : IsLaid new.inputs laid cell
