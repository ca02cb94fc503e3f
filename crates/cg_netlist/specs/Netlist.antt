-- What is true of every netlist that the program holds.
use Rattle.std.specs.Prelude.{ℕ, ◌<◌, ◌≤◌, ◌^◌, max, List, [], ◌∷◌, length}
use Rattle.std.specs.List.{All}
use Rattle.cg_limit.specs.declared.TheConstants.{MOST_NETS, MOST_REGISTERS}
use Rattle.cg_netlist.specs.Circuit.{Circuit, LogicCell}
use Rattle.cg_netlist.specs.WellFormed.{IsWellFormed, IsInNetOrder}

-- the greatest number of inputs of a logic cell
abbrev pub widest_of : List (LogicCell ℕ) → ℕ
widest_of [] = 0
widest_of (cell ∷ cells) = max (length cell.inputs) (widest_of cells)

-- well formed, in net order, and within the limits on nets, on registers and on the inputs of a logic cell
pub record IsNetlist (c : Circuit) : Type 0 where
  pub well_formed : IsWellFormed c
  pub in_order : IsInNetOrder c
  pub nets : length c.names ≤ MOST_NETS
  pub registers : length c.registers ≤ MOST_REGISTERS
  pub inputs : All (λ cell. length cell.inputs < 2 ^ 32) c.cells
