-- Chains of gating cells: the clock pin of a gating cell is on the clock, or on the output of another gating cell.
use Rattle.std.specs.Prelude.{ℕ, List, [], ◌∷◌, map}
use Rattle.cg_netlist.specs.Circuit.{GatingCell, LogicCell}
use Rattle.cg_netlist.specs.Nets.{walk_order}
use Rattle.cg_netlist.specs.declared.parts.LogicFunction.TheVariants.{Cell}

-- a gating cell as a cell over its clock pin alone
abbrev pub chain_cell : GatingCell ℕ → LogicCell ℕ
chain_cell gater = record { inputs = gater.clock ∷ []; output = gater.output; function = Cell gater.cell }

abbrev pub chain : List (GatingCell ℕ) → List (LogicCell ℕ)
chain gaters = map chain_cell gaters

-- the gating cells along their chains: rank by rank, where one has a rank above that of the one that drives its clock
-- pin, and those of one rank by number
abbrev pub gater_order : List (GatingCell ℕ) → List ℕ
gater_order gaters = walk_order (chain gaters)
