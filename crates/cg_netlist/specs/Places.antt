-- Logic cells over so many nets.
use Rattle.std.specs.Prelude.{ℕ, ◌<◌}
use Rattle.std.specs.List.{AllByRecursion}
use Rattle.cg_netlist.specs.Circuit.{LogicCell}

-- the nets of a logic cell are among the first m
pub record CellWithin (m : ℕ) (cell : LogicCell ℕ) : Type 0 where
  pub inputs : AllByRecursion (λ net. net < m) cell.inputs
  pub output : cell.output < m
