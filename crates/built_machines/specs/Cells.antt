-- Cells that a library has.
use Rattle.std.specs.Prelude.{◌≡◌, List, Some}
use Rattle.std.specs.List.{All, find}
use Rattle.cg_cell.specs.Cell.{CellData}
use Rattle.cg_cell.specs.Fit.{is_fit}
use Rattle.cg_cell.specs.declared.fit.FitKind.{FitKind}
use Rattle.cg_machine.specs.Gates.{AddedGate}

-- the library has a cell of a kind
abbrev pub HasCell : List CellData → FitKind → Type 0
HasCell library kind = (cell : CellData) × (find (is_fit kind) library ≡ Some cell)

-- and one for each of these added gates
pub record HaveCells (library : List CellData) (gates : List AddedGate) : Type 0 where
  pub each : All (λ (gate : AddedGate). HasCell library gate.kind) gates
