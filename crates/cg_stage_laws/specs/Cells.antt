-- A library has the cells that a machine asks for.
use Rattle.std.specs.Prelude.{◌≡◌, ℕ, Bool, List, Some}
use Rattle.std.specs.List.{All, find}
use Rattle.cg_cell.specs.Cell.{CellData}
use Rattle.cg_cell.specs.Fit.{is_fit}
use Rattle.cg_cell.specs.declared.fit.FitKind.{FitKind}
use Rattle.cg_machine.specs.Gates.{AddedGate}
use Rattle.cg_machine.specs.Machine.{MachineData, enable_of}
use Rattle.cg_stage_laws.specs.Needs.{gater_kind}

-- a library has a cell of a kind
abbrev pub HasCell : List CellData → FitKind → Type 0
HasCell library kind = (cell : CellData) × (find (is_fit kind) library ≡ Some cell)

-- a library has a cell for each added gate of a machine, and a gating cell, with a test input where there is to be one, where a
-- register has an enable
pub record HasCells (library : List CellData) (test : Bool) (m : MachineData) : Type 0 where
  pub gates : All (λ (gate : AddedGate). HasCell library gate.kind) m.gates
  pub gater : (r e : ℕ) → enable_of m r ≡ Some e → HasCell library (gater_kind test)
