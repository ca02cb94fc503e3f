-- What is true of placed cells and of the parts that they are.
use Rattle.std.specs.Prelude.{◌≡◌, ℕ, false, List, Option, None, Some, Ok}
use Rattle.std.specs.List.{AllByRecursion}
use Rattle.cg_cell.specs.Cell.{CellData, IsCell}
use Rattle.cg_netlist.specs.Circuit.{GatingCell, LogicCell, RegisterCell}
use Rattle.cg_netlist.specs.declared.parts.LogicFunction.{LogicFunction}
use Rattle.cg_netlist.specs.declared.parts.LogicFunction.TheVariants.{Cover, Cell}
use Rattle.cg_netlist.specs.declared.parts.RegisterKind.{RegisterKind}
use Rattle.cg_netlist.specs.declared.parts.RegisterKind.TheVariants.{Plain, Flop}
use Rattle.cg_netlist_parts.specs.Part.{GaterPart, Logic, Part, Register}
use Rattle.cg_netlist_parts.specs.Says.{IsPart, register_part}
use Rattle.cg_netlist_parts.specs.Writable.{IsPlaceablePart, cell_named}
use Rattle.cg_net.specs.Names.{NetName}
use Rattle.cg_netlist_placed.specs.PinNets.{PinNet}
use Rattle.cg_netlist_placed.specs.PinsOf.{flop_pins, gater_pins, logic_pins}
use Rattle.cg_netlist_placed.specs.Placed.{placed_by}

-- the cell of a part, if it is a placed cell
abbrev pub function_cell : LogicFunction → Option CellData
function_cell (Cover cover) = None
function_cell (Cell cell) = Some cell

abbrev pub kind_cell : RegisterKind → Option CellData
kind_cell Plain = None
kind_cell (Flop cell) = Some cell

abbrev pub part_cell : Part → Option CellData
part_cell (Logic logic) = function_cell logic.function
part_cell (GaterPart gater) = Some gater.cell
part_cell (Register register) = kind_cell register.kind
part_cell part = None

-- a placed cell of a library is such a part of this cell as a builder takes, and as can be placed with the library
pub record IsPartOf (library : List CellData) (name : List ℕ) (part : Part) : Type 0 where
  pub cell : CellData
  pub found : cell_named library name ≡ Some cell
  pub of_cell : part_cell part ≡ Some cell
  pub is_part : IsPart part
  pub placeable : IsPlaceablePart library part

abbrev pub PlacedFits : Type 0
PlacedFits =
    (library : List CellData) (name : List ℕ) (pins : List PinNet) (part : Part) → AllByRecursion IsCell library →
    placed_by (cell_named library name) pins ≡ Ok part → IsPartOf library name part

-- a register as a part that names its clock
abbrev pub clocked_part : RegisterCell NetName NetName → Part
clocked_part register = register_part (λ r. false) register

-- a logic cell, a gating cell and a register of a library is placed by the pins with its nets
abbrev pub LogicIsPlaced : Type 0
LogicIsPlaced =
    (library : List CellData) (cell : CellData) (logic : LogicCell NetName) → logic.function ≡ Cell cell → IsPart (Logic logic) →
    IsPlaceablePart library (Logic logic)
    → placed_by (cell_named library cell.name) (logic_pins cell logic) ≡ Ok (Logic logic)

abbrev pub GaterIsPlaced : Type 0
GaterIsPlaced =
    (library : List CellData) (gater : GatingCell NetName) → IsPart (GaterPart gater) → IsPlaceablePart library (GaterPart gater)
    → placed_by (cell_named library gater.cell.name) (gater_pins gater) ≡ Ok (GaterPart gater)

abbrev pub FlopIsPlaced : Type 0
FlopIsPlaced =
    (library : List CellData) (cell : CellData) (register : RegisterCell NetName NetName) → register.kind ≡ Flop cell →
    IsPart (clocked_part register) → IsPlaceablePart library (clocked_part register)
    → placed_by (cell_named library cell.name) (flop_pins cell register) ≡ Ok (clocked_part register)
