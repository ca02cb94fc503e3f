-- Netlists whose parts can be placed with the cells of a library, and those among them that a text of lines can say.
use Rattle.std.specs.Prelude.{◌≡◌, ◌≢◌, ◌≤◌, ◌&&◌, ℕ, Bool, true, false, List, length, nat_eq, codes, Option, Some}
use Rattle.std.specs.List.{All, IsDistinct, find}
use Rattle.std.specs.Str.{bytes_eq}
use Rattle.cg_cell.specs.Cell.{CellData}
use Rattle.cg_limit.specs.declared.TheConstants.{MOST_COVER_INPUTS}
use Rattle.cg_netlist.specs.declared.parts.LogicFunction.{LogicFunction}
use Rattle.cg_netlist.specs.declared.parts.LogicFunction.TheVariants.{Cover, Cell}
use Rattle.cg_netlist.specs.declared.parts.RegisterKind.{RegisterKind}
use Rattle.cg_netlist.specs.declared.parts.RegisterKind.TheVariants.{Plain, Flop}
use Rattle.cg_netlist.specs.Circuit.{Circuit, RegisterCell, gater_outputs}
use Rattle.cg_net.specs.NetSets.{is_in}
use Rattle.cg_netlist.specs.Netlist.{IsNetlist}
use Rattle.cg_netlist_parts.specs.Part.{Part, Logic, GaterPart, Register}
use Rattle.cg_netlist_parts.specs.Says.{parts_from}
use Rattle.cg_net.specs.Names.{NetName, net_name}
use Rattle.cg_netlist.specs.Wiring.{named}

-- the cell that a library has under a name, if it has one
abbrev pub cell_named : List CellData → List ℕ → Option CellData
cell_named library name = find (λ cell. bytes_eq name cell.name) library

-- the library has this cell under its name
abbrev pub IsOf : List CellData → CellData → Type 0
IsOf library cell = cell_named library cell.name ≡ Some cell

-- a function is a cover of at most 256 inputs, or a cell of the library
abbrev pub FunctionIsOf : List CellData → ℕ → LogicFunction → Type 0
FunctionIsOf library inputs (Cover cover) = inputs ≤ MOST_COVER_INPUTS
FunctionIsOf library inputs (Cell cell) = IsOf library cell

-- a register is plain, or is a cell of the library and has the init 3, which is "not known"
abbrev pub KindIsOf : List CellData → ℕ → RegisterKind → Type 0
KindIsOf library init Plain = Unit {0}
KindIsOf library init (Flop cell) = IsOf library cell × (init ≡ 3)

-- at the clock pin of a plain register the word `NIL` stands for the clock of the netlist, and names no net
abbrev pub NIL : NetName
NIL = codes "NIL"

-- whether a register is plain
abbrev pub is_plain : RegisterKind → Bool
is_plain Plain = true
is_plain (Flop cell) = false

-- whether a register is a plain one whose clock net has the name `NIL`: a line that says it names no clock net
abbrev pub is_on_nil : RegisterCell NetName NetName → Bool
is_on_nil r = is_plain r.kind && bytes_eq r.clock NIL

-- the parts that lines say of a netlist: its own, but that a plain register on a net called `NIL` leaves its clock out
abbrev pub line_parts : Circuit → List Part
line_parts c = parts_from is_on_nil (named c)

-- a part that can be placed: each input, output and clock; a logic cell that is a cover of at most 256 inputs or a cell of the
-- library; a gating cell of the library; a plain register, or one of the library with the init 3
abbrev pub IsPlaceablePart : List CellData → Part → Type 0
IsPlaceablePart library (Logic cell) = FunctionIsOf library (length cell.inputs) cell.function
IsPlaceablePart library (GaterPart gater) = IsOf library gater.cell
IsPlaceablePart library (Register r) = KindIsOf library r.init r.kind
IsPlaceablePart library part = Unit {0}

-- a part that a line can say: one that can be placed, and is no plain register whose clock is called `NIL`
abbrev pub IsLine : List CellData → Part → Type 0
IsLine library (Register r) = IsPlaceablePart library (Register r) × (r.kind ≡ Plain → r.clock ≢ Some NIL)
IsLine library part = IsPlaceablePart library part

-- A netlist is placeable: it is well formed, in net order and within the limits, no net is an output twice, each cover has at
-- most 256 inputs, each placed cell is the library's of its name, and each register of a library has the init 3.
pub record IsPlaceable (library : List CellData) (c : Circuit) : Type 0 where
  pub netlist : IsNetlist c
  pub outputs_once : IsDistinct nat_eq c.outputs
  pub functions : All (λ cell. FunctionIsOf library (length cell.inputs) cell.function) c.cells
  pub gating : All (λ gater. IsOf library gater.cell) c.gaters
  pub kinds : All (λ register. KindIsOf library register.init register.kind) c.registers

-- A netlist is writable: it is placeable, and no gating cell's output with the name `NIL` is the clock of a plain register, of
-- which no line could say so.
pub record IsWritable (library : List CellData) (c : Circuit) : Type 0 where
  pub placeable : IsPlaceable library c
  pub clocks : All
      (λ register. register.kind ≡ Plain → is_in (gater_outputs c) register.clock ≡ true →
      net_name c.names register.clock ≢ NIL) c.registers
