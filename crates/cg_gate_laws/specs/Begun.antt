-- The machine with which a plan begins: that of a netlist, to whose enables its own gating cells are lifted, as hints leave it.
use Rattle.std.specs.Prelude.{ℕ, List, map, Result, Ok, Err}
use Rattle.cg_cell.specs.Cell.{CellData}
use Rattle.cg_extract.specs.Lifted.{lifted, number_of}
use Rattle.cg_hint_laws.specs.Trying.{Hinted, hinted}
use Rattle.cg_hint_laws.specs.declared.hint.Hint.{Hint}
use Rattle.cg_machine.specs.Claims.{Literal}
use Rattle.cg_machine.specs.Machine.{MachineData}
use Rattle.cg_netlist.specs.Circuit.{Circuit}
use Rattle.cg_netlist.specs.declared.fault.AddFault.{AddFault}

-- a hint of a netlist as one of its machine: each net of its condition has there the number that it has among the nets that are kept;
-- registers keep their numbers
abbrev pub renamed_literal : Circuit → Literal → Literal
renamed_literal c l = (number_of c l.0, l.1)

abbrev pub renamed : Circuit → Hint → Hint
renamed c h = record { regs = h.regs; terms = map (map (renamed_literal c)) h.terms; after = h.after }

-- hints of a netlist, tried one after another on its machine; the first limit that is passed ends it
abbrev pub hinted_by : List CellData → ℕ → List ℕ → List Hint → Circuit → Result Hinted AddFault
hinted_by library width prefix hints c = hinted library width (lifted c prefix) (map (renamed c) hints)

-- the machine that they leave; where a limit ends it, the one that is given
abbrev pub left_by : MachineData → Result Hinted AddFault → MachineData
left_by m (Ok done) = done.machine
left_by m (Err fault) = m

abbrev pub begun_by : List CellData → ℕ → List ℕ → List Hint → Circuit → MachineData
begun_by library width prefix hints c = left_by (lifted c prefix) (hinted_by library width prefix hints c)
