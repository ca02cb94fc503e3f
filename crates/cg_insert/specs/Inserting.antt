-- What inserting answers, and what it promises of the netlist that it answers.
use Rattle.std.specs.Prelude.{Bool, List, nat_eq, Option, Some, None, Result, Ok, Err, ℕ}
use Rattle.std.specs.List.{IsDistinct}
use Rattle.cg_cell.specs.Cell.{CellData}
use Rattle.cg_limit.specs.declared.Limit.{Limit}
use Rattle.cg_machine.specs.Added.{own_netlist}
use Rattle.cg_machine.specs.Machine.{IsState, MachineData}
use Rattle.cg_netlist.specs.Circuit.{Circuit}
use Rattle.cg_netlist.specs.History.{IsLawful, IsWaveform, Moment, Tick}
use Rattle.cg_netlist.specs.Netlist.{IsNetlist}
use Rattle.cg_netlist.specs.declared.fault.AddFault.{AddFault}
use Rattle.cg_netlist.specs.declared.fault.AddFault.TheVariants.{Limit as LimitFault}
use Rattle.cg_netlist_parts.specs.Writable.{IsPlaceable, IsWritable}
use Rattle.cg_insert.specs.Insert.{inserted, insertion_limit}
use Rattle.cg_insert.specs.Insertion.{IsRunOf}

-- the inserted netlist, or the limit that is passed
abbrev pub unless_passed : Option Limit → Circuit → Result Circuit AddFault
unless_passed None c = Ok c
unless_passed (Some limit) c = Err (LimitFault limit)

abbrev pub insertion : List CellData → Option (List ℕ) → MachineData → Result Circuit AddFault
insertion library test m = unless_passed (insertion_limit test m) (inserted library test m)

-- it is a netlist, and no output stands twice
pub record IsWhole (c : Circuit) : Type 0 where
  pub netlist : IsNetlist c
  pub outputs_once : IsDistinct nat_eq c.outputs

-- each lawful history of it is the machine's run, or its test run over the bits of the test input, from the same start
abbrev pub RunsAs : List CellData → Option (List ℕ) → MachineData → Circuit → Type 0
RunsAs library test m c = (start : List Bool) (wave : List Tick) (history : List Moment) → IsState m start → IsWaveform c wave →
    IsLawful c start wave history → IsRunOf library test m start wave history

-- it is writable with the library if the machine's own netlist is placeable
abbrev pub StaysWritable : List CellData → MachineData → Circuit → Type 0
StaysWritable library m c = IsPlaceable library (own_netlist m) → IsWritable library c
