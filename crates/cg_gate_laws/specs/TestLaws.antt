-- What is proved of plans that are made for gating cells with a test input.
use Rattle.std.specs.Prelude.{◌≡◌, ◌<◌, ℕ, Bool, true, List, length, slice_get, Option, None, Some}
use Rattle.cg_cell.specs.Cell.{CellData}
use Rattle.cg_netlist.specs.Circuit.{Circuit, RegisterCell}
use Rattle.cg_netlist.specs.History.{AreTicks, IsLawful, IsStart, IsWaveform, Moment, next_value, outputs_of}
use Rattle.cg_netlist.specs.Moment.{bit, values_at}
use Rattle.cg_machine.specs.Machine.{IsMachine, MachineData, enable_of, values}
use Rattle.cg_machine.specs.Run.{shown, test_step}
use Rattle.cg_machine.specs.Start.{CanStart, machine_of}
use Rattle.cg_stage_list_laws.specs.Literals.{ZeroCounts}
use Rattle.cg_plan_laws.specs.Plan.{plan_of}
use Rattle.cg_plan_laws.specs.declared.settings.Settings.{Settings}
use Rattle.cg_gate_laws.specs.TestRun.{TestTick, test_shown, ticks_of}

-- the test run of a plan that was made for a test input, begun with a machine without enables, shows whatever the test bits
-- are what the machine shows that the plan begins with
abbrev pub PlansAreTestSafe : Type 0
PlansAreTestSafe = (library : List CellData) (settings : Settings) (counts : Option ZeroCounts) (m : MachineData) → IsMachine m →
    ((r : ℕ) → enable_of m r ≡ None) → settings.test ≡ true
    → (start : List Bool) (wave : List TestTick) → length start ≡ m.own_registers → AreTicks m.circuit (ticks_of wave)
    → test_shown (plan_of library settings counts m).machine start wave ≡ shown m start (ticks_of wave)

-- begun with the machine of a netlist, it shows what the netlist shows in its lawful history
abbrev pub TestRunShowsNetlist : Type 0
TestRunShowsNetlist = (library : List CellData) (settings : Settings) (counts : Option ZeroCounts) (c : Circuit) (prefix : List ℕ) →
    CanStart c prefix → settings.test ≡ true
    → (start : List Bool) (wave : List TestTick) (history : List Moment) → IsStart c start → IsWaveform c (ticks_of wave) →
    IsLawful c start (ticks_of wave) history
    → test_shown (plan_of library settings counts (machine_of c prefix)).machine start wave ≡ outputs_of c history

-- where the test bit is 1, every register takes its function
abbrev pub TestLoadsAll : Type 0
TestLoadsAll = (m : MachineData) (s x : List Bool) (r : ℕ) → r < length m.circuit.registers → (cell : RegisterCell ℕ ℕ) →
    slice_get m.circuit.registers r ≡ Some cell
    → slice_get (test_step m true s x) r ≡ Some (next_value cell.kind (values_at (values m s x) cell.inputs) (bit s r))
