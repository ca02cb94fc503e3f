-- The test run of a machine: its run, but that where the clock rises every register is loaded where the test bit was 1.
use Rattle.std.specs.Prelude.{Bool, List, ◌++◌, map, None}
use Rattle.cg_netlist.specs.History.{Tick}
use Rattle.cg_machine.specs.Machine.{MachineData}
use Rattle.cg_machine.specs.Run.{ones, test_shown_from}

-- a tick with its test bit
abbrev pub TestTick : Type 0
TestTick = Tick × Bool

-- the ticks alone
abbrev pub ticks_of : List TestTick → List Tick
ticks_of wave = map (λ (tick : TestTick). tick.0) wave

-- the outputs of the test run from a start of the netlist's own registers, where the delay registers start with 1
abbrev pub test_shown : MachineData → List Bool → List TestTick → List (List Bool)
test_shown m start wave = test_shown_from m None (start ++ ones m) wave
