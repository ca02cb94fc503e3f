-- What is added to a machine for a hint.
use Rattle.std.specs.Prelude.{◌≡◌, ℕ, List, Result, Ok, Err}
use Rattle.std.specs.List.{AllByRecursion}
use Rattle.cg_netlist.specs.declared.fault.AddFault.{AddFault}
use Rattle.cg_hint_laws.specs.Answers.{MayFail}
use Rattle.cg_hint_laws.specs.Effects.{AddedNets}
use Rattle.cg_machine.specs.Added.{Added}
use Rattle.cg_machine.specs.Machine.{IsNet, MachineData}

-- what adding a net was to answer: the net, in the machine n that has it then, or a fault
abbrev pub AddsAs : MachineData → Result Added AddFault → Result ℕ AddFault → Type 0
AddsAs n wanted (Ok net) = (wanted ≡ Ok (record { machine = n; net = net })) × IsNet n net
AddsAs n wanted (Err fault) = MayFail wanted fault

-- what adding nets was to answer: nets of the machine n that has them then, or a fault
abbrev pub AddsNets : MachineData → Result AddedNets AddFault → Result (List ℕ) AddFault → Type 0
AddsNets n wanted (Ok nets) = (wanted ≡ Ok (record { machine = n; nets = nets })) × AllByRecursion (IsNet n) nets
AddsNets n wanted (Err fault) = MayFail wanted fault
