-- The netlist that was read, of which a machine was made.
use Rattle.std.specs.Prelude.{Option, unwrap_or}
use Rattle.cg_machine.specs.Added.{own_netlist}
use Rattle.cg_machine.specs.Machine.{MachineData}
use Rattle.cg_netlist.specs.Circuit.{Circuit}

-- the one that was kept beside the machine, or else the machine's own
abbrev pub read_of : Option Circuit → MachineData → Circuit
read_of kept m = unwrap_or kept (own_netlist m)
