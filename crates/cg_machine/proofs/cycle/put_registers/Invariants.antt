use Rattle.std.proofs.Common.{◌≡◌, drop}
use Rattle.std.specs.List.{flat_map}
use Rattle.cg_netlist.specs.Circuit.{register_nets, shown_nets}
use Rattle.cg_netlist.specs.Moment.{register_bits}
use Rattle.cg_machine.specs.inner.Putting.{put_bits}
use Rattle.cg_machine.proofs.cycle.put_registers.Given as goal

abbrev pub invariant-loop-r : goal.invariant-loop-r
invariant-loop-r l =
    put_bits (flat_map shown_nets (drop l.r l.netlist.registers)) (register_bits (drop l.r l.netlist.registers) (drop l.r l.state)) l.values
    ≡ put_bits (register_nets l.netlist) (register_bits l.netlist.registers l.state) l.fn.values
