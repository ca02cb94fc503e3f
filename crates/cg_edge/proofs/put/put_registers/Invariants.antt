use Rattle.std.proofs.Common.{◌≡◌, length, take}
use Rattle.std.specs.List.{flat_map}
use Rattle.cg_netlist.specs.Circuit.{register_nets, shown_nets}
use Rattle.cg_netlist.specs.Moment.{register_bits, values_at}
use Rattle.cg_edge.specs.inner.Keeping.{AreMarked, SameBut, walk_of}
use Rattle.cg_edge.proofs.put.put_registers.Given as goal

abbrev pub invariant-loop-k : goal.invariant-loop-k
invariant-loop-k l =
    (values_at l.nets (flat_map shown_nets (take l.k l.netlist.registers)) ≡ register_bits (take l.k l.netlist.registers) (take l.k l.state))
    × SameBut (register_nets l.netlist) l.fn.nets l.nets × AreMarked (walk_of l.netlist) l.marks l.nets × (length l.marks ≡ length l.fn.marks)
