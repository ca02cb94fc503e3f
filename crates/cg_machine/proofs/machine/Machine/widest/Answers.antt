use Rattle.std.proofs.Common.{ap, arith}
use Rattle.cg_netlist.specs.Netlist.{widest_of}
use Rattle.cg_machine.specs.Machine.{MachineData}
use Rattle.cg_machine.proofs.Cycles.{widest_kept}
use Rattle.cg_machine.proofs.machine.Machine.widest.Goals as goal

pub returns : goal.returns
returns c =
    let i = c.self.inside in
    let wide = widest_kept i.netlist i.prefix i.enables.items i.gates i.delays in
    let same = ap (λ (m : MachineData). widest_of m.circuit.cells) c.self.view_is in
    omega (arith, wide, same, c.max.ensures, c.widest.ensures, c.widest-2.ensures)
