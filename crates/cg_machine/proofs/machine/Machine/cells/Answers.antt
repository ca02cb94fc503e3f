use Rattle.std.proofs.Common.{length, ap, arith}
use Rattle.cg_machine.specs.Machine.{MachineData}
use Rattle.cg_machine.specs.inner.Kept.{kept}
use Rattle.cg_machine.proofs.WalkPlaces.{few_cells, kept_cells}
use Rattle.cg_machine.proofs.machine.Machine.cells.Goals as goal

pub overflow_add-result : goal.overflow_add-result
overflow_add-result c =
    let i = c.self.inside in
    omega (arith, c.cells.ensures.count, c.len.ensures, kept_cells i.netlist i.prefix i.enables.items i.gates i.delays, few_cells (kept i.netlist i.prefix i.enables.items i.gates i.delays) c.self.invariant.machine, c.self.invariant.machine.small)

pub returns : goal.returns
returns c =
    let i = c.self.inside in
    omega (arith, c.cells.ensures.count, c.len.ensures, kept_cells i.netlist i.prefix i.enables.items i.gates i.delays, ap (λ (m : MachineData). length m.circuit.cells) c.self.view_is)
