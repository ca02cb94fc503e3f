use Rattle.std.proofs.Common.{length, ap, arith}
use Rattle.cg_machine.specs.Machine.{MachineData}
use Rattle.cg_machine.proofs.Keeping.{names_count}
use Rattle.cg_machine.proofs.machine.Machine.nets.Goals as goal

pub returns : goal.returns
returns c = omega (arith, c.nets.ensures.count, c.len.ensures, c.len-2.ensures, names_count c.self.inside.netlist c.self.inside.prefix c.self.inside.enables.items c.self.inside.gates c.self.inside.delays, ap (λ (m : MachineData). length m.circuit.names) c.self.view_is)
