use Rattle.std.proofs.Common.{length, ap, arith}
use Rattle.cg_machine.specs.Gates.{AddedGate}
use Rattle.cg_machine.proofs.GateValues.{gates_widest}
use Rattle.cg_machine.proofs.gates.Gates.widest.Goals as goal

pub loop-number-preserved : goal.loop-number-preserved
loop-number-preserved c =
    let more = gates_widest c.args.self.now c.loop-number.number c.gate.result.now c.gate.ensures in
    let inputs = ap (λ (g : AddedGate). length g.inputs) c.behind-self.view_is in
    grind (arith, more, inputs, c.loop-number.invariant, c.len.ensures, c.max-widest.ensures)
