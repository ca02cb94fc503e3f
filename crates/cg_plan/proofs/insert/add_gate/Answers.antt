use Rattle.cg_stage_laws.proofs.Appended.{gate_keeps}
use Rattle.cg_plan.proofs.Adding.{gate_err, gate_ok}
use Rattle.cg_plan.proofs.insert.add_gate.Goals as goal

pub returns : goal.returns
returns c =
    let m = c.args.machine.now in
    let n = c.add_gate.new.self in
    record {
      added = gate_ok m n c.args.kind c.args.inputs.now c.add_gate.result c.add_gate.ensures.answer c.add_gate.ensures.there;
      fault = gate_err m n c.args.kind c.args.inputs.now c.add_gate.result c.add_gate.ensures.answer;
      keeps = gate_keeps m n c.args.kind c.args.inputs.now c.add_gate.result c.netlist-netlist.ensures.machine c.add_gate.ensures.answer c.add_gate.ensures.there c.add_gate.ensures.unchanged;
    }
