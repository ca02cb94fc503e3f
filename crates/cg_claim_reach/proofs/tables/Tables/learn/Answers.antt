use Rattle.std.proofs.Common.{◌≡◌, ℕ, List, length, ◌∙◌, ap, arith}
use Rattle.cg_netlist.specs.Circuit.{Circuit}
use Rattle.cg_claim_reach.proofs.Targeting.{few_outputs}
use Rattle.cg_claim_reach.proofs.tables.Tables.learn.Goals as goal

pub overflow_cast-self : goal.overflow_cast-self
overflow_cast-self c =
    let m = c.args.machine.now in
    let same : c.outputs.result.now ≡ m.circuit.outputs = c.outputs.ensures ∙ ap (λ (n : Circuit). n.outputs) c.netlist-netlist.ensures.netlist in
    omega (arith, few_outputs m c.netlist-netlist.ensures.machine, ap (λ (l : List ℕ). length l) same)
