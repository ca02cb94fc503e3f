use Rattle.std.proofs.Common.{◌≡◌, ◌+◌, ℕ, List, drop, map, set, sym, ◌∙◌, ap}
use Rattle.cg_netlist.specs.Nets.{put_cells}
use Rattle.cg_machine.specs.Gates.{AddedGate, gate_cell}
use Rattle.cg_machine.proofs.GateValues.{gates_put}
use Rattle.cg_machine.proofs.gates.Gates.put.Goals as goal

pub loop-number-preserved : goal.loop-number-preserved
loop-number-preserved c =
    let gs : List AddedGate = c.args.self.now in
    let k : ℕ = c.loop-number.number in
    let net : c.number.result ≡ c.gate-gate.result.now.output = c.number.ensures.number ∙ ap (λ (g : AddedGate). g.output) c.gate.view_is in
    ap (λ n. put_cells (map gate_cell (drop (k + 1) gs)) (set c.loop-number.values n c.value-bit.result)) net
    ∙ (ap (λ b. put_cells (map gate_cell (drop (k + 1) gs)) (set c.loop-number.values c.gate-gate.result.now.output b)) c.value-bit.ensures
    ∙ (sym (gates_put gs c.loop-number.values k c.gate-gate.result.now c.gate-gate.ensures) ∙ c.loop-number.invariant))
