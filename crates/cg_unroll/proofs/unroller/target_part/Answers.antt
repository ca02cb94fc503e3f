use Rattle.std.proofs.Common.{◌≡◌, ◌<◌, length, ◌∙◌, ap, subst}
use Rattle.cg_netlist.specs.Circuit.{Circuit}
use Rattle.cg_unroll.specs.Claims.{IsTargetName}
use Rattle.cg_unroll.proofs.TargetsThere.{output_there}
use Rattle.cg_unroll.proofs.unroller.target_part.Goals as goal

pub returns-in-Output-clause-there : goal.returns-in-Output-clause-there
returns-in-Output-clause-there c =
    let m = c.args.machine.now in
    let below : c.in-Output.k < length m.circuit.outputs = subst (IsTargetName m) c.in-Output.is c.requires in
    let same : c.outputs.result.now ≡ m.circuit.outputs = c.outputs.ensures ∙ ap (λ (n : Circuit). n.outputs) c.netlist.ensures.netlist in
    output_there m c.outputs.result.now c.in-Output.k c.index-outputs-k.result c.netlist.ensures.machine same below c.index-outputs-k.is
