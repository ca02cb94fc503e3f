use Rattle.std.proofs.Common.{ap, ◌∙◌, slice_get}
use Rattle.cg_edge.proofs.Wired.{wires_more}
use Rattle.cg_edge.proofs.wire.wires.Goals as goal

pub loop-k-preserved : goal.loop-k-preserved
loop-k-preserved c =
    let rs = c.args.netlist.now.registers in
    wires_more rs c.loop-k.k c.as_wire.result c.loop-k.wires.items c.push.new.self.items c.in_ok-push.ensures.items
    (λ r at. c.as_wire.ensures r (ap (slice_get rs) c.new.ensures ∙ at)) c.loop-k.invariant
