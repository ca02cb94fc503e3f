use Rattle.std.proofs.Common.{◌≡◌, ◌<◌, Some, length, slice_get, sym, subst}
use Rattle.cg_netlist.specs.Circuit.{Circuit}
use Rattle.cg_netlist.specs.Drivers.{IsDriver}
use Rattle.cg_net.proofs.Members.{member_at}
use Rattle.cg_stage_groups.proofs.Steps.{edge_more}
use Rattle.cg_stage_groups.proofs.edge.edge.Goals as goal

pub driver-requires : goal.driver-requires
driver-requires c = subst (λ (n : Circuit). c.net-net.result < length n.names) (sym c.netlist-netlist.ensures.netlist) (c.requires c.net-net.result (member_at c.args.nets.now c.loop-place.place c.net-net.result (c.net-net.ensures)))

pub loop-place-preserved : goal.loop-place-preserved
loop-place-preserved c =
    let m = c.args.machine.now in
    let net = c.net-net.result in
    let at : slice_get c.args.nets.now c.loop-place.place ≡ Some net = c.net-net.ensures in
    edge_more m c.netlist-netlist.ensures.machine c.args.nets.now c.loop-place.place net c.driver.result c.loop-place.support c.note.new.support at (subst (λ n. IsDriver n net c.driver.result) c.netlist-netlist.ensures.netlist c.driver.ensures) c.loop-place.invariant c.in_ok-note.ensures.input c.in_ok-note.ensures.registers
