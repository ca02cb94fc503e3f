use Rattle.std.proofs.Common.{◌&&◌, length, inr, ap}
use Rattle.cg_net.specs.NetSets.{is_in}
use Rattle.cg_netlist_parts.specs.declared.fault.NetFault.TheVariants.{ClockFault}
use Rattle.cg_netlist_builder.specs.inner.Numbers.{gated, is_bad_gater, is_bad_root, rooted}
use Rattle.cg_netlist_builder.proofs.finish.check_clocks.Goals as goal

pub name_of-requires-clause-net : goal.name_of-requires-clause-net
name_of-requires-clause-net c =
    let n = c.args.told.now in
    (c.in-Some.ensures (length n.names) (λ net. is_in (rooted n) net && is_bad_root n net) (λ net. is_in (gated n) net && is_bad_gater n net) c.in_ok-root.ensures c.in_ok-gate.ensures).0

pub returns-in_ok-name_of-in-Some : goal.returns-in_ok-name_of-in-Some
returns-in_ok-name_of-in-Some c =
    let n = c.args.told.now in
    inr (c.in-Some.net, ap (λ m. ClockFault m) c.in_ok-name_of-in-Some.ensures, c.in-Some.ensures (length n.names) (λ net. is_in (rooted n) net && is_bad_root n net) (λ net. is_in (gated n) net && is_bad_gater n net) c.in_ok-root.ensures c.in_ok-gate.ensures)
