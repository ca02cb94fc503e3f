use Rattle.std.proofs.Common.{length, sym, ◌∙◌, arith}
use Rattle.std.specs.Option.{option_to_list}
use Rattle.cg_netlist.specs.Circuit.{gater_outputs}
use Rattle.cg_netlist.proofs.Given.{from_option}
use Rattle.cg_net.proofs.Members.{is_in_left}
use Rattle.cg_edge.proofs.Facts.{clock_net_within}
use Rattle.cg_edge.proofs.clock_nets.put_clock.Goals as goal

pub bounds-nets-number : goal.bounds-nets-number
bounds-nets-number c =
    let n = c.args.netlist.now in
    let below = clock_net_within n c.requires.netlist.well_formed (length c.args.nets.now) c.requires.nets c.in-Some.net (is_in_left (option_to_list n.clock) (gater_outputs n) c.in-Some.net (from_option n.clock c.in-Some.net (sym c.clock.ensures ∙ c.in-Some.is))) in
    omega (arith, below)
