use Rattle.cg_report.proofs.PlayedOn.{player_begins}
use Rattle.cg_report.proofs.player.Player.new.Goals as goal

pub invariant_of-result : goal.invariant_of-result
invariant_of-result c =
    player_begins c.in_ok-simulator.simulator c.args.netlist.now c.deref.result.now c.args.stimulus.now c.in_ok-inputs.inputs.items c.in_ok-simulator.ensures.fresh c.nets.ensures.netlist
    c.rows.ensures.stimulus c.requires c.in_ok-inputs.ensures
