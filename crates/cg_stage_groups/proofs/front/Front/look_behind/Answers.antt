use Rattle.std.proofs.Common.{◌<◌, length, sym, subst}
use Rattle.cg_netlist.specs.Circuit.{Circuit}
use Rattle.cg_netlist.specs.Drivers.{IsDriver}
use Rattle.cg_netlist.specs.declared.driver.Driver.TheVariants.{Cell}
use Rattle.cg_stage_groups.proofs.front.Front.look_behind.Goals as goal

pub driver-requires : goal.driver-requires
driver-requires c = subst (λ (n : Circuit). c.args.net < length n.names) (sym c.netlist.ensures.netlist) (c.requires.own c.args.net c.requires.net)

pub find_inputs-requires-clause-drives : goal.find_inputs-requires-clause-drives
find_inputs-requires-clause-drives c = subst (λ n. IsDriver n c.args.net (Cell c.in-Cell.id)) c.netlist.ensures.netlist c.in-Cell.ensures
