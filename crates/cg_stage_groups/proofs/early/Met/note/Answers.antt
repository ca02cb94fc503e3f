use Rattle.std.proofs.Common.{◌∙◌, ap, subst}
use Rattle.cg_net.specs.NetSets.{with_net}
use Rattle.cg_netlist.specs.Drivers.{IsDriver}
use Rattle.cg_netlist.specs.declared.driver.Driver.TheVariants.{Register}
use Rattle.cg_stage_groups.proofs.FrontShows.{met_register}
use Rattle.cg_stage_groups.proofs.early.Met.note.Goals as goal

pub returns-in_ok-insert-in-Register : goal.returns-in_ok-insert-in-Register
returns-in_ok-insert-in-Register c = λ r below in_cone met.
    let old = c.args.self.now.registers.keys in
    met_register c.args.machine.now c.netlist.ensures.machine r c.args.net in_cone c.args.self.now.inputs.keys old c.insert-in-Register.new.self.keys c.in-Register.reg c.in-Register.field-1
    (subst (λ n. IsDriver n c.args.net (Register c.in-Register.reg c.in-Register.field-1)) c.netlist.ensures.netlist c.in-Register.ensures)
    (c.in_ok-insert-in-Register.ensures.keys ∙ ap (with_net old) c.number-in-Register.ensures.number) met
