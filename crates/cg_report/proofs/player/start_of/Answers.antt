use Rattle.std.proofs.Common.{◌∙◌, ap, sym, slice_get}
use Rattle.cg_netlist.specs.View.{register_seen}
use Rattle.cg_report.proofs.PlayedOn.{start_on}
use Rattle.cg_report.proofs.player.start_of.Goals as goal

pub registers-preserved : goal.registers-preserved
registers-preserved c =
    start_on c.args.netlist.now c.registers.number (register_seen c.register.result) c.registers.start.items c.push.new.self.items
    (ap (slice_get c.args.netlist.now.registers) (sym c.new.ensures) ∙ c.register.ensures) c.registers.invariant c.in_ok-push.ensures.items
