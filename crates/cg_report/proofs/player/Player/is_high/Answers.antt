use Rattle.std.proofs.Common.{length, ap, ◌∙◌}
use Rattle.cg_netlist.specs.Circuit.{data_inputs}
use Rattle.cg_report.specs.Place.{Place}
use Rattle.cg_report.proofs.GivenOn.{low_clock}
use Rattle.cg_report.proofs.player.Player.is_high.Goals as goal

pub returns-in_default : goal.returns-in_default
returns-in_default c tick later is =
    let inside = c.self.inside in
    low_clock (length (data_inputs inside.simulator.circuit)) inside.next inside.inputs.items inside.row inside.stimulus.now.rows tick later c.in_default.not-High (ap (λ (p : Place). p.left) c.self.view_is ∙ is)
