use Rattle.std.proofs.Common.{◌<◌, length, is_some, sym, ◌∙◌, ap, subst}
use Rattle.cg_machine.specs.Added.{own_netlist}
use Rattle.cg_netlist.specs.Circuit.{Circuit}
use Rattle.cg_netlist.specs.Drivers.{IsDriver}
use Rattle.cg_netlist.specs.Netlist.{IsNetlist}
use Rattle.cg_odc.proofs.Shown.{place_added, place_own, plain_added, plain_driver}
use Rattle.cg_odc.proofs.guard.shown_at.Goals as goal

pub driver-requires : goal.driver-requires
driver-requires c =
    let m = c.args.machine.now in
    subst (λ (n : Circuit). c.args.net < length n.names) (sym c.netlist-netlist.ensures.netlist)
    (place_own m c.netlist-netlist.ensures.machine c.args.net (ap is_some (sym c.added.ensures) ∙ (sym c.is_some.ensures ∙ c.if-is_some.false)))

pub returns-then-is_some : goal.returns-then-is_some
returns-then-is_some c = λ q.
    let m = c.args.machine.now in
    let own : IsNetlist (own_netlist m) = subst IsNetlist c.netlist-netlist.ensures.netlist c.nets-nets.ensures.netlist in
    plain_added m c.netlist-netlist.ensures.machine own.well_formed.driven q c.args.net (place_added m c.args.net (ap is_some (sym c.added.ensures) ∙ (sym c.is_some.ensures ∙ c.if-is_some.true)))

pub returns : goal.returns
returns c = λ q.
    let m = c.args.machine.now in
    plain_driver m c.netlist-netlist.ensures.machine q c.args.net c.driver.result (subst (λ n. IsDriver n c.args.net c.driver.result) c.netlist-netlist.ensures.netlist c.driver.ensures) ∙ sym (c.shown.ensures q)
