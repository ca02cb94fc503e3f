use Rattle.std.proofs.Common.{◌≡◌, ◌<◌, ℕ, Some, length, slice_get, sym, ◌∙◌, ap, subst}
use Rattle.std.proofs.lemmas.Option.{same_Some, slice_get_within}
use Rattle.cg_netlist.specs.Circuit.{Circuit, LogicCell}
use Rattle.cg_netlist.specs.Drivers.{IsDriver}
use Rattle.cg_netlist.specs.Netlist.{IsNetlist}
use Rattle.cg_netlist.specs.View.{cell_seen}
use Rattle.cg_netlist.specs.declared.driver.Driver.TheVariants.{Cell}
use Rattle.cg_net.proofs.Members.{member_at}
use Rattle.cg_machine.specs.Added.{own_netlist}
use Rattle.cg_stage_groups.proofs.Steps.{step_cell, step_edge}
use Rattle.cg_stage_groups.proofs.cone.spread.Goals as goal

pub driver-requires : goal.driver-requires
driver-requires c = subst (λ (n : Circuit). c.net-net.result < length n.names) (sym c.netlist-netlist.ensures.netlist) (c.requires.own c.net-net.result (member_at c.args.found.now c.args.next c.net-net.result c.net-net.ensures))

pub cell-requires : goal.cell-requires
cell-requires c = slice_get_within c.netlist-netlist.result.now.cells c.in-Cell.id c.in-Cell.ensures.0 c.in-Cell.ensures.1

pub returns-in_ok-extend : goal.returns-in_ok-extend
returns-in_ok-extend c = λ roots r.
    let m = c.args.machine.now in
    let net = c.net-net.result in
    let id = c.in-Cell.id in
    let at : slice_get c.args.found.now c.args.next ≡ Some net = c.net-net.ensures in
    let d : IsDriver (own_netlist m) net (Cell id) = subst (λ n. IsDriver n net (Cell id)) c.netlist-netlist.ensures.netlist c.in-Cell.ensures in
    let seen : slice_get (own_netlist m).cells id ≡ Some (cell_seen c.cell.result) = subst (λ (n : Circuit). slice_get n.cells id ≡ Some (cell_seen c.cell.result)) c.netlist-netlist.ensures.netlist c.cell.ensures in
    step_cell m c.netlist-netlist.ensures.machine roots c.args.found.now c.args.next net r at c.requires.next (subst IsNetlist c.netlist-netlist.ensures.netlist c.nets-nets.ensures.netlist) id d c.cell.result.inputs.now c.extend.new.self
    (ap (λ (z : LogicCell ℕ). z.inputs) (same_Some (cell_seen c.cell.result) d.0 (sym seen ∙ d.1))) c.in_ok-extend.ensures

pub returns-in_default : goal.returns-in_default
returns-in_default c = λ roots r.
    let m = c.args.machine.now in
    let net = c.net-net.result in
    let at : slice_get c.args.found.now c.args.next ≡ Some net = c.net-net.ensures in
    step_edge m c.netlist-netlist.ensures.machine roots c.args.found.now c.args.next net r at c.requires.next c.driver.result (subst (λ n. IsDriver n net c.driver.result) c.netlist-netlist.ensures.netlist c.driver.ensures) c.in_default.not-Cell
