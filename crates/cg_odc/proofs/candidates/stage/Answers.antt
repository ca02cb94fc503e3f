use Rattle.std.proofs.Common.{length, sym, ◌∙◌, ap}
use Rattle.cg_stage_list_laws.specs.Rounds.{plain_literals}
use Rattle.cg_net.specs.NetSets.{is_in}
use Rattle.cg_odc.proofs.Listed.{stage_is, taken_below}
use Rattle.cg_odc.proofs.candidates.stage.Goals as goal

pub returns : goal.returns
returns c =
    let m = c.args.machine.now in
    let guards = c.args.guards.now in
    let nets = c.in_ok-taken_nets.field-0.items in
    stage_is m guards nets c.ascending-nets.result.items c.in_ok-literals.field-0 c.args.regs c.in_ok-registers.field-0 c.regs.inside.parts.items
    (c.in_ok-literals.ensures ∙ ap plain_literals c.deref.ensures.value)
    (c.ascending-nets.ensures (length m.circuit.names) (λ y among. taken_below m c.netlist-netlist.ensures.machine guards y (ap (λ l. is_in l y) (sym c.in_ok-taken_nets.ensures) ∙ among)))
    c.in_ok-taken_nets.ensures c.in_ok-registers.ensures c.regs.view_is
