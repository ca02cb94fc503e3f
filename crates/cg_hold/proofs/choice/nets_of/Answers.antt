use Rattle.std.proofs.Common.{◌≡◌, Some, length, slice_get, ◌∙◌, ap, subst}
use Rattle.cg_machine.specs.Added.{own_netlist}
use Rattle.cg_netlist.proofs.Used.{data_is_used}
use Rattle.cg_netlist.specs.Circuit.{Circuit}
use Rattle.cg_netlist.specs.Netlist.{IsNetlist}
use Rattle.cg_netlist.specs.View.{register_seen}
use Rattle.cg_stage_groups.proofs.Steps.{used_within}
use Rattle.cg_hold.proofs.OfRegister.{in_cone_of, nets_are, ordered_same, own_below}
use Rattle.cg_net.specs.NetSets.{is_in}
use Rattle.cg_hold.proofs.choice.nets_of.Goals as goal
use Rattle.cg_net.proofs.FoundNets.{take_some}

pub cone-requires : goal.cone-requires
cone-requires c = λ y among.
    let m = c.args.machine.now in
    let at : slice_get (own_netlist m).registers c.args.reg ≡ Some (register_seen c.register.result) = subst (λ (n : Circuit). slice_get n.registers c.args.reg ≡ Some (register_seen c.register.result)) c.netlist-netlist.ensures.netlist c.register.ensures in
    used_within (own_netlist m) (subst IsNetlist c.netlist-netlist.ensures.netlist c.registers-registers.ensures.netlist) y (data_is_used (own_netlist m) c.args.reg y (register_seen c.register.result) at among)

pub returns-clause-order : goal.returns-clause-order
returns-clause-order c =
    let m = c.args.machine.now in
    let cell = register_seen c.register.result in
    let at : slice_get m.circuit.registers c.args.reg ≡ Some cell = take_some m.own_registers m.circuit.registers c.args.reg cell (subst (λ (n : Circuit). slice_get n.registers c.args.reg ≡ Some cell) c.netlist-netlist.ensures.netlist c.register.ensures) in
    let found = c.in_ok-found.found.items in
    (c.ascending.ensures (length m.circuit.names) (λ y among. own_below m y (c.in_ok-found.ensures.own y among)))
    ∙ nets_are m c.args.reg cell at found c.in_ok-found.ensures.cone

pub returns-clause-same : goal.returns-clause-same
returns-clause-same c = λ y.
    let m = c.args.machine.now in
    let cell = register_seen c.register.result in
    let at : slice_get m.circuit.registers c.args.reg ≡ Some cell = take_some m.own_registers m.circuit.registers c.args.reg cell (subst (λ (n : Circuit). slice_get n.registers c.args.reg ≡ Some cell) c.netlist-netlist.ensures.netlist c.register.ensures) in
    let found = c.in_ok-found.found.items in
    ap (λ l. is_in l y) (c.ascending.ensures (length m.circuit.names) (λ z among. own_below m z (c.in_ok-found.ensures.own z among)))
    ∙ (ordered_same m found (λ z among. own_below m z (c.in_ok-found.ensures.own z among)) y ∙ (c.in_ok-found.ensures.cone y ∙ in_cone_of m c.args.reg cell at y))
