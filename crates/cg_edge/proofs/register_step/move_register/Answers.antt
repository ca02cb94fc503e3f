use Rattle.std.proofs.Common.{length, slice_index_or, false, sym, subst, ap, ◌∙◌, arith}
use Rattle.cg_netlist.specs.Circuit.{shown_nets}
use Rattle.cg_netlist.specs.Moment.{bit, values_at}
use Rattle.cg_netlist.proofs.Values.{element_at}
use Rattle.cg_edge.specs.declared.wire.Wire.{Wire}
use Rattle.cg_edge.specs.inner.Keeping.{SameBut}
use Rattle.cg_edge.specs.inner.Wires.{IsWire}
use Rattle.cg_edge.proofs.Walk.{walk_long}
use Rattle.cg_edge.proofs.Wired.{wire_found, wire_given, wire_input, wire_net, wire_same, wire_shown, wire_value}
use Rattle.cg_edge.proofs.register_step.move_register.Goals as goal

pub bounds-before-number : goal.bounds-before-number
bounds-before-number c =
    let n = c.args.schedule.now.netlist.now in
    let wire : Wire = c.in-Some.wire in
    let r = element_at n.registers c.args.id c.requires.register in
    let is : IsWire r.0 wire = wire_found n.registers c.args.schedule.now.wires.items c.args.id c.number.result c.index.result.now r.0 wire c.requires.schedule.wires r.1 c.number.ensures.number c.index.ensures c.in-Some.is in
    let below = wire_input n c.requires.schedule.netlist.well_formed c.args.id r.0 wire r.1 is (length c.args.before.now) c.requires.before in
    omega (arith, below, c.number-in-Some.ensures.number)

pub put_given-requires-clause-given : goal.put_given-requires-clause-given
put_given-requires-clause-given c =
    let n = c.args.schedule.now.netlist.now in
    let wire : Wire = c.in-Some.wire in
    let r = element_at n.registers c.args.id c.requires.register in
    let is : IsWire r.0 wire = wire_found n.registers c.args.schedule.now.wires.items c.args.id c.number.result c.index.result.now r.0 wire c.requires.schedule.wires r.1 c.number.ensures.number c.index.ensures c.in-Some.is in
    wire_given n c.requires.schedule.netlist.well_formed c.args.id r.0 wire r.1 is

pub put_given-requires-clause-net : goal.put_given-requires-clause-net
put_given-requires-clause-net c =
    let n = c.args.schedule.now.netlist.now in
    let wire : Wire = c.in-Some.wire in
    let r = element_at n.registers c.args.id c.requires.register in
    let is : IsWire r.0 wire = wire_found n.registers c.args.schedule.now.wires.items c.args.id c.number.result c.index.result.now r.0 wire c.requires.schedule.wires r.1 c.number.ensures.number c.index.ensures c.in-Some.is in
    wire_net n c.requires.schedule.netlist.well_formed c.args.id r.0 wire r.1 is (length c.args.nets.now) c.requires.nets

pub put_given-requires-clause-count : goal.put_given-requires-clause-count
put_given-requires-clause-count c = c.requires.marks ∙ (ap length c.requires.schedule.ordered ∙ sym (walk_long c.args.schedule.now.netlist.now c.requires.schedule.netlist.well_formed))

pub put_register-requires-clause-count : goal.put_register-requires-clause-count
put_register-requires-clause-count c = c.requires.marks ∙ (ap length c.requires.schedule.ordered ∙ sym (walk_long c.args.schedule.now.netlist.now c.requires.schedule.netlist.well_formed))

pub returns-in-Some-clause-value : goal.returns-in-Some-clause-value
returns-in-Some-clause-value c r at =
    let n = c.args.schedule.now.netlist.now in
    let wire : Wire = c.in-Some.wire in
    let is : IsWire r wire = wire_found n.registers c.args.schedule.now.wires.items c.args.id c.number.result c.index.result.now r wire c.requires.schedule.wires at c.number.ensures.number c.index.ensures c.in-Some.is in
    ap (bit c.args.before.now) c.number-in-Some.ensures.number ∙ sym (wire_value n c.requires.schedule.netlist.well_formed c.args.id r wire at is c.args.before.now c.args.own c.requires.before)

pub returns-in-Some-clause-shown : goal.returns-in-Some-clause-shown
returns-in-Some-clause-shown c r at =
    let n = c.args.schedule.now.netlist.now in
    let wire : Wire = c.in-Some.wire in
    let b = slice_index_or c.args.before.now c.number-in-Some.result false in
    let is : IsWire r wire = wire_found n.registers c.args.schedule.now.wires.items c.args.id c.number.result c.index.result.now r wire c.requires.schedule.wires at c.number.ensures.number c.index.ensures c.in-Some.is in
    ap (λ nets. values_at nets (shown_nets r)) c.put_given.ensures.nets ∙ wire_shown n c.requires.schedule.netlist.well_formed c.args.id r wire at is c.args.nets.now b c.requires.nets

pub returns-in-Some-clause-same : goal.returns-in-Some-clause-same
returns-in-Some-clause-same c r at =
    let n = c.args.schedule.now.netlist.now in
    let wire : Wire = c.in-Some.wire in
    let b = slice_index_or c.args.before.now c.number-in-Some.result false in
    let is : IsWire r wire = wire_found n.registers c.args.schedule.now.wires.items c.args.id c.number.result c.index.result.now r wire c.requires.schedule.wires at c.number.ensures.number c.index.ensures c.in-Some.is in
    subst (SameBut (shown_nets r) c.args.nets.now) (sym c.put_given.ensures.nets) (wire_same n c.requires.schedule.netlist.well_formed c.args.id r wire at is c.args.nets.now b)
