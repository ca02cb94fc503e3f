use Rattle.std.proofs.Common.{◌≡◌, Some, true, slice_get, subst, arith}
use Rattle.cg_claim.specs.Reach.{inputs_of_register}
use Rattle.cg_machine.specs.Added.{own_netlist}
use Rattle.cg_net.proofs.FoundNets.{take_some}
use Rattle.cg_netlist.proofs.Used.{data_is_used}
use Rattle.cg_netlist.specs.Circuit.{Circuit}
use Rattle.cg_netlist.specs.Netlist.{IsNetlist}
use Rattle.cg_netlist.specs.View.{register_seen}
use Rattle.cg_net.specs.NetSets.{is_in}
use Rattle.cg_stage_groups.proofs.Fronts.{found_some}
use Rattle.cg_stage_groups.proofs.FrontShows.{in_input_cone, inputs_are}
use Rattle.cg_stage_groups.proofs.Steps.{used_within}
use Rattle.cg_stage_groups.specs.inner.Front.{IsFront}
use Rattle.cg_stage_groups.proofs.early.meets_more.Goals as goal

pub begin-requires-2-clause-own : goal.begin-requires-2-clause-own
begin-requires-2-clause-own c = λ y among.
    let m = c.args.machine.now in
    let at : slice_get (own_netlist m).registers c.args.reg ≡ Some (register_seen c.register.result) = subst (λ (n : Circuit). slice_get n.registers c.args.reg ≡ Some (register_seen c.register.result)) c.netlist-netlist.ensures.netlist c.register.ensures in
    used_within (own_netlist m) (subst IsNetlist c.netlist-netlist.ensures.netlist c.registers-registers.ensures.netlist) y (data_is_used (own_netlist m) c.args.reg y (register_seen c.register.result) at among)

pub loop-init : goal.loop-init
loop-init c =
    let m = c.args.machine.now in
    let cell = register_seen c.register.result in
    let at : slice_get m.circuit.registers c.args.reg ≡ Some cell = take_some m.own_registers m.circuit.registers c.args.reg cell (subst (λ (n : Circuit). slice_get n.registers c.args.reg ≡ Some cell) c.netlist-netlist.ensures.netlist c.register.ensures) in
    record {
      front = subst (λ roots. IsFront m roots c.begin-2.new.self.found c.begin-2.new.self.ahead.items) (inputs_are m c.args.reg cell at) c.in_ok-begin-2.ensures;
      met = c.in_ok-begin.ensures m;
    }

pub next-requires-clause-own : goal.next-requires-clause-own
next-requires-clause-own c = c.loop.invariant.front.own

pub next-requires-clause-ahead : goal.next-requires-clause-ahead
next-requires-clause-ahead c = c.loop.invariant.front.ahead_found

pub note-requires : goal.note-requires
note-requires c =
    let m = c.args.machine.now in
    let front : IsFront m (inputs_of_register m c.args.reg) c.next.new.self.found c.next.new.self.ahead.items = c.in_ok-net.ensures.front (inputs_of_register m c.args.reg) c.loop.invariant.front in
    let there : is_in c.next.new.self.found c.in-Some.net ≡ true = found_some c.next.new.self.found c.in_ok-net.field-0 c.in-Some.net c.in-Some.is c.in_ok-net.ensures.found in
    front.own c.in-Some.net there

pub returns-then-count-most : goal.returns-then-count-most
returns-then-count-most c = λ more.
    let m = c.args.machine.now in
    let front : IsFront m (inputs_of_register m c.args.reg) c.next.new.self.found c.next.new.self.ahead.items = c.in_ok-net.ensures.front (inputs_of_register m c.args.reg) c.loop.invariant.front in
    let there : is_in c.next.new.self.found c.in-Some.net ≡ true = found_some c.next.new.self.found c.in_ok-net.field-0 c.in-Some.net c.in-Some.is c.in_ok-net.ensures.found in
    let good = c.netlist-netlist.ensures.machine in
    let own = good.own_registers in
    let met = c.in_ok-note-in-Some.ensures c.args.reg (omega (arith, own, c.requires.register)) (in_input_cone m good c.args.reg c.in-Some.net (front.only c.in-Some.net there)) c.loop.invariant.met in
    record {
      inputs = c.note.new.self.inputs.keys;
      registers = c.note.new.self.registers.keys;
      inputs_once = c.count.ensures.inputs;
      registers_once = c.count.ensures.registers;
      inputs_are = met.inputs_are;
      registers_are = met.registers_are;
      more = omega (arith, c.if-count-most.true, c.count.ensures.count);
    }

pub loop-preserved : goal.loop-preserved
loop-preserved c =
    let m = c.args.machine.now in
    let front : IsFront m (inputs_of_register m c.args.reg) c.next.new.self.found c.next.new.self.ahead.items = c.in_ok-net.ensures.front (inputs_of_register m c.args.reg) c.loop.invariant.front in
    let there : is_in c.next.new.self.found c.in-Some.net ≡ true = found_some c.next.new.self.found c.in_ok-net.field-0 c.in-Some.net c.in-Some.is c.in_ok-net.ensures.found in
    let good = c.netlist-netlist.ensures.machine in
    let own = good.own_registers in
    let met = c.in_ok-note-in-Some.ensures c.args.reg (omega (arith, own, c.requires.register)) (in_input_cone m good c.args.reg c.in-Some.net (front.only c.in-Some.net there)) c.loop.invariant.met in
    record { front = front; met = met }
