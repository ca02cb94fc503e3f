use Rattle.std.proofs.Common.{◌≡◌, Some, true, slice_get, subst}
use Rattle.cg_claim.specs.Reach.{inputs_of_register}
use Rattle.cg_machine.specs.Added.{own_netlist}
use Rattle.cg_net.proofs.FoundNets.{take_some}
use Rattle.cg_netlist.proofs.Used.{data_is_used}
use Rattle.cg_netlist.specs.Circuit.{Circuit}
use Rattle.cg_netlist.specs.Netlist.{IsNetlist}
use Rattle.cg_netlist.specs.View.{register_seen}
use Rattle.cg_net.specs.NetSets.{is_in}
use Rattle.cg_stage_groups.proofs.Fronts.{found_some}
use Rattle.cg_stage_groups.proofs.FrontShows.{free_shown, in_input_cone, inputs_are}
use Rattle.cg_stage_groups.proofs.Steps.{used_within}
use Rattle.cg_stage_groups.specs.inner.Front.{IsFront}
use Rattle.cg_stage_groups.proofs.early.meets_free.Goals as goal

pub begin-requires-clause-own : goal.begin-requires-clause-own
begin-requires-clause-own c = λ y among.
    let m = c.args.machine.now in
    let at : slice_get (own_netlist m).registers c.args.reg ≡ Some (register_seen c.register.result) = subst (λ (n : Circuit). slice_get n.registers c.args.reg ≡ Some (register_seen c.register.result)) c.netlist-netlist.ensures.netlist c.register.ensures in
    used_within (own_netlist m) (subst IsNetlist c.netlist-netlist.ensures.netlist c.registers-registers.ensures.netlist) y (data_is_used (own_netlist m) c.args.reg y (register_seen c.register.result) at among)

pub loop-init : goal.loop-init
loop-init c =
    let m = c.args.machine.now in
    let cell = register_seen c.register.result in
    let at : slice_get m.circuit.registers c.args.reg ≡ Some cell = take_some m.own_registers m.circuit.registers c.args.reg cell (subst (λ (n : Circuit). slice_get n.registers c.args.reg ≡ Some cell) c.netlist-netlist.ensures.netlist c.register.ensures) in
    subst (λ roots. IsFront m roots c.begin.new.self.found c.begin.new.self.ahead.items) (inputs_are m c.args.reg cell at) c.in_ok-begin.ensures

pub next-requires-clause-own : goal.next-requires-clause-own
next-requires-clause-own c = c.loop.invariant.own

pub next-requires-clause-ahead : goal.next-requires-clause-ahead
next-requires-clause-ahead c = c.loop.invariant.ahead_found

pub is_free_at-requires : goal.is_free_at-requires
is_free_at-requires c =
    let m = c.args.machine.now in
    let front : IsFront m (inputs_of_register m c.args.reg) c.next.new.self.found c.next.new.self.ahead.items = c.in_ok-net.ensures.front (inputs_of_register m c.args.reg) c.loop.invariant in
    let there : is_in c.next.new.self.found c.in-Some.net ≡ true = found_some c.next.new.self.found c.in_ok-net.field-0 c.in-Some.net c.in-Some.is c.in_ok-net.ensures.found in
    front.own c.in-Some.net there

pub returns-then-is_free_at : goal.returns-then-is_free_at
returns-then-is_free_at c = λ free.
    let m = c.args.machine.now in
    let front : IsFront m (inputs_of_register m c.args.reg) c.next.new.self.found c.next.new.self.ahead.items = c.in_ok-net.ensures.front (inputs_of_register m c.args.reg) c.loop.invariant in
    let there : is_in c.next.new.self.found c.in-Some.net ≡ true = found_some c.next.new.self.found c.in_ok-net.field-0 c.in-Some.net c.in-Some.is c.in_ok-net.ensures.found in
    free_shown m c.netlist-netlist.ensures.machine c.args.reg c.in-Some.net (in_input_cone m c.netlist-netlist.ensures.machine c.args.reg c.in-Some.net (front.only c.in-Some.net there)) (c.is_free_at.ensures c.if-is_free_at.true)

pub loop-preserved : goal.loop-preserved
loop-preserved c = c.in_ok-net.ensures.front (inputs_of_register c.args.machine.now c.args.reg) c.loop.invariant
