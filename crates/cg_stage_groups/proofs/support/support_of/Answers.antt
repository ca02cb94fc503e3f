use Rattle.std.proofs.Common.{◌≡◌, Some, slice_get, sym, ◌∙◌, ap, subst}
use Rattle.cg_netlist.specs.Circuit.{Circuit}
use Rattle.cg_netlist.specs.Netlist.{IsNetlist}
use Rattle.cg_netlist.specs.View.{register_seen}
use Rattle.cg_netlist.proofs.Used.{data_is_used}
use Rattle.cg_machine.specs.Added.{own_netlist}
use Rattle.cg_stage_groups.specs.Support.{IsSupport}
use Rattle.cg_stage_groups.specs.declared.support.Support.{Support}
use Rattle.cg_stage_groups.proofs.Steps.{used_within}
use Rattle.cg_stage_groups.proofs.Supported.{support_own, support_plain}
use Rattle.cg_stage_groups.proofs.support.support_of.Goals as goal
use Rattle.cg_stage_groups.proofs.support.support_of.Goals.{then-reads_own+in_ok-push, else-reads_own}
use Rattle.cg_net.proofs.FoundNets.{take_some}

pub cone-requires-clause-own : goal.cone-requires-clause-own
cone-requires-clause-own c = λ y among.
    let m = c.args.machine.now in
    let at : slice_get (own_netlist m).registers c.args.reg ≡ Some (register_seen c.register.result) = subst (λ (n : Circuit). slice_get n.registers c.args.reg ≡ Some (register_seen c.register.result)) c.netlist-netlist.ensures.netlist c.register.ensures in
    used_within (own_netlist m) (subst IsNetlist c.netlist-netlist.ensures.netlist c.registers-registers.ensures.netlist) y (data_is_used (own_netlist m) c.args.reg y (register_seen c.register.result) at among)

pub returns : goal.returns
returns c =
    let m = c.args.machine.now in
    let cell = register_seen c.register.result in
    let at : slice_get m.circuit.registers c.args.reg ≡ Some cell = take_some m.own_registers m.circuit.registers c.args.reg cell (subst (λ (n : Circuit). slice_get n.registers c.args.reg ≡ Some cell) c.netlist-netlist.ensures.netlist c.register.ensures) in
    elim c.if-reads_own.branch [
      | then-reads_own+in_ok-push w ↦ support_own m c.args.reg cell at c.cone.new.found c.in_ok-cone.ensures.cone c.in_ok-support.support c.in_ok-support.ensures (sym (c.reads_own.ensures cell c.register.ensures) ∙ w.if-reads_own.true) c.if-reads_own.support (ap (λ (s : Support). s.has_input) w.support-is) (ap (λ (s : Support). s.registers) w.support-is ∙ w.in_ok-push.ensures.parts)
      | else-reads_own w ↦ subst (λ s. IsSupport m c.args.reg s) (sym w.support-is) (support_plain m c.args.reg cell at c.cone.new.found c.in_ok-cone.ensures.cone c.in_ok-support.support c.in_ok-support.ensures (sym (c.reads_own.ensures cell c.register.ensures) ∙ w.if-reads_own.false))
    ]
