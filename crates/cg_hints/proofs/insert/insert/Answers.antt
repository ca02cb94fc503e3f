use Rattle.std.proofs.Common.{◌≡◌, ◌<◌, List, Result, Err, OnErr, is_some, rules, sym, ◌∙◌, ap, subst, arith}
use Rattle.std.specs.List.{All, AllByRecursion}
use Rattle.cg_machine.specs.Claims.{Literal}
use Rattle.cg_stage_laws.specs.Appends.{Keeps}
use Rattle.cg_machine.specs.Machine.{IsNet}
use Rattle.cg_net.proofs.Members.{All-from_members}
use Rattle.cg_netlist.specs.declared.fault.AddFault.{AddFault}
use Rattle.cg_hint_laws.proofs.HintSafe.{clocked}
use Rattle.cg_stage_laws.proofs.Appended.{keeps_then}
use Rattle.cg_hints.proofs.Adding.{literals_there}
use Rattle.cg_hints.proofs.insert.insert.Goals as goal

pub add_condition-requires-clause-nets : goal.add_condition-requires-clause-nets
add_condition-requires-clause-nets c =
    subst (λ (terms : List (List Literal)). All (λ term. AllByRecursion (λ (l : Literal). IsNet c.args.machine.now l.0) term) terms) (sym c.as_slice.ensures.parts)
    (literals_there c.args.machine.now c.args.hint.now.terms c.requires.literals c.requires.nets)

pub delay-requires-clause-clock : goal.delay-requires-clause-clock
delay-requires-clause-clock c =
    let m = c.args.machine.now in
    ap is_some (c.in_ok-condition.ensures.keeps.extends.clock ∙ (clocked m c.args.hint.now c.netlist-netlist.ensures.machine c.requires).1)

pub returns-in_err-last-clause-kept : goal.returns-in_err-last-clause-kept
returns-in_err-last-clause-kept c =
    let m = c.args.machine.now in
    let n = c.delay.new.machine in
    let fault = c.in_err-last.field-0.0 in
    let same : c.from_residual-in_err-last.result ≡ Err fault = search rules in
    subst (λ (r : Result (Unit {0}) AddFault). OnErr r (Keeps m n)) (sym same) (keeps_then m c.add_condition.new.machine n c.in_ok-condition.ensures.keeps c.in_err-last.ensures.keeps)

pub give_enable-requires-clause-registers : goal.give_enable-requires-clause-registers
give_enable-requires-clause-registers c =
    let n = c.delay.new.machine in
    let a = c.in_ok-condition.ensures.keeps.extends.own in
    let b = c.in_ok-last.ensures.keeps.extends.own in
    subst (All (λ r. r < n.own_registers)) (sym c.as_slice-2.ensures.parts)
    (All-from_members (λ r. r < n.own_registers) c.args.hint.now.regs (λ r among. let low = c.requires.registers r among in omega (arith, low, a, b)))
