use Rattle.std.proofs.Common.{Option, IfErr, sym, ◌∙◌, ap, subst}
use Rattle.cg_limit.specs.declared.Limit.{Limit}
use Rattle.cg_stage_laws.specs.Effects.{own_limit}
use Rattle.cg_plan.specs.inner.Inserting.{MayPass}
use Rattle.cg_stage_laws.proofs.Appended.{keeps_then}
use Rattle.cg_plan.proofs.Adding.{delayed_limit_on, nets_of}
use Rattle.cg_plan.proofs.insert.add_delayed.Goals as goal

pub returns-in-Some-clause-fault : goal.returns-in-Some-clause-fault
returns-in-Some-clause-fault c =
    let o = c.add_delay.new.machine in
    let late = c.in_ok-delayed.delayed in
    let same = delayed_limit_on c.args.machine.now (nets_of c.args.enables.now) c.args.own c.join_all.new.machine o c.in_ok-joined.joined late c.in_ok-joined.ensures.added c.in_ok-delayed.ensures.added
    ∙ ap (own_limit (record { machine = o; net = late })) c.in-Some.is in
    subst (λ (limit : Option Limit). IfErr c.add_gate.result (MayPass limit)) (sym same) c.add_gate.ensures.fault

pub returns-in_err-delayed-clause-keeps : goal.returns-in_err-delayed-clause-keeps
returns-in_err-delayed-clause-keeps c = keeps_then c.args.machine.now c.join_all.new.machine c.add_delay.new.machine c.in_ok-joined.ensures.keeps c.in_err-delayed.ensures.keeps

pub returns-in-None-clause-keeps : goal.returns-in-None-clause-keeps
returns-in-None-clause-keeps c = keeps_then c.args.machine.now c.join_all.new.machine c.add_delay.new.machine c.in_ok-joined.ensures.keeps c.in_ok-delayed.ensures.keeps

pub returns-in-Some-clause-keeps : goal.returns-in-Some-clause-keeps
returns-in-Some-clause-keeps c =
    let m = c.args.machine.now in
    let n = c.join_all.new.machine in
    let o = c.add_delay.new.machine in
    keeps_then m o c.add_gate.new.machine (keeps_then m n o c.in_ok-joined.ensures.keeps c.in_ok-delayed.ensures.keeps) c.add_gate.ensures.keeps
