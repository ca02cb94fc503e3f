use Rattle.std.proofs.Common.{refl, arith}
use Rattle.cg_lrat.specs.inner.LiveTable.{live_in}
use Rattle.cg_lrat.proofs.HintChain.{fault_at_last, fault_before_last}
use Rattle.cg_lrat.proofs.hint.hints_fault.Goals as goal

pub returns-in-Some-2 : goal.returns-in-Some-2
returns-in-Some-2 c =
    fault_before_last (live_in c.args.live.now) c.args.assignment.now c.loop-hint.assignment c.propagate.new.assignment c.args.hints.now
    c.in-Some.others.now
    c.loop-hint.hint-index c.in-Some.last.now _ c.in-Some-2.why c.in_ok-why.field-0 c.in-Some.ensures.cases.0 (omega arith) refl
    c.in_ok-why.ensures
    c.in-Some-2.is c.loop-hint.invariant

pub returns : goal.returns
returns c =
    fault_at_last (live_in c.args.live.now) c.args.assignment.now c.loop-hint.assignment c.args.hints.now c.in-Some.others.now
    c.loop-hint.hint-index
    c.in-Some.last.now c.conclude.result c.in-Some.ensures.cases.0 (omega arith) c.loop-hint.invariant c.conclude.ensures
