use Rattle.std.proofs.Common.{◌≡◌, ℕ, Some, slice_index_or, sym, subst, arith}
use Rattle.std.proofs.lemmas.Result.{err_from_is_err_and}
use Rattle.cg_cell.specs.Build.{Run}
use Rattle.cg_cell.specs.Domain.{Seen}
use Rattle.cg_machine.specs.Machine.{MachineData}
use Rattle.cg_claim.specs.Build.{aig_values}
use Rattle.cg_claim.specs.form.Build.{Cycle, condition_run}
use Rattle.cg_hint_laws.specs.Build.{goal_of}
use Rattle.cg_hint_laws.specs.Question.{Question}
use Rattle.cg_unroll.specs.Building.{Built, MayFail}
use Rattle.cg_unroll.proofs.Building.{built_then, fails_first, fails_then, if_err, if_ok}
use Rattle.cg_unroll.proofs.Sides.{copy_later}
use Rattle.cg_unroll_cycles.specs.Asking.{question_of}
use Rattle.cg_unroll_cycles.specs.inner.Laid.{cycle_of}
use Rattle.cg_unroll_cycles.proofs.Wholes.{goal_of_grows}
use Rattle.cg_unroll_cycles.proofs.goal.goal_literal.Goals as goal

pub condition_literal-requires-clause-nets : goal.condition_literal-requires-clause-nets
condition_literal-requires-clause-nets c = λ y among. let below = c.requires.asked.nets y among in omega (arith, below, c.requires.first.nets.long)

pub returns-in_err-condition-clause-failed : goal.returns-in_err-condition-clause-failed
returns-in_err-condition-clause-failed c =
    let m : MachineData = c.args.machine.now in
    let q : Question = question_of c.args.question.now in
    let s : Seen = c.args.aig.now in
    let last : Cycle = cycle_of c.args.last.now s in
    let r : Run = condition_run aig_values (λ x. slice_index_or c.args.first.now.nets x 0) q.terms s in
    let passed = err_from_is_err_and c.from_residual.result c.from_residual.ensures.1 in
    rw (passed.1, passed.2) (fails_first r (λ e u. goal_of aig_values m last q.register e u) c.in_err-condition.field-0.0 (goal_of_grows m last q.register r.answer r.domain) c.in_err-condition.ensures.failed)

pub changes_literal-requires-clause-last : goal.changes_literal-requires-clause-last
changes_literal-requires-clause-last c = copy_later c.args.machine.now c.args.aig.now c.condition_literal.new.aig c.args.last.now c.in_ok-condition.ensures.built.keeps c.requires.last

pub returns-in-Some-clause-built : goal.returns-in-Some-clause-built
returns-in-Some-clause-built c =
    let m : MachineData = c.args.machine.now in
    let q : Question = question_of c.args.question.now in
    let s : Seen = c.args.aig.now in
    let t : Seen = c.condition_literal.new.aig in
    let u : Seen = c.changes_literal.new.aig in
    let last : Cycle = cycle_of c.args.last.now s in
    let e : ℕ = c.in_ok-condition.condition in
    let r : Run = condition_run aig_values (λ x. slice_index_or c.args.first.now.nets x 0) q.terms s in
    let register : q.register ≡ Some c.in-Some.reg = c.in-Some.is in
    if_ok _ _ c.changes_literal.result (λ v h. built_then s t u r e v (λ a w. goal_of aig_values m last q.register a w) c.in_ok-condition.ensures.built
    (subst (λ o. Built t u v (goal_of aig_values m last o e t)) (sym register) h)) c.changes_literal.ensures.built

pub returns-in-Some-clause-failed : goal.returns-in-Some-clause-failed
returns-in-Some-clause-failed c =
    let m : MachineData = c.args.machine.now in
    let q : Question = question_of c.args.question.now in
    let s : Seen = c.args.aig.now in
    let t : Seen = c.condition_literal.new.aig in
    let last : Cycle = cycle_of c.args.last.now s in
    let e : ℕ = c.in_ok-condition.condition in
    let r : Run = condition_run aig_values (λ x. slice_index_or c.args.first.now.nets x 0) q.terms s in
    let register : q.register ≡ Some c.in-Some.reg = c.in-Some.is in
    if_err _ _ c.changes_literal.result (λ fault h. fails_then s t r e (λ a w. goal_of aig_values m last q.register a w) fault c.in_ok-condition.ensures.built
    (subst (λ o. MayFail (goal_of aig_values m last o e t).domain fault) (sym register) h)) c.changes_literal.ensures.failed
