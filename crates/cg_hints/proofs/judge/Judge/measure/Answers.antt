use Rattle.std.proofs.Common.{subst}
use Rattle.cg_hint_laws.specs.Question.{Question}
use Rattle.cg_hint_laws.specs.Trying.{question_of}
use Rattle.cg_unroll_cycles.specs.Claims.{IsCycleClaim, IsCycleRefused}
use Rattle.cg_hints.proofs.Sizing.{built_refused, size_fits, size_refused}
use Rattle.cg_hints.proofs.judge.Judge.measure.Goals as goal

pub returns-in-Ok-clause-size : goal.returns-in-Ok-clause-size
returns-in-Ok-clause-size c =
    let m = c.args.claims.now.machine.now in
    let w = c.args.claims.now.width in
    let q : Question = question_of c.args.claims.now.hint.now c.args.claim in
    let is : IsCycleClaim m q w c.build.new.self = subst (λ (p : Question). IsCycleClaim m p w c.build.new.self) c.question-question.ensures c.in-Ok.ensures.claim in
    size_fits w m q is.narrow is.small

pub returns-in-Ok-clause-built : goal.returns-in-Ok-clause-built
returns-in-Ok-clause-built c =
    let m = c.args.claims.now.machine.now in
    let w = c.args.claims.now.width in
    subst (λ (p : Question). IsCycleClaim m p w c.build.new.self) c.question-question.ensures c.in-Ok.ensures.claim

pub returns-in-Err-clause-size : goal.returns-in-Err-clause-size
returns-in-Err-clause-size c =
    let m = c.args.claims.now.machine.now in
    let w = c.args.claims.now.width in
    let q : Question = question_of c.args.claims.now.hint.now c.args.claim in
    size_refused w m q c.in-Err.fault c.refused_size.result c.refused_size.ensures
    (subst (λ (p : Question). IsCycleRefused m p w c.in-Err.fault) c.question-question.ensures c.in-Err.ensures.refused)

pub returns-in-Err-clause-built : goal.returns-in-Err-clause-built
returns-in-Err-clause-built c =
    built_refused c.args.claims.now.width c.args.claims.now.machine.now (question_of c.args.claims.now.hint.now c.args.claim) c.in-Err.fault c.refused_size.result c.build.new.self c.refused_size.ensures
