use Rattle.std.proofs.Common.{subst}
use Rattle.cg_hint_laws.specs.Trying.{question_of}
use Rattle.cg_hint_laws.specs.declared.outcome.HintClaim.{HintClaim}
use Rattle.cg_unroll_cycles.specs.Claims.{IsCycleClaim}
use Rattle.cg_hints.proofs.Decided.{idle_certifies}
use Rattle.cg_hints.proofs.judge.Judge.decide.Goals as goal

pub decide_idle-requires-clause-built : goal.decide_idle-requires-clause-built
decide_idle-requires-clause-built c =
    let h = c.args.claims.now.hint.now in
    subst (λ (d : HintClaim). IsCycleClaim c.args.claims.now.machine.now (question_of h d) c.args.claims.now.width c.args.self.now.unroller) c.in-Idle.is c.requires.built

pub decide_register-requires-clause-built : goal.decide_register-requires-clause-built
decide_register-requires-clause-built c =
    let h = c.args.claims.now.hint.now in
    subst (λ (d : HintClaim). IsCycleClaim c.args.claims.now.machine.now (question_of h d) c.args.claims.now.width c.args.self.now.unroller) c.in-Hold.is c.requires.built

pub returns-in-Idle-clause-certified : goal.returns-in-Idle-clause-certified
returns-in-Idle-clause-certified c =
    rw c.in-Idle.is (idle_certifies c.args.claims.now.machine.now c.args.claims.now.hint.now c.args.claims.now.proof c.args.claims.now.number c.args.into.now.items c.decide_idle.result)
