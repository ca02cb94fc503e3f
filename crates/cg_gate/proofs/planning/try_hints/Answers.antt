use Rattle.std.proofs.Common.{sym, subst}
use Rattle.cg_gate.proofs.planning.try_hints.Goals as goal
use Rattle.cg_gate.specs.Request.{RequestData}
use Rattle.cg_gate.specs.declared.planning.Begun.{Begun}
use Rattle.cg_hint_laws.specs.Answers.{MayFail}
use Rattle.cg_hint_laws.specs.Trying.{hinted}
use Rattle.cg_hints.specs.Applying.{AreApplied, reported}

pub returns-in-Ok-clause-tried : goal.returns-in-Ok-clause-tried
returns-in-Ok-clause-tried c =
    let request = c.args.request.now in
    let made = c.args.made in
    subst (λ (b : Begun). AreApplied request.library request.settings.width request.settings.proof made.machine c.args.hints.now (record { machine = b.machine; outcomes = b.hints.outcomes; certificates = b.hints.certificates })) (sym c.leave.ensures)
    (subst (λ (r : RequestData). AreApplied r.library r.settings.width r.settings.proof made.machine c.args.hints.now (reported c.in-Ok.applied)) c.request.view_is c.in-Ok.ensures.applied)

pub returns-in-Err-clause-fault : goal.returns-in-Err-clause-fault
returns-in-Err-clause-fault c =
    subst (λ (r : RequestData). MayFail (hinted r.library r.settings.width c.args.made.machine c.args.hints.now) c.in-Err.fault) c.request.view_is c.in-Err.ensures.fault
