use Rattle.std.proofs.Common.{◌≡◌, sym, subst, ◌∙◌}
use Rattle.std.proofs.lemmas.Result.{IfOk-weaker, IfOk-at_ok}
use Rattle.cg_lrat.specs.Accepted.{verdict}
use Rattle.cg_lrat.specs.AcceptedLog.{IsVerdict}
use Rattle.cg_lrat.proofs.Deserved.{deserved, deserves_only}
use Rattle.cg_lrat.proofs.Sound.{accepted_unsatisfiable}
use Rattle.cg_lrat.proofs.checker.Checker.check.Goals as goal

pub returns-clause-deserved : goal.returns-clause-deserved
returns-clause-deserved c =
    let f = c.args.formula.now in let l = c.args.log.now in
    IfOk-weaker c.run.result (λ found. found ≡ verdict f l) (λ found. IsVerdict f l found)
    (λ found e. subst (IsVerdict f l) (sym e) (deserved f l)) c.run.ensures

pub returns-clause-only : goal.returns-clause-only
returns-clause-only c v d =
    let f = c.args.formula.now in let l = c.args.log.now in
    IfOk-weaker c.run.result (λ found. found ≡ verdict f l) (λ found. found ≡ v) (λ found e. e ∙ deserves_only f l v d) c.run.ensures

pub returns-clause-sound : goal.returns-clause-sound
returns-clause-sound c ok =
    let f = c.args.formula.now in let l = c.args.log.now in
    accepted_unsatisfiable f l (sym (IfOk-at_ok (λ found. found ≡ verdict f l) ok c.run.ensures))
