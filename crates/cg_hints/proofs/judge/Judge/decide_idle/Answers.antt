use Rattle.std.proofs.Common.{subst}
use Rattle.cg_hint_laws.specs.Trying.{question_of}
use Rattle.cg_hint_laws.specs.declared.outcome.HintClaim.TheVariants.{Idle}
use Rattle.cg_hints.proofs.Decided.{idle_never, idle_sometimes, is_violated, never_violated}
use Rattle.cg_judge.proofs.There.{told_there}
use Rattle.cg_judge.specs.Verdict.{ToldOne}
use Rattle.cg_hints.proofs.judge.Judge.decide_idle.Goals as goal

pub returns-then-idles : goal.returns-then-idles
returns-then-idles c =
    let m = c.args.claims.now.machine.now in
    let h = c.args.claims.now.hint.now in
    let claim = c.args.self.now.unroller in
    let told = subst (ToldOne claim.aig claim.goal) c.if-idles.true (told_there c.aig.result.now claim.aig c.goal.result claim.goal c.in_ok-idles.idles c.aig.ensures c.goal.ensures c.in_ok-idles.ensures) in
    idle_sometimes m h (is_violated c.hint_laws.ensures.never m (question_of h Idle) c.args.claims.now.width claim c.netlist-netlist.ensures.machine c.requires.there.asked c.requires.built told.bits told.one)

pub returns : goal.returns
returns c =
    let m = c.args.claims.now.machine.now in
    let h = c.args.claims.now.hint.now in
    let claim = c.args.self.now.unroller in
    let told = subst (ToldOne claim.aig claim.goal) c.if-idles.false (told_there c.aig.result.now claim.aig c.goal.result claim.goal c.in_ok-idles.idles c.aig.ensures c.goal.ensures c.in_ok-idles.ensures) in
    idle_never m h (never_violated c.hint_laws.ensures.never m (question_of h Idle) c.args.claims.now.width claim c.netlist-netlist.ensures.machine c.requires.there.asked c.requires.built told)
