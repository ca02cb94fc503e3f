use Rattle.std.proofs.Common.{IfErr, sym, subst}
use Rattle.cg_claim.specs.Question.{unseen_question}
use Rattle.cg_unroll.specs.Claims.{IsClaim, IsRefused, target_of}
use Rattle.cg_unroll.specs.declared.claim.Claim.{Claim}
use Rattle.cg_claim_reach.specs.Unseen.{UnseenData}
use Rattle.cg_unroll.proofs.Building.{if_err, if_ok, on_ok}
use Rattle.cg_unroll.proofs.claim.unseen_claim.Goals as goal

pub returns-clause-claim : goal.returns-clause-claim
returns-clause-claim c =
    let m = c.args.machine.now in
    let E = c.args.enables.now in
    let t = target_of m c.args.target in
    let w = c.args.width in
    if_ok _ _ c.claim_of.result (λ claim h. subst (λ (k : Claim). IsClaim m (unseen_question E c.args.guards.now c.args.regs.now t) w k) (sym h.1)
    (subst (λ (u : UnseenData). IsClaim m (unseen_question E u.guards u.regs t) w c.unseen-built.new.self) c.in_ok-unseen.ensures (on_ok c.unseen-built.result h.0 c.unseen-built.ensures.claim))) c.claim_of.ensures.claim

pub returns-clause-refused : goal.returns-clause-refused
returns-clause-refused c =
    let m = c.args.machine.now in
    let E = c.args.enables.now in
    let t = target_of m c.args.target in
    let w = c.args.width in
    if_err _ _ c.claim_of.result (λ fault is. subst (λ (u : UnseenData). IsRefused m (unseen_question E u.guards u.regs t) w fault) c.in_ok-unseen.ensures
    (subst (λ r. IfErr r (IsRefused m (unseen_question E c.in_ok-unseen.unseen.guards c.in_ok-unseen.unseen.regs t) w)) is c.unseen-built.ensures.refused)) c.claim_of.ensures.refused
