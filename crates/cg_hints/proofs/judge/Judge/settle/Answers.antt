use Rattle.std.proofs.Common.{◌≡◌, false, nat_lt, sym, ◌∙◌, subst}
use Rattle.cg_limit.specs.declared.TheConstants.{MOST_CLAIM_NODES}
use Rattle.cg_hint_laws.specs.Trying.{claim_nodes, question_of}
use Rattle.cg_hints.proofs.Sizing.{fits_told, narrow_told}
use Rattle.cg_hints.proofs.Turns.{decision_backed, decision_certifies, decision_leads, large_on, leads_large, settled_on}
use Rattle.cg_hints.specs.declared.claims.Size.{Size}
use Rattle.cg_hints.specs.inner.Judging.{IsBuilt}
use Rattle.cg_hints.specs.inner.Standing.{IsBackedBy}
use Rattle.cg_hints.specs.declared.standing.Standing.{Standing}
use Rattle.cg_hints.proofs.judge.Judge.settle.Goals as goal

pub returns-then-is_large-clause-leads : goal.returns-then-is_large-clause-leads
returns-then-is_large-clause-leads c =
    let m = c.args.claims.now.machine.now in
    let h = c.args.claims.now.hint.now in
    let w = c.args.claims.now.width in
    let told = narrow_told w m (question_of h c.args.claim) c.args.size c.requires.size c.requires.narrow in
    leads_large w m h c.args.claim told.0 c.args.standing (sym told.1 ∙ (sym c.is_large.ensures ∙ c.if-is_large.true))

pub decide-requires-clause-built : goal.decide-requires-clause-built
decide-requires-clause-built c =
    let m = c.args.claims.now.machine.now in
    let q = question_of c.args.claims.now.hint.now c.args.claim in
    let fits = fits_told c.args.size c.requires.narrow (sym c.is_large.ensures ∙ c.if-is_large.false) in
    subst (λ (size : Size). IsBuilt m q c.args.claims.now.width c.args.self.now.unroller size) fits c.requires.built

pub returns-in-Open-clause-leads : goal.returns-in-Open-clause-leads
returns-in-Open-clause-leads c =
    let m = c.args.claims.now.machine.now in
    let h = c.args.claims.now.hint.now in
    let w = c.args.claims.now.width in
    let told = narrow_told w m (question_of h c.args.claim) c.args.size c.requires.size c.requires.narrow in
    let small : nat_lt MOST_CLAIM_NODES (claim_nodes m h c.args.claim) ≡ false = sym told.1 ∙ (sym c.is_large.ensures ∙ c.if-is_large.false) in
    rw c.in-Open.is (decision_leads w m h c.args.claim told.0 c.decide.result small c.decide.ensures.decides)

pub returns-in-Open-clause-backed : goal.returns-in-Open-clause-backed
returns-in-Open-clause-backed c = decision_backed c.args.claims.now.machine.now c.args.claims.now.hint.now c.args.claim c.decide.result c.decide.ensures.decides

pub returns-in-Open-clause-certified : goal.returns-in-Open-clause-certified
returns-in-Open-clause-certified c =
    let m = c.args.claims.now.machine.now in
    let h = c.args.claims.now.hint.now in
    rw c.in-Open.is (decision_certifies c.args.claims.now.proof c.args.claims.now.number m h c.args.claim c.args.into.now.items c.decide.new.into.items c.decide.result c.decide.ensures.certified)

pub returns-in-Settled-clause-leads : goal.returns-in-Settled-clause-leads
returns-in-Settled-clause-leads c =
    let m = c.args.claims.now.machine.now in
    let h = c.args.claims.now.hint.now in
    let w = c.args.claims.now.width in
    let told = narrow_told w m (question_of h c.args.claim) c.args.size c.requires.size c.requires.narrow in
    let small : nat_lt MOST_CLAIM_NODES (claim_nodes m h c.args.claim) ≡ false = sym told.1 ∙ (sym c.is_large.ensures ∙ c.if-is_large.false) in
    rw c.in-Settled.is (settled_on w m h c.args.claim told.0 c.in-Settled.end small)

pub returns-in-Settled-clause-backed : goal.returns-in-Settled-clause-backed
returns-in-Settled-clause-backed c = subst (λ (s : Standing). IsBackedBy c.args.claims.now.machine.now c.args.claims.now.hint.now s) c.in-Settled.is c.requires.backed

pub returns-in-Settled-clause-certified : goal.returns-in-Settled-clause-certified
returns-in-Settled-clause-certified c = λ claims before all. tt

pub returns-in-Large-clause-leads : goal.returns-in-Large-clause-leads
returns-in-Large-clause-leads c =
    let m = c.args.claims.now.machine.now in
    let h = c.args.claims.now.hint.now in
    let w = c.args.claims.now.width in
    let told = narrow_told w m (question_of h c.args.claim) c.args.size c.requires.size c.requires.narrow in
    rw c.in-Large.is (large_on w m h c.args.claim told.0)
