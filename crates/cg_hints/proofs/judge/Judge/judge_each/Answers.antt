use Rattle.std.proofs.Common.{◌≡◌, ◌+◌, ℕ, List, Option, Some, Result, IfErr, IfOk, slice_get, drop, take, refl, sym, ◌∙◌, ap, subst}
use Rattle.std.proofs.lemmas.List.{take_all}
use Rattle.std.proofs.lemmas.Option.{slice_get_read}
use Rattle.cg_netlist.specs.declared.fault.AddFault.{AddFault}
use Rattle.cg_hint_laws.specs.Answers.{MayFail}
use Rattle.cg_hint_laws.specs.Trying.{all_claims, question_of}
use Rattle.cg_hint_laws.specs.declared.outcome.HintClaim.{HintClaim}
use Rattle.cg_hint_laws.specs.declared.outcome.HintOutcome.{HintOutcome}
use Rattle.cg_hint_laws.specs.declared.outcome.HintOutcome.TheVariants.{Wide as TooWide}
use Rattle.cg_hints.proofs.Adding.{drop_at, drop_past}
use Rattle.cg_hints.proofs.Appending.{grow_none, grow_on}
use Rattle.cg_hints.proofs.Judging.{claim_there}
use Rattle.cg_hints.proofs.Sizing.{wide_told}
use Rattle.cg_hints.proofs.Turns.{certified_end, ended_all, failed_end, first_certifies, judged_end, take_more, wide_ends}
use Rattle.cg_hints.specs.declared.standing.Standing.TheVariants.{Open}
use Rattle.cg_hints.specs.inner.Deciding.{CertifiesThese}
use Rattle.cg_hints.specs.inner.Judging.{Certifying, IsJudged, by_claims}
use Rattle.cg_hints.specs.inner.Standing.{left_of}
use Rattle.cg_hints.proofs.judge.Judge.judge_each.Goals as goal

pub measure-requires : goal.measure-requires
measure-requires c =
    let names = c.args.names.now in
    let i = c.loop-claim.claim-index in
    let claim = c.claim-item.result in
    let at : slice_get names i ≡ Some claim = slice_get_read names _ i claim refl c.loop-claim-test.true c.claim-item.is in
    claim_there c.args.claims.now.machine.now c.args.claims.now.hint.now c.netlist-netlist.ensures.machine c.requires.fits i claim
    (subst (λ (l : List HintClaim). slice_get l i ≡ Some claim) c.requires.names at)

pub settle-requires-clause-there : goal.settle-requires-clause-there
settle-requires-clause-there c =
    let names = c.args.names.now in
    let i = c.loop-claim.claim-index in
    let claim = c.claim-item.result in
    let at : slice_get names i ≡ Some claim = slice_get_read names _ i claim refl c.loop-claim-test.true c.claim-item.is in
    claim_there c.args.claims.now.machine.now c.args.claims.now.hint.now c.netlist-netlist.ensures.machine c.requires.fits i claim
    (subst (λ (l : List HintClaim). slice_get l i ≡ Some claim) c.requires.names at)

pub loop-claim-init : goal.loop-claim-init
loop-claim-init c =
    let m = c.args.claims.now.machine.now in
    let h = c.args.claims.now.hint.now in
    let w = c.args.claims.now.width in
    let before = c.args.into.now.items in
    record {
      left = ap (λ (l : List HintClaim). left_of w m h Open l) c.requires.names ∙ ended_all w m h;
      backed = tt;
      certified = first_certifies c.args.claims.now.proof c.args.claims.now.number m h before;
      grown = grow_none before;
    }

pub returns-in-Some-clause-judged : goal.returns-in-Some-clause-judged
returns-in-Some-clause-judged c =
    let m = c.args.claims.now.machine.now in
    let h = c.args.claims.now.hint.now in
    let w = c.args.claims.now.width in
    let names = c.args.names.now in
    let i = c.loop-claim.claim-index in
    let claim = c.claim-item.result in
    let size = c.in_ok-size.size in
    let at : slice_get names i ≡ Some claim = slice_get_read names _ i claim refl c.loop-claim-test.true c.claim-item.is in
    let told = wide_told w m (question_of h claim) size c.in_ok-size.ensures.size c.in-Some.leaves (sym c.too_many.ensures ∙ c.in-Some.is) in
    let left = sym (ap (left_of w m h c.loop-claim.standing) (drop_at names i claim at)) ∙ c.loop-claim.invariant.left in
    subst (λ (n : ℕ). IsJudged m h (by_claims w m h) (Some (TooWide claim n))) (sym told.1)
    (wide_ends w m h c.loop-claim.standing claim (drop (i + 1) names) (by_claims w m h) left told.0)

pub returns-in_err-standing-clause-grown : goal.returns-in_err-standing-clause-grown
returns-in_err-standing-clause-grown c = grow_on c.args.into.now.items c.loop-claim.into.items c.settle.new.into.items c.loop-claim.invariant.grown c.settle.ensures.grown

pub loop-claim-preserved : goal.loop-claim-preserved
loop-claim-preserved c =
    let m = c.args.claims.now.machine.now in
    let h = c.args.claims.now.hint.now in
    let w = c.args.claims.now.width in
    let proof = c.args.claims.now.proof in
    let number = c.args.claims.now.number in
    let names = c.args.names.now in
    let i = c.loop-claim.claim-index in
    let claim = c.claim-item.result in
    let before = c.args.into.now.items in
    let after = c.settle.new.into.items in
    let at : slice_get names i ≡ Some claim = slice_get_read names _ i claim refl c.loop-claim-test.true c.claim-item.is in
    let done = c.in_ok-standing.ensures in
    record {
      left = sym (done.leads (drop (i + 1) names)) ∙ (sym (ap (left_of w m h c.loop-claim.standing) (drop_at names i claim at)) ∙ c.loop-claim.invariant.left);
      backed = done.backed;
      certified = subst (λ (l : List HintClaim). CertifiesThese proof number m h l before after c.in_ok-standing.standing) (sym (take_more names i claim at))
          (done.certified (take i names) before c.loop-claim.invariant.certified);
      grown = grow_on before c.loop-claim.into.items after c.loop-claim.invariant.grown c.settle.ensures.grown;
    }

pub returns-clause-judged : goal.returns-clause-judged
returns-clause-judged c =
    let m = c.args.claims.now.machine.now in
    let h = c.args.claims.now.hint.now in
    let w = c.args.claims.now.width in
    let names = c.args.names.now in
    let i = c.loop-claim.claim-index in
    let standing = c.loop-claim.standing in
    let left = sym (ap (left_of w m h standing) (drop_past names i c.loop-claim-test.false)) ∙ c.loop-claim.invariant.left in
    subst (λ (r : Result (Option HintOutcome) AddFault). IfOk r (IsJudged m h (by_claims w m h))) (sym c.end.ensures)
    (judged_end w m h standing (by_claims w m h) left c.loop-claim.invariant.backed)

pub returns-clause-certificates : goal.returns-clause-certificates
returns-clause-certificates c =
    let m = c.args.claims.now.machine.now in
    let h = c.args.claims.now.hint.now in
    let proof = c.args.claims.now.proof in
    let number = c.args.claims.now.number in
    let names = c.args.names.now in
    let i = c.loop-claim.claim-index in
    let standing = c.loop-claim.standing in
    let before = c.args.into.now.items in
    let after = c.loop-claim.into.items in
    let all : take i names ≡ all_claims h = take_all i names c.loop-claim-test.false ∙ c.requires.names in
    subst (λ (r : Result (Option HintOutcome) AddFault). IfOk r (Certifying proof m number h before after)) (sym c.end.ensures)
    (certified_end proof number m h standing before after (subst (λ (l : List HintClaim). CertifiesThese proof number m h l before after standing) all c.loop-claim.invariant.certified))

pub returns-clause-fault : goal.returns-clause-fault
returns-clause-fault c =
    let m = c.args.claims.now.machine.now in
    let h = c.args.claims.now.hint.now in
    let w = c.args.claims.now.width in
    let names = c.args.names.now in
    let i = c.loop-claim.claim-index in
    let standing = c.loop-claim.standing in
    let left = sym (ap (left_of w m h standing) (drop_past names i c.loop-claim-test.false)) ∙ c.loop-claim.invariant.left in
    subst (λ (r : Result (Option HintOutcome) AddFault). IfErr r (MayFail (by_claims w m h))) (sym c.end.ensures)
    (failed_end w m h standing (by_claims w m h) left)
