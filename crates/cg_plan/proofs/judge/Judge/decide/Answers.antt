use Rattle.std.proofs.Common.{◌≡◌, None, Some, refl, subst}
use Rattle.cg_judge.proofs.There.{verdict_there}
use Rattle.cg_judge.specs.Verdict.{IsVerdict}
use Rattle.cg_judge.specs.declared.verdict.Verdict.TheVariants.{Never, Sometimes}
use Rattle.cg_plan_laws.specs.declared.certificate.Certificate.{Certificate}
use Rattle.cg_plan.proofs.Deciding.{settled_alone, settled_bits, settled_never}
use Rattle.cg_plan.proofs.judge.Judge.decide.Goals as goal

pub returns-in-Never-None-clause-decided : goal.returns-in-Never-None-clause-decided
returns-in-Never-None-clause-decided c = λ m q width good fits is.
    let claim = c.args.self.now.unroller in
    let told = verdict_there c.aig.result.now claim.aig c.goal.result claim.goal c.leaves.result.now claim.leaves c.args.proof c.in_ok-decide.field-0 c.aig.ensures c.goal.ensures c.leaves.ensures c.in_ok-decide.ensures in
    let never : c.in_ok-decide.field-0 ≡ Never None = cc in
    let says = subst (IsVerdict claim.aig claim.goal claim.leaves c.args.proof) never told in
    settled_alone c.claim_laws.ensures.goal c.claim_laws.ensures.never m q width claim good fits is c.args.proof c.args.number c.args.name.now c.args.into.now.items says.1 says.0

pub returns-in_ok-push-in-Never-Some-clause-decided :
    goal.returns-in_ok-push-in-Never-Some-clause-decided
returns-in_ok-push-in-Never-Some-clause-decided c = λ m q width good fits is.
    let claim = c.args.self.now.unroller in
    let proof = c.in-Never-Some.proof in
    let certificate : Certificate = record { stage = c.args.number; claim = c.args.name.now; formula = proof.formula; log = proof.log } in
    let told = verdict_there c.aig.result.now claim.aig c.goal.result claim.goal c.leaves.result.now claim.leaves c.args.proof c.in_ok-decide.field-0 c.aig.ensures c.goal.ensures c.leaves.ensures c.in_ok-decide.ensures in
    let never : c.in_ok-decide.field-0 ≡ Never (Some proof) = cc in
    let says = subst (IsVerdict claim.aig claim.goal claim.leaves c.args.proof) never told in
    settled_never c.claim_laws.ensures.goal c.claim_laws.ensures.never m q width claim good fits is c.args.proof c.args.number c.args.name.now c.args.into.now.items c.push.new.self.items certificate
    says.1.0 says.0 refl refl says.1.1.formula says.1.1.accepted (record { formula = says.1.1.formula_fits; log = says.1.1.log_fits }) c.in_ok-push-in-Never-Some.ensures.items

pub returns-in-Sometimes-clause-decided : goal.returns-in-Sometimes-clause-decided
returns-in-Sometimes-clause-decided c = λ m q width good fits is.
    let claim = c.args.self.now.unroller in
    let bits = c.in-Sometimes.bits in
    let told = verdict_there c.aig.result.now claim.aig c.goal.result claim.goal c.leaves.result.now claim.leaves c.args.proof c.in_ok-decide.field-0 c.aig.ensures c.goal.ensures c.leaves.ensures c.in_ok-decide.ensures in
    let some : c.in_ok-decide.field-0 ≡ Sometimes bits = cc in
    let says = subst (IsVerdict claim.aig claim.goal claim.leaves c.args.proof) some told in
    let found = settled_bits c.claim_laws.ensures.goal c.claim_laws.ensures.never m q width claim good fits is bits says in
    (found.0, record { bits = bits; is = refl; violate = found.1 })
