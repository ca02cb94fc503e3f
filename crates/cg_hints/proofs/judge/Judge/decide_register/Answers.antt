use Rattle.std.proofs.Common.{◌≡◌, false, [], append-nil, Option, Some, refl, sym, ◌∙◌, subst}
use Rattle.cg_judge.proofs.There.{verdict_there}
use Rattle.cg_judge.specs.Verdict.{IsVerdict, ProvesWhere}
use Rattle.cg_judge.specs.declared.verdict.Proof.{Proof}
use Rattle.cg_judge.specs.declared.verdict.Verdict.{Verdict}
use Rattle.cg_judge.specs.declared.verdict.Verdict.TheVariants.{Never, Sometimes}
use Rattle.cg_hint_laws.specs.Trying.{question_of}
use Rattle.cg_hint_laws.specs.declared.outcome.HintClaim.TheVariants.{Hold}
use Rattle.cg_hints.proofs.Decided.{do_violate, formula_said, goal_is, goal_there, hold_certified, hold_never, hold_sometimes, hold_uncertified, is_violated, never_violated}
use Rattle.cg_hints.proofs.judge.Judge.decide_register.Goals as goal

pub decide-requires : goal.decide-requires
decide-requires c =
    let claim = c.args.self.now.unroller in
    let h = c.args.claims.now.hint.now in
    goal_there claim.aig c.aig.result.now claim.goal c.goal.result claim.leaves c.leaves.result.now c.aig.ensures c.goal.ensures c.leaves.ensures
    (goal_is c.hint_laws.ensures.never c.args.claims.now.machine.now (question_of h (Hold c.args.reg)) c.args.claims.now.width claim c.netlist-netlist.ensures.machine c.requires.there.asked c.requires.built)

pub returns-in-Never-None-clause-decides : goal.returns-in-Never-None-clause-decides
returns-in-Never-None-clause-decides c =
    let m = c.args.claims.now.machine.now in
    let h = c.args.claims.now.hint.now in
    let w = c.args.claims.now.width in
    let q = question_of h (Hold c.args.reg) in
    let claim = c.args.self.now.unroller in
    let proof = c.args.claims.now.proof in
    let told : IsVerdict claim.aig claim.goal claim.leaves proof (Never c.in-Never-None.field-0) = subst (λ (v : Verdict). IsVerdict claim.aig claim.goal claim.leaves proof v) c.in-Never-None.is
    (verdict_there c.aig.result.now claim.aig c.goal.result claim.goal c.leaves.result.now claim.leaves proof c.in_ok-decide.field-0 c.aig.ensures c.goal.ensures c.leaves.ensures c.in_ok-decide.ensures) in
    hold_never m h c.args.reg (never_violated c.hint_laws.ensures.never m q w claim c.netlist-netlist.ensures.machine c.requires.there.asked c.requires.built told.0)

pub returns-in-Never-None-clause-certified : goal.returns-in-Never-None-clause-certified
returns-in-Never-None-clause-certified c =
    let m = c.args.claims.now.machine.now in
    let h = c.args.claims.now.hint.now in
    let claim = c.args.self.now.unroller in
    let proof = c.args.claims.now.proof in
    let told : IsVerdict claim.aig claim.goal claim.leaves proof (Never c.in-Never-None.field-0) = subst (λ (v : Verdict). IsVerdict claim.aig claim.goal claim.leaves proof v) c.in-Never-None.is
    (verdict_there c.aig.result.now claim.aig c.goal.result claim.goal c.leaves.result.now claim.leaves proof c.in_ok-decide.field-0 c.aig.ensures c.goal.ensures c.leaves.ensures c.in_ok-decide.ensures) in
    let unwanted : proof ≡ false = subst (λ (o : Option Proof). ProvesWhere claim.aig claim.goal proof o) c.in-Never-None.field-0-is told.1 in
    hold_uncertified m h proof c.args.claims.now.number c.args.reg c.args.into.now.items unwanted

pub returns-in_ok-push-in-Never-Some-clause-decides : goal.returns-in_ok-push-in-Never-Some-clause-decides
returns-in_ok-push-in-Never-Some-clause-decides c =
    let m = c.args.claims.now.machine.now in
    let h = c.args.claims.now.hint.now in
    let w = c.args.claims.now.width in
    let q = question_of h (Hold c.args.reg) in
    let claim = c.args.self.now.unroller in
    let proof = c.args.claims.now.proof in
    let told : IsVerdict claim.aig claim.goal claim.leaves proof (Never c.in-Never-Some.field-0) = subst (λ (v : Verdict). IsVerdict claim.aig claim.goal claim.leaves proof v) c.in-Never-Some.is
    (verdict_there c.aig.result.now claim.aig c.goal.result claim.goal c.leaves.result.now claim.leaves proof c.in_ok-decide.field-0 c.aig.ensures c.goal.ensures c.leaves.ensures c.in_ok-decide.ensures) in
    hold_never m h c.args.reg (never_violated c.hint_laws.ensures.never m q w claim c.netlist-netlist.ensures.machine c.requires.there.asked c.requires.built told.0)

pub returns-in_ok-push-in-Never-Some-clause-certified : goal.returns-in_ok-push-in-Never-Some-clause-certified
returns-in_ok-push-in-Never-Some-clause-certified c =
    let m = c.args.claims.now.machine.now in
    let h = c.args.claims.now.hint.now in
    let w = c.args.claims.now.width in
    let number = c.args.claims.now.number in
    let reg = c.args.reg in
    let q = question_of h (Hold reg) in
    let claim = c.args.self.now.unroller in
    let proof = c.args.claims.now.proof in
    let given = c.in-Never-Some.proof in
    let told : IsVerdict claim.aig claim.goal claim.leaves proof (Never c.in-Never-Some.field-0) = subst (λ (v : Verdict). IsVerdict claim.aig claim.goal claim.leaves proof v) c.in-Never-Some.is
    (verdict_there c.aig.result.now claim.aig c.goal.result claim.goal c.leaves.result.now claim.leaves proof c.in_ok-decide.field-0 c.aig.ensures c.goal.ensures c.leaves.ensures c.in_ok-decide.ensures) in
    let proves : ProvesWhere claim.aig claim.goal proof (Some given) = subst (λ (o : Option Proof). ProvesWhere claim.aig claim.goal proof o) c.in-Never-Some.field-0-is told.1 in
    hold_certified m h proof number reg c.args.into.now.items c.push.new.self.items (record { number = number; reg = reg; formula = given.formula; log = given.log }) proves.0 c.in_ok-push-in-Never-Some.ensures.items (record {
      number = refl;
      register = refl;
      formula = formula_said c.hint_laws.ensures.never m q w claim c.netlist-netlist.ensures.machine c.requires.there.asked c.requires.built given.formula proves.1.formula;
      accepted = proves.1.accepted;
      formula_fits = proves.1.formula_fits;
      log_fits = proves.1.log_fits;
    })

pub returns-in_err-push-in-Never-Some-clause-grown : goal.returns-in_err-push-in-Never-Some-clause-grown
returns-in_err-push-in-Never-Some-clause-grown c = record { more = []; whole = c.in_err-push-in-Never-Some.ensures.items ∙ sym (append-nil c.args.into.now.items) }

pub returns-in-Sometimes-clause-decides : goal.returns-in-Sometimes-clause-decides
returns-in-Sometimes-clause-decides c =
    let m = c.args.claims.now.machine.now in
    let h = c.args.claims.now.hint.now in
    let w = c.args.claims.now.width in
    let q = question_of h (Hold c.args.reg) in
    let claim = c.args.self.now.unroller in
    let proof = c.args.claims.now.proof in
    let bits = c.in-Sometimes.bits in
    let good = c.netlist-netlist.ensures.machine in
    let asked = c.requires.there.asked in
    let built = c.requires.built in
    let told : IsVerdict claim.aig claim.goal claim.leaves proof (Sometimes bits) = subst (λ (v : Verdict). IsVerdict claim.aig claim.goal claim.leaves proof v) c.in-Sometimes.is
    (verdict_there c.aig.result.now claim.aig c.goal.result claim.goal c.leaves.result.now claim.leaves proof c.in_ok-decide.field-0 c.aig.ensures c.goal.ensures c.leaves.ensures c.in_ok-decide.ensures) in
    hold_sometimes m h c.args.reg bits (is_violated c.hint_laws.ensures.never m q w claim good asked built _ told.one)
    (do_violate c.hint_laws.ensures.never m q w claim good asked built c.hint_laws.ensures.goal bits told)
