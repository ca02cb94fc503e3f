use Rattle.std.proofs.Common.{◌≡◌, ◌+◌, Option, Some, None, Result, Ok, Err, IfErr, List, ◌∷◌, slice_get, drop, take, rules, refl, sym, ◌∙◌}
use Rattle.std.proofs.Common.{ap, subst}
use Rattle.std.specs.Option.{option_map}
use Rattle.std.proofs.lemmas.Option.{slice_get-map, slice_get_read}
use Rattle.cg_netlist.specs.declared.fault.AddFault.{AddFault}
use Rattle.cg_plan_laws.specs.StageClaims.{NamedClaim, claims_of}
use Rattle.cg_plan_laws.specs.Reported.{MayFail}
use Rattle.cg_plan_laws.specs.Trying.{Tried, decided, measured}
use Rattle.cg_plan_laws.specs.declared.outcome.Outcome.{Outcome}
use Rattle.cg_plan.specs.inner.Deciding.{Settles}
use Rattle.cg_plan.specs.inner.Judging.{IsJudged, IsSettled}
use Rattle.cg_plan.specs.inner.Measuring.{IsBuilt, wide_end}
use Rattle.cg_plan.specs.inner.Naming.{NameFits, claims_named, named, question_of}
use Rattle.cg_plan.proofs.Deciding.{goal_is, grow_on}
use Rattle.cg_plan.proofs.Judging.{settled_next, wide_ends}
use Rattle.cg_plan.proofs.Measuring.{measured_fault, measured_on}
use Rattle.cg_plan.proofs.Naming.{claims_at, claims_to, sides_fit}
use Rattle.cg_unroll.specs.Claims.{IsClaim}
use Rattle.cg_plan.proofs.judge.Judge.judge_each.Goals as goal

pub returns-in_err-end-clause-fault : goal.returns-in_err-end-clause-fault
returns-in_err-end-clause-fault c =
    let m = c.args.claims.now.machine.now in
    let s = c.args.claims.now.stage.now in
    let w = c.args.claims.now.width in
    let names = c.args.claims.now.names.now in
    let i = c.loop-name.name-index in
    let name = c.name-item.result in
    let q = question_of m s name in
    let rest = claims_named m s (drop (i + 1) names) in
    let at : slice_get names i ≡ Some name = slice_get_read names _ i name refl c.loop-name-test.true c.name-item.is in
    let left = ap (λ (l : List NamedClaim). measured m w l (decided m s)) (sym (claims_at m s names i name at)) ∙ c.loop-name.invariant.left in
    let fault = c.in_err-end.field-0.0 in
    let same : c.from_residual.result ≡ Err fault = search rules in
    subst (λ (r : Result (Option Outcome) AddFault). IfErr r (MayFail (measured m w (claims_of m s) (decided m s)))) (sym same)
    (subst (λ (t : Tried). MayFail t fault) left (measured_fault m w (name, q) rest (decided m s) fault c.in_err-end.ensures.end))

pub returns-in-Some-clause-judged : goal.returns-in-Some-clause-judged
returns-in-Some-clause-judged c =
    let m = c.args.claims.now.machine.now in
    let s = c.args.claims.now.stage.now in
    let w = c.args.claims.now.width in
    let names = c.args.claims.now.names.now in
    let i = c.loop-name.name-index in
    let name = c.name-item.result in
    let q = question_of m s name in
    let rest = claims_named m s (drop (i + 1) names) in
    let at : slice_get names i ≡ Some name = slice_get_read names _ i name refl c.loop-name-test.true c.name-item.is in
    let left = ap (λ (l : List NamedClaim). measured m w l (decided m s)) (sym (claims_at m s names i name at)) ∙ c.loop-name.invariant.left in
    let end = c.in-Some.end in
    let one : wide_end m w (named m s name) ≡ Ok (Some end) = subst (λ (z : Option Outcome). wide_end m w (named m s name) ≡ Ok z) c.in-Some.is c.in_ok-end.ensures.end in
    subst (λ (t : Tried). IsJudged m s t (Some end)) left (wide_ends m s w (name, q) rest (decided m s) end one)

pub returns-in_err-settled-clause-grown : goal.returns-in_err-settled-clause-grown
returns-in_err-settled-clause-grown c = grow_on c.args.into.now.items c.loop-name.into.items c.settle.new.into.items c.loop-name.invariant.grown c.settle.ensures.grown

pub settle-requires : goal.settle-requires
settle-requires c =
    let m = c.args.claims.now.machine.now in
    let s = c.args.claims.now.stage.now in
    let w = c.args.claims.now.width in
    let q = question_of m s c.name-item.result in
    let built : IsClaim m q w c.measure.new.unroller = subst (IsBuilt m q w c.measure.new.unroller) c.in_default.is c.in_ok-end.ensures.built in
    goal_is m q w c.measure.new.unroller built

pub loop-name-preserved : goal.loop-name-preserved
loop-name-preserved c =
    let m = c.args.claims.now.machine.now in
    let s = c.args.claims.now.stage.now in
    let w = c.args.claims.now.width in
    let number = c.args.claims.now.number in
    let proof = c.args.claims.now.proof in
    let names = c.args.claims.now.names.now in
    let i = c.loop-name.name-index in
    let name = c.name-item.result in
    let q = question_of m s name in
    let rest = claims_named m s (drop (i + 1) names) in
    let before = c.args.into.now.items in
    let middle = c.loop-name.into.items in
    let after = c.settle.new.into.items in
    let was = c.loop-name.settled in
    let now = c.in_ok-settled.settled in
    let at : slice_get names i ≡ Some name = slice_get_read names _ i name refl c.loop-name-test.true c.name-item.is in
    let there : slice_get (claims_of m s) i ≡ Some (name, q) = ap (λ (l : List NamedClaim). slice_get l i) (sym c.requires.names.whole) ∙ (slice_get-map (named m s) names i ∙ ap (option_map (named m s)) at) in
    let claims = claims_at m s names i name at in
    let fits : NameFits m name = subst (NameFits m) (sym c.name-item.is) (c.requires.names.fit i name c.loop-name-test.true) in
    let built : IsClaim m q w c.measure.new.unroller = subst (IsBuilt m q w c.measure.new.unroller) c.in_default.is c.in_ok-end.ensures.built in
    let none : wide_end m w (named m s name) ≡ Ok None = subst (λ (end : Option Outcome). wide_end m w (named m s name) ≡ Ok end) c.in_default.is c.in_ok-end.ensures.end in
    let open_before : IsSettled proof m number s (claims_named m s (take i names)) ((name, q) ∷ rest) before middle was = subst (λ (l : List NamedClaim). IsSettled proof m number s (claims_named m s (take i names)) l before middle was) claims c.loop-name.invariant.settled in
    let next : Settles proof m number (name, q) middle after was now = c.in_ok-settled.ensures.settles m q w c.netlist-netlist.ensures.machine (sides_fit m s name fits) built in
    record {
      left = sym (measured_on m w (name, q) rest (decided m s) none) ∙ (ap (λ (l : List NamedClaim). measured m w l (decided m s)) (sym claims) ∙ c.loop-name.invariant.left);
      settled = subst (λ (l : List NamedClaim). IsSettled proof m number s l rest before after now) (sym (claims_to m s names i name at))
          (settled_next proof m number s i name q (claims_named m s (take i names)) rest before middle after was now there open_before next);
      grown = grow_on before middle after c.loop-name.invariant.grown c.settle.ensures.grown;
    }
