use Rattle.std.proofs.Common.{◌<◌, ◌/◌, List, ℕ, length, sym, ◌∙◌, ap, subst, arith}
use Rattle.std.proofs.lemmas.Bool.{eqb-true}
use Rattle.cg_decide.specs.inner.Assumed.{Agree}
use Rattle.cg_decide.proofs.Following.{zero_excludes}
use Rattle.cg_decide.proofs.assumed.Follower.excludes.Goals as goal

pub returns : goal.returns
returns c = λ is.
    let s = c.args.aig.now in
    let z = c.args.assumed in
    let same = c.deref.result.now in
    let long = ap (λ (l : List ℕ). length l) c.deref.ensures.value in
    let there : c.args.other / 2 < length same = omega (arith, long, c.in_ok-follow_all.ensures.all, c.requires.other) in
    zero_excludes s z c.args.other same (subst (Agree s z) (sym c.deref.ensures.value) c.in_ok-follow_all.ensures.same) there
    (sym c.follow.ensures ∙ eqb-true c.follow.result 0 is)
