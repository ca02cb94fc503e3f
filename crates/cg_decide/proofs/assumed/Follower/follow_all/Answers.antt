use Rattle.std.proofs.Common.{◌∷◌, [], List, ℕ, length, length-append, sym, ap, subst, arith}
use Rattle.cg_decide.specs.inner.Assumed.{Agree, IsSameThere}
use Rattle.cg_decide.proofs.Following.{agree_push}
use Rattle.cg_decide.proofs.assumed.Follower.follow_all.Goals as goal

pub loop-node-preserved : goal.loop-node-preserved
loop-node-preserved c =
    let s = c.args.aig.now in
    let z = c.args.assumed in
    let old = c.loop-node.self.same.items in
    let literal = c.same_literal-literal.result in
    let long = ap (λ (l : List ℕ). length l) c.in_ok-push.ensures.items in
    let more = length-append old (literal ∷ []) in
    record {
      long = omega (arith, long, more, c.loop-node.invariant.long);
      agree = subst (Agree s z) (sym c.in_ok-push.ensures.items)
          (agree_push s z literal old c.loop-node.invariant.agree (subst (λ n. IsSameThere s z n literal) (sym c.loop-node.invariant.long) c.same_literal-literal.ensures));
    }
