use Rattle.std.proofs.Common.{◌≡◌, ◌∷◌, ◌+◌, ◌*◌, [], List, length, length-append, sym, ap, subst, arith}
use Rattle.cg_decide.specs.declared.lanes.Quad.{Quad}
use Rattle.cg_decide.specs.inner.Assignments.{AreQuads, IsQuad}
use Rattle.cg_decide.proofs.Quads.{quads_push}
use Rattle.cg_decide.proofs.exhaustive.Exhaustive.lay_ands.Goals as goal

pub loop-k-preserved : goal.loop-k-preserved
loop-k-preserved c =
    let s = c.args.aig.now in
    let number = c.args.number in
    let old = c.loop-k.self.quads.items in
    let q = c.node_quad-quad.result in
    let long = ap (λ (l : List Quad). length l) c.in_ok-push.ensures.items in
    let more = length-append old (q ∷ []) in
    let place : 2 * (1 + s.number + c.loop-k.k) ≡ 2 * length old = omega (arith, c.loop-k.invariant.long) in
    record {
      long = omega (arith, long, more, c.loop-k.invariant.long);
      words = subst (AreQuads s number) (sym c.in_ok-push.ensures.items)
          (quads_push s number old q c.loop-k.invariant.words (subst (λ l. IsQuad s l number q) place
          (c.node_quad-quad.ensures number (subst (AreQuads s number) (sym c.deref.ensures.value) c.loop-k.invariant.words))));
    }
