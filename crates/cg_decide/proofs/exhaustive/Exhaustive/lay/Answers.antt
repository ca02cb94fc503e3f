use Rattle.std.proofs.Common.{◌≡◌, ◌∷◌, ◌+◌, ◌-◌, ◌*◌, [], List, length, length-append, sym, ap, subst, arith}
use Rattle.cg_decide.specs.declared.lanes.Quad.{Quad}
use Rattle.cg_decide.specs.inner.Assignments.{AreQuads, IsQuad}
use Rattle.cg_decide.proofs.Quads.{quads_none, quads_push}
use Rattle.cg_decide.proofs.exhaustive.Exhaustive.lay.Goals as goal

pub loop-leaf-init : goal.loop-leaf-init
loop-leaf-init c =
    let s = c.args.aig.now in
    let number = c.args.number in
    let old = c.clear.new.self.items in
    let q = c.zero.result in
    let none = ap (λ (l : List Quad). length l) c.clear.ensures.items in
    let zero : 0 ≡ 2 * length old = omega (arith, none) in
    let long = ap (λ (l : List Quad). length l) c.in_ok-push.ensures.items in
    let more = length-append old (q ∷ []) in
    record {
      long = omega (arith, long, more, none);
      words = subst (AreQuads s number) (sym c.in_ok-push.ensures.items)
          (quads_push s number old q (quads_none s number old c.clear.ensures.items) (subst (λ l. IsQuad s l number q) zero (c.zero.ensures s number)));
    }

pub loop-leaf-preserved : goal.loop-leaf-preserved
loop-leaf-preserved c =
    let s = c.args.aig.now in
    let number = c.args.number in
    let old = c.loop-leaf.self.quads.items in
    let q = c.leaf_quad.result in
    let long = ap (λ (l : List Quad). length l) c.in_ok-push-2.ensures.items in
    let more = length-append old (q ∷ []) in
    let place : 2 * (1 + c.loop-leaf.leaf) ≡ 2 * length old = omega (arith, c.loop-leaf.invariant.long) in
    record {
      long = omega (arith, long, more, c.loop-leaf.invariant.long);
      words = subst (AreQuads s number) (sym c.in_ok-push-2.ensures.items)
          (quads_push s number old q c.loop-leaf.invariant.words (subst (λ l. IsQuad s l number q) place
          (c.leaf_quad.ensures s c.loop-leaf.leaf (omega (arith, c.loop-leaf-test.true, c.leaves-leaves.ensures.leaves)) (ap (λ n. n - 1 - c.loop-leaf.leaf) c.leaves-leaves.ensures.leaves))));
    }
