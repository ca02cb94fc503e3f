use Rattle.std.proofs.Common.{◌*◌, sym, subst, arith}
use Rattle.cg_decide.specs.inner.Assignments.{AreQuads, IsQuad}
use Rattle.cg_decide.proofs.Quads.{never_is, zero_more}
use Rattle.cg_decide.proofs.exhaustive.Exhaustive.find.Goals as goal

pub loop-number-preserved : goal.loop-number-preserved
loop-number-preserved c =
    let s = c.args.aig.now in
    let goal = c.args.goal in
    let number = c.loop-number.number in
    let q = c.literal_quad.result in
    let words = subst (AreQuads s number) (sym c.deref.ensures.value) c.in_ok-lay.ensures.words in
    let is = subst (λ l. IsQuad s l number q) c.number.ensures (c.literal_quad.ensures s number words) in
    zero_more s goal number q c.loop-number.invariant is (c.first_one.ensures.none c.in_default.is)

pub returns : goal.returns
returns c = λ none.
    never_is c.args.aig.now c.args.goal (256 * c.loop-number.number) c.loop-number.invariant (omega (arith, c.requires.all, c.loop-number-test.false))
