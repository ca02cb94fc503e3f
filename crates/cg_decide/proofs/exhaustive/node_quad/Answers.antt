use Rattle.std.proofs.Common.{◌+◌, ℕ, subst, arith}
use Rattle.cg_aig.proofs.Fills.{pair_at}
use Rattle.cg_decide.specs.inner.Assignments.{IsQuad}
use Rattle.cg_decide.proofs.exhaustive.node_quad.Goals as goal

pub literal_quad-requires : goal.literal_quad-requires
literal_quad-requires c =
    let s = c.args.aig.now in
    let pair = pair_at (1 + s.number) s.pairs c.args.k (c.pair-a.result.0, c.pair-a.result.1) c.leaves-leaves.ensures.well_formed.sound c.pair-a.ensures in
    let ordered = pair.ordered in
    let earlier = pair.earlier in
    omega (arith, ordered, earlier, c.number.ensures, c.requires.earlier)

pub literal_quad-requires-2 : goal.literal_quad-requires-2
literal_quad-requires-2 c =
    let s = c.args.aig.now in
    let pair = pair_at (1 + s.number) s.pairs c.args.k (c.pair-a.result.0, c.pair-a.result.1) c.leaves-leaves.ensures.well_formed.sound c.pair-a.ensures in
    let earlier = pair.earlier in
    omega (arith, earlier, c.number-2.ensures, c.requires.earlier)

pub returns : goal.returns
returns c = λ number are.
    let s = c.args.aig.now in
    let p : ℕ × ℕ = (c.pair-a.result.0, c.pair-a.result.1) in
    c.both.ensures s c.args.k number p c.leaves-leaves.ensures.well_formed.sound c.pair-a.ensures
    (subst (λ l. IsQuad s l number c.literal_quad.result) c.number.ensures (c.literal_quad.ensures s number are))
    (subst (λ l. IsQuad s l number c.literal_quad-2.result) c.number-2.ensures (c.literal_quad-2.ensures s number are))
