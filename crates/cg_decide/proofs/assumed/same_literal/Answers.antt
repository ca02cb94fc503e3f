use Rattle.std.proofs.Common.{◌≡◌, ◌<◌, ◌+◌, ◌-◌, ◌/◌, ℕ, Some, length, sym, ◌∙◌, subst, arith}
use Rattle.cg_aig.specs.Aig.{simple}
use Rattle.cg_decide.specs.inner.Assumed.{IsSameThere}
use Rattle.cg_decide.proofs.Following.{IsEqualThere, assumed_is, followed_is, pair_is_same}
use Rattle.cg_decide.proofs.assumed.same_literal.Goals as goal
use Rattle.cg_aig.proofs.Fills.{pair_at}

pub returns-then-assumed-node : goal.returns-then-assumed-node
returns-then-assumed-node c = assumed_is c.args.aig.now c.args.assumed c.args.node c.if-assumed-node.true

pub follow-requires : goal.follow-requires
follow-requires c =
    let s = c.args.aig.now in
    let k = c.args.node - (1 + c.leaves-first.result) in
    let pair = pair_at (1 + s.number) s.pairs k (c.pair-a.result.0, c.pair-a.result.1) c.leaves-first.ensures.well_formed.sound c.pair-a.ensures in
    let ordered = pair.ordered in
    let earlier = pair.earlier in
    omega (arith, ordered, earlier, c.number.ensures, c.requires.earlier, c.if-node-first.false, c.leaves-first.ensures.leaves)

pub follow-requires-2 : goal.follow-requires-2
follow-requires-2 c =
    let s = c.args.aig.now in
    let k = c.args.node - (1 + c.leaves-first.result) in
    let pair = pair_at (1 + s.number) s.pairs k (c.pair-a.result.0, c.pair-a.result.1) c.leaves-first.ensures.well_formed.sound c.pair-a.ensures in
    let earlier = pair.earlier in
    omega (arith, earlier, c.number-2.ensures, c.requires.earlier, c.if-node-first.false, c.leaves-first.ensures.leaves)

pub returns-in-Some : goal.returns-in-Some
returns-in-Some c =
    let s = c.args.aig.now in
    let z = c.args.assumed in
    let same = c.args.same.now in
    let k = c.args.node - (1 + c.leaves-first.result) in
    let p : ℕ × ℕ = (c.pair-a.result.0, c.pair-a.result.1) in
    let pair = pair_at (1 + s.number) s.pairs k p c.leaves-first.ensures.well_formed.sound c.pair-a.ensures in
    let ordered = pair.ordered in
    let earlier = pair.earlier in
    let node : (1 + s.number) + k ≡ c.args.node = omega (arith, c.if-node-first.false, c.leaves-first.ensures.leaves) in
    let low : c.number.result / 2 < length same = omega (arith, ordered, earlier, c.number.ensures, c.requires.earlier, c.if-node-first.false, c.leaves-first.ensures.leaves) in
    let low2 : c.number-2.result / 2 < length same = omega (arith, earlier, c.number-2.ensures, c.requires.earlier, c.if-node-first.false, c.leaves-first.ensures.leaves) in
    let left : IsEqualThere s z p.0 c.follow.result =
    subst (λ x. IsEqualThere s z x c.follow.result) c.number.ensures (subst (IsEqualThere s z c.number.result) (sym c.follow.ensures) (followed_is s z c.number.result same c.requires.same low)) in
    let right : IsEqualThere s z p.1 c.follow-2.result =
    subst (λ x. IsEqualThere s z x c.follow-2.result) c.number-2.ensures (subst (IsEqualThere s z c.number-2.result) (sym c.follow-2.ensures) (followed_is s z c.number-2.result same c.requires.same low2)) in
    let is : simple c.follow.result c.follow-2.result ≡ Some c.in-Some.literal = sym c.simple.ensures ∙ c.in-Some.is in
    subst (λ n. IsSameThere s z n c.in-Some.literal) node
    (pair_is_same s z k p c.follow.result c.follow-2.result c.in-Some.literal c.leaves-first.ensures.well_formed.sound c.pair-a.ensures left right is)
