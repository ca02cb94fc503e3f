use Rattle.std.proofs.Common.{◌≡◌, ◌+◌, ◌-◌, ◌*◌, ◌/◌, Bool, true, ℕ, Result, Ok, Err, IfOk, subst, arith}
use Rattle.std.specs.declared.alloc.AllocError.{AllocError}
use Rattle.cg_aig.specs.AigLaws.{lit_is}
use Rattle.cg_decide.specs.Decision.{IsNeverOne}
use Rattle.cg_decide.specs.inner.Assumed.{Excludes}
use Rattle.cg_decide.proofs.Following.{excluded_is, excluded_is_right}
use Rattle.cg_decide.proofs.assumed.Follower.shows_never.Goals as goal
use Rattle.cg_aig.proofs.Fills.{pair_at}

pub excludes-requires : goal.excludes-requires
excludes-requires c =
    let s = c.args.aig.now in
    let k = c.number-number.result / 2 - (1 + c.leaves-first.result) in
    let pair = pair_at (1 + s.number) s.pairs k (c.pair-a.result.0, c.pair-a.result.1) c.leaves-first.ensures.well_formed.sound c.pair-a.ensures in
    let earlier = pair.earlier in
    let valid = lit_is s c.args.goal c.requires in
    let node = valid.node in
    record { other = omega (arith, earlier, node, c.number-2.ensures, c.number-number.ensures, c.if-number-first.false, c.leaves-first.ensures.leaves) }

pub excludes-requires-2 : goal.excludes-requires-2
excludes-requires-2 c =
    let s = c.args.aig.now in
    let k = c.number-number.result / 2 - (1 + c.leaves-first.result) in
    let pair = pair_at (1 + s.number) s.pairs k (c.pair-a.result.0, c.pair-a.result.1) c.leaves-first.ensures.well_formed.sound c.pair-a.ensures in
    let ordered = pair.ordered in
    let earlier = pair.earlier in
    let valid = lit_is s c.args.goal c.requires in
    let node = valid.node in
    record { other = omega (arith, ordered, earlier, node, c.number-4.ensures, c.number-number.ensures, c.if-number-first.false, c.leaves-first.ensures.leaves) }

pub returns-then-branch : goal.returns-then-branch
returns-then-branch c = λ so bits long.
    let s = c.args.aig.now in
    let k = c.number-number.result / 2 - (1 + c.leaves-first.result) in
    let p : ℕ × ℕ = (c.pair-a.result.0, c.pair-a.result.1) in
    let is : c.args.goal ≡ 2 * (1 + s.number + k) = omega (arith, c.number-number.ensures, c.if-number-eq1.false, c.if-number-first.false, c.leaves-first.ensures.leaves) in
    let seen : Excludes s c.number.result c.number-2.result = c.in_ok-excludes.ensures c.if-branch.true in
    let exclude : Excludes s p.0 p.1 = subst (λ x. Excludes s x p.1) c.number.ensures (subst (λ y. Excludes s c.number.result y) c.number-2.ensures seen) in
    excluded_is s k c.args.goal p c.leaves-first.ensures.well_formed.sound c.pair-a.ensures is exclude bits long

mapped : (P Q : Type 0) (r : Result Bool AllocError) → (P → Q) → IfOk r (λ b. b ≡ true → P) → IfOk r (λ b. b ≡ true → Q)
mapped P Q (Ok b) f h = λ is. f (h is)
mapped P Q (Err e) f h = tt

pub returns : goal.returns
returns c =
    let s = c.args.aig.now in
    let k = c.number-number.result / 2 - (1 + c.leaves-first.result) in
    let p : ℕ × ℕ = (c.pair-a.result.0, c.pair-a.result.1) in
    let is : c.args.goal ≡ 2 * (1 + s.number + k) = omega (arith, c.number-number.ensures, c.if-number-eq1.false, c.if-number-first.false, c.leaves-first.ensures.leaves) in
    mapped (Excludes s c.number-3.result c.number-4.result) (IsNeverOne s c.args.goal) c.excludes-2.result
    (λ seen. excluded_is_right s k c.args.goal p c.leaves-first.ensures.well_formed.sound c.pair-a.ensures is
    (subst (λ x. Excludes s x p.0) c.number-3.ensures (subst (λ y. Excludes s c.number-3.result y) c.number-4.ensures seen)))
    c.excludes-2.ensures
