use Rattle.std.proofs.Common.{◌≡◌, ◌+◌, Bool, arith, get_or, length, set, subst, sym, take}
use Rattle.std.proofs.lemmas.Option.{slice_get-get_or}
use Rattle.cg_aig.specs.Aig.{values_from}
use Rattle.cg_aig.proofs.Fills.{and_more, pair_within}
use Rattle.cg_aig.proofs.values.fill_ands.Goals as goal

pub both-requires : goal.both-requires
both-requires c =
    let within = pair_within c.args.first (length c.loop-k.buffer) c.args.pairs.now c.loop-k.k c.requires.sound c.loop-k-test.true (omega arith) in
    record { left = within.left; right = within.right }

pub loop-k-preserved : goal.loop-k-preserved
loop-k-preserved c =
    subst (λ (b : Bool). take (c.args.first + (c.loop-k.k + 1)) (set c.loop-k.buffer (c.args.first + c.loop-k.k) b)
    ≡ values_from (take c.args.first c.args.buffer.now) (take (c.loop-k.k + 1) c.args.pairs.now))
    (sym c.both.ensures)
    (and_more c.args.first (take c.args.first c.args.buffer.now) c.loop-k.buffer c.args.pairs.now c.loop-k.k
    (get_or c.args.pairs.now c.loop-k.k (0, 0)) c.requires.sound
    (slice_get-get_or c.args.pairs.now c.loop-k.k (0, 0) c.loop-k-test.true) (omega arith) c.loop-k.invariant)
