use Rattle.std.proofs.Common.{◌≡◌, ◌+◌, ◌<◌, ℕ, List, length, take, drop, slice_get, get_or, Some, sym, ap, subst, arith}
use Rattle.std.specs.Prelude.{◌^◌}
use Rattle.std.specs.List.{All}
use Rattle.std.proofs.lemmas.List.{take_at}
use Rattle.std.proofs.lemmas.Option.{slice_get-get_or}
use Rattle.cg_hold_widths.specs.inner.Counts.{AreCounts}
use Rattle.cg_hold_widths.proofs.Counted.{counts_more, counts_room}
use Rattle.cg_hold_widths.proofs.counts.counts.Goals as goal

pub count-requires-clause-room : goal.count-requires-clause-room
count-requires-clause-room c =
    subst (All (λ n. n + 1 < 2 ^ 64)) (sym c.deref_mut.ensures.value)
    (counts_room c.args.masks.now c.loop-mask.counts.items c.loop-mask.mask-index (omega (arith, c.loop-mask-test.true)) (omega arith) c.loop-mask.invariant)

pub loop-mask-preserved : goal.loop-mask-preserved
loop-mask-preserved c =
    let masks : List ℕ = c.args.masks.now in
    let place : ℕ = c.loop-mask.mask-index in
    let old : List ℕ = c.deref_mut.result.now in
    let new : List ℕ = c.count.new.counts in
    let mask : ℕ = get_or masks place 0 in
    let at : slice_get masks place ≡ Some mask = slice_get-get_or masks place 0 (omega (arith, c.loop-mask-test.true)) in
    let long : length new ≡ length old = c.count.auto.counts in
    let lent : length old ≡ length c.loop-mask.counts.items = ap length c.deref_mut.ensures.value in
    let all : length new ≡ c.loop-mask.counts.len = omega (arith, long, lent, c.loop-mask.counts.ok.0) in
    subst (AreCounts (take (place + 1) masks)) (sym (take_at new (drop (length new) c.loop-mask.counts.items) c.loop-mask.counts.len all))
    (counts_more masks old new place mask at (subst (AreCounts (take place masks)) (sym c.deref_mut.ensures.value) c.loop-mask.invariant) long c.count.ensures)
