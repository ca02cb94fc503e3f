use Rattle.std.proofs.Common.{◌≡◌, ◌+◌, ℕ, List, slice_get, Some, refl, ◌∙◌, ap, take, arith}
use Rattle.std.proofs.lemmas.List.{take_all}
use Rattle.cg_hold_widths.specs.inner.Marked.{own_count}
use Rattle.std.specs.List.{count_by}
use Rattle.std.proofs.lemmas.Option.{slice_get_read}
use Rattle.cg_hold_widths.specs.inner.Counts.{ones}
use Rattle.cg_hold_widths.specs.inner.Masks.{has_bit}
use Rattle.cg_hold_widths.proofs.Ahead.{own_more}
use Rattle.cg_hold_widths.proofs.Counted.{count_push}
use Rattle.cg_hold_widths.proofs.leaves.push_own.Goals as goal

pub loop-place-preserved : goal.loop-place-preserved
loop-place-preserved c = λ i.
    let regs : List ℕ = c.args.regs.now in
    let place : ℕ = c.loop-place.place in
    let r : ℕ = c.index-regs-place.result in
    let at : slice_get regs place ≡ Some r = slice_get_read regs _ place r refl c.loop-place-test.true c.index-regs-place.is in
    let pushed : count_by (has_bit i) c.push.new.self.items ≡ count_by (has_bit i) c.loop-place.leaves.items + ones (has_bit i c.own_mask.result) = ap (count_by (has_bit i)) c.in_ok-push.ensures.items ∙ count_push (has_bit i) c.loop-place.leaves.items c.own_mask.result in
    let one = ap ones (c.own_mask.ensures i) in
    let more = own_more regs place r at c.args.machine.now c.args.masks.now i in
    let before = c.loop-place.invariant i in
    omega (arith, pushed, one, more, before)

pub returns : goal.returns
returns c = λ i.
    let xs : List ℕ = c.args.regs.now in
    let whole : take c.loop-place.place xs ≡ xs = take_all c.loop-place.place xs (omega (arith, c.loop-place-test.false)) in
    c.loop-place.invariant i ∙ ap (λ l. count_by (has_bit i) c.args.leaves.now.items + own_count c.args.machine.now c.args.masks.now l i) whole
