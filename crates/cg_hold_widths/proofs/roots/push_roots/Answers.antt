use Rattle.std.proofs.Common.{◌≡◌, ◌||◌, ◌&&◌, ℕ, List, ◌-◌, length, drop, take, ap, ◌∙◌, arith}
use Rattle.std.proofs.lemmas.List.{take_rest}
use Rattle.std.specs.Prelude.{◌^◌, ◌%◌, ◌*◌}
use Rattle.cg_claim.specs.Reach.{next_nets}
use Rattle.cg_net.specs.NetSets.{is_in}
use Rattle.cg_hold_widths.specs.inner.Masks.{has_bit, mask_at}
use Rattle.cg_hold_widths.proofs.Ahead.{drop_front}
use Rattle.cg_hold_widths.proofs.Bits.{one_bit}
use Rattle.cg_hold_widths.proofs.roots.push_roots.Goals as goal

pub returns-clause-masks : goal.returns-clause-masks
returns-clause-masks c = λ i y.
    let nets : List ℕ = next_nets c.args.machine.now c.args.reg in
    let old : List ℕ = c.args.roots.now.items in
    let first : ℕ = c.len-first.result in
    let all : List ℕ = c.deref.result.now in
    let is : take (length all - first) (drop first all) ≡ nets = take_rest all first ∙ (ap (drop c.len-first.result) (c.deref.ensures.value ∙ c.in_ok-push_next.ensures) ∙ drop_front old nets c.len-first.result (omega (arith, c.len-first.ensures, c.args.roots.now.ok.0))) in
    c.in_ok-add_all.ensures i y
    ∙ (ap (λ l. has_bit i (mask_at c.args.masks.now y) || (is_in l y && has_bit i (1 * 2 ^ c.args.place % 2 ^ 64))) is
    ∙ ap (λ b. has_bit i (mask_at c.args.masks.now y) || (is_in nets y && b)) (one_bit c.args.place i c.requires.place))
