use Rattle.std.proofs.Common.{◌≡◌, ℕ, List, slice_get, Some, refl, ap, ◌∙◌, ◌+◌, take, arith}
use Rattle.std.proofs.lemmas.List.{take_all}
use Rattle.std.specs.List.{count_by}
use Rattle.std.proofs.lemmas.Option.{slice_get_read}
use Rattle.cg_hold_widths.specs.inner.Marked.{net_has}
use Rattle.cg_hold_widths.specs.inner.Masks.{has_bit}
use Rattle.cg_hold_widths.proofs.Counted.{counted_next}
use Rattle.cg_hold_widths.proofs.leaves.push_inputs.Goals as goal

pub loop-net-preserved : goal.loop-net-preserved
loop-net-preserved c = λ i.
    let xs : List ℕ = c.args.inputs.now in
    let place : ℕ = c.loop-net.net-index in
    let at : slice_get xs place ≡ Some c.net-item.result = slice_get_read xs _ place c.net-item.result refl c.loop-net-test.true c.net-item.is in
    counted_next (has_bit i) (net_has c.args.masks.now i) (count_by (has_bit i) c.args.leaves.now.items) c.loop-net.leaves.items c.push.new.self.items c.of.result xs place c.net-item.result at c.in_ok-push.ensures.items (ap (has_bit i) c.of.ensures) (c.loop-net.invariant i)

pub returns : goal.returns
returns c = λ i.
    let xs : List ℕ = c.args.inputs.now in
    let whole : take c.loop-net.net-index xs ≡ xs = take_all c.loop-net.net-index xs (omega (arith, c.loop-net-test.false)) in
    c.loop-net.invariant i ∙ ap (λ l. count_by (has_bit i) c.args.leaves.now.items + count_by (net_has c.args.masks.now i) l) whole
