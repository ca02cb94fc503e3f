use Rattle.std.proofs.Common.{◌≡◌, ℕ, List, slice_get, Some, refl, ap, ◌∙◌, ◌+◌, take, arith}
use Rattle.std.proofs.lemmas.List.{take_all}
use Rattle.std.specs.List.{count_by}
use Rattle.std.proofs.lemmas.Option.{slice_get_read}
use Rattle.cg_hold_widths.specs.inner.Marked.{register_has}
use Rattle.cg_hold_widths.specs.inner.Masks.{has_bit}
use Rattle.cg_hold_widths.proofs.Counted.{counted_next}
use Rattle.cg_hold_widths.proofs.leaves.push_registers.Goals as goal

pub loop-reg-preserved : goal.loop-reg-preserved
loop-reg-preserved c = λ i.
    let xs : List ℕ = c.args.regs.now in
    let place : ℕ = c.loop-reg.reg-index in
    let at : slice_get xs place ≡ Some c.reg-item.result = slice_get_read xs _ place c.reg-item.result refl c.loop-reg-test.true c.reg-item.is in
    counted_next (has_bit i) (register_has c.args.machine.now c.args.masks.now i) (count_by (has_bit i) c.args.leaves.now.items) c.loop-reg.leaves.items c.push.new.self.items c.register_mask.result xs place c.reg-item.result at c.in_ok-push.ensures.items (c.register_mask.ensures i) (c.loop-reg.invariant i)

pub returns : goal.returns
returns c = λ i.
    let xs : List ℕ = c.args.regs.now in
    let whole : take c.loop-reg.reg-index xs ≡ xs = take_all c.loop-reg.reg-index xs (omega (arith, c.loop-reg-test.false)) in
    c.loop-reg.invariant i ∙ ap (λ l. count_by (has_bit i) c.args.leaves.now.items + count_by (register_has c.args.machine.now c.args.masks.now i) l) whole
