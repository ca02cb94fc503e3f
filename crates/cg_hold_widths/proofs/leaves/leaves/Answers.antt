use Rattle.std.proofs.Common.{◌≡◌, [], ap, arith}
use Rattle.std.specs.List.{count_by}
use Rattle.cg_hold_widths.specs.inner.Marked.{net_has, register_has}
use Rattle.cg_hold_widths.specs.inner.Masks.{has_bit}
use Rattle.cg_hold_widths.proofs.leaves.leaves.Goals as goal

pub returns : goal.returns
returns c = λ i.
    let m = c.args.machine.now in
    let masks = c.args.masks.now in
    let none : count_by (has_bit i) c.new-leaves.result.items ≡ count_by (has_bit i) [] = ap (count_by (has_bit i)) c.new-leaves.ensures.items in
    let inputs = c.in_ok-push_inputs.ensures i in
    let inputs_are = ap (count_by (net_has masks i)) c.as_slice.ensures.parts in
    let registers = c.in_ok-push_registers.ensures i in
    let registers_are = ap (count_by (register_has m masks i)) c.as_slice-2.ensures.parts in
    let own = c.in_ok-push_own.ensures i in
    omega (arith, none, inputs, inputs_are, registers, registers_are, own)
