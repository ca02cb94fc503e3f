use Rattle.std.proofs.Common.{◌≡◌, ℕ, Bool, List, slice_get, get_or, Some, arith}
use Rattle.std.proofs.lemmas.Option.{slice_get-get_or}
use Rattle.cg_hold_widths.proofs.Counted.{outputs_more}
use Rattle.cg_hold_widths.proofs.leaves.outputs_mask.Goals as goal

pub loop-place-preserved : goal.loop-place-preserved
loop-place-preserved c = λ i.
    let outputs : List (ℕ × Bool) = c.args.outputs.now in
    let place : ℕ = c.loop-place.place in
    let output : ℕ × Bool = get_or outputs place c.index-outputs-place.result in
    let at : slice_get outputs place ≡ Some output = slice_get-get_or outputs place c.index-outputs-place.result (omega (arith, c.loop-place-test.true)) in
    outputs_more c.args.masks.now i c.loop-place.mask c.of-mask.result outputs place output at c.of-mask.ensures (c.loop-place.invariant i)
