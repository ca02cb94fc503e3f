use Rattle.std.proofs.Common.{◌≡◌, ℕ, List, Some, slice_get, sym, ◌∙◌, ap, arith}
use Rattle.std.proofs.lemmas.Option.{slice_get-get_or, slice_get_within}
use Rattle.cg_stability.proofs.Listed.{stages_more}
use Rattle.cg_stability.proofs.candidates.stages.Goals as goal

pub loop-place-preserved : goal.loop-place-preserved
loop-place-preserved c =
    let keys = c.args.groups.now.keys.keys in
    let regs = c.args.groups.now.regs.items in
    let i = c.loop-place.place in
    let below = slice_get_within keys i c.index.result.now c.index.ensures in
    let at : slice_get regs i ≡ Some c.as_slice.result.now =
    slice_get-get_or regs i c.index-in-loop-place.result.now (omega (arith, below, c.requires)) ∙ ap (λ (l : List ℕ). Some l) (sym c.index-in-loop-place.ensures ∙ sym c.as_slice.ensures.parts) in
    stages_more keys regs i c.index.result.now c.as_slice.result.now c.in_ok-stage.stage c.loop-place.stages c.push.new.self c.requires below c.index.ensures at c.loop-place.invariant c.in_ok-stage.ensures c.in_ok-push.ensures.parts
