use Rattle.std.proofs.Common.{◌≡◌, ◌+◌, suc, take, ◌++◌, ◌∷◌, [], List, ℕ, Some, slice_get, ap, sym, ◌∙◌, arith}
use Rattle.cg_stage_groups.proofs.finder.numbers_of.Goals as goal
use Rattle.cg_net.proofs.TableLemmas.{take_end}

pub loop-place-preserved : goal.loop-place-preserved
loop-place-preserved c =
    let nets = c.args.nets.now in
    let i = c.loop-place.place in
    let x = c.number.result in
    let at : slice_get nets i ≡ Some x = c.net.ensures ∙ ap Some (sym c.number.ensures.number) in
    let next : i + 1 ≡ suc i = omega arith in
    let longer : take (i + 1) nets ≡ take i nets ++ x ∷ [] = ap (λ n. take n nets) next ∙ take_end nets i x at in
    c.in_ok-push.ensures.items ∙ (ap (λ (l : List ℕ). l ++ x ∷ []) c.loop-place.invariant ∙ sym longer)
