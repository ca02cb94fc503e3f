use Rattle.std.proofs.Common.{◌≡◌, ◌++◌, ◌∷◌, [], ℕ, List, None, Some, slice_get, sym, ◌∙◌, ap, arith, take}
use Rattle.std.specs.List.{filter_map}
use Rattle.std.proofs.lemmas.List.{append-nil}
use Rattle.std.proofs.lemmas.Option.{slice_get-get_or, slice_get_within}
use Rattle.cg_stage_groups.specs.Keys.{groups_seen}
use Rattle.cg_stage_list_laws.specs.HoldList.{unless_empty}
use Rattle.cg_stage_list_laws.specs.UnseenList.{unseen_stage}
use Rattle.cg_odc.specs.inner.Kept.{left_stage, not_among}
use Rattle.cg_odc.proofs.Listed.{stage_more, stages_more}
use Rattle.cg_odc.proofs.candidates.stages.Goals as goal
use Rattle.cg_odc.proofs.candidates.stages.Goals.{in-Some+in_ok-push, in_default}

pub loop-place-preserved : goal.loop-place-preserved
loop-place-preserved c =
    let m = c.args.machine.now in
    let held = c.args.kept.now.keys in
    let keys = c.args.groups.now.keys.keys in
    let regs = c.args.groups.now.regs.items in
    let i = c.loop-place.place in
    let k = c.index-in-loop-place.result.now in
    let rs = c.as_slice.result.now in
    let below = slice_get_within keys i k c.index-in-loop-place.ensures in
    let at : slice_get regs i ≡ Some rs =
    slice_get-get_or regs i c.index.result.now (omega (arith, below, c.requires.even)) ∙ ap (λ (l : List ℕ). Some l) (sym c.index.ensures ∙ sym c.as_slice.ensures.parts) in
    let more = stages_more m held keys regs i k rs c.requires.even below c.index-in-loop-place.ensures at in
    let is : c.in_ok-stage.field-0 ≡ unless_empty (unseen_stage m k.numbers.items) (not_among held rs) =
    c.in_ok-stage.ensures ∙ (ap (λ g. unless_empty (unseen_stage m g) c.in_ok-left.left) c.deref.ensures.value ∙ ap (unless_empty (unseen_stage m k.numbers.items)) c.in_ok-left.ensures) in
    let before = filter_map (left_stage m held) (groups_seen (take i keys) (take i regs)) in
    elim c.match-branch-3.branch [
      | in-Some+in_ok-push w ↦ w.stages-is ∙ (w.in_ok-push.ensures.parts ∙ stage_more before _ _ (Some w.in-Some.stage) _ (ap (λ l. l ++ w.in-Some.stage ∷ []) c.loop-place.invariant) (sym w.in-Some.is ∙ is) more)
      | in_default w ↦ w.stages-is ∙ stage_more before _ _ None _ (c.loop-place.invariant ∙ sym (append-nil before)) (sym w.in_default.is ∙ is) more
    ]
