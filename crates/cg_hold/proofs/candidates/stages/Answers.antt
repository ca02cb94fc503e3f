use Rattle.std.proofs.Common.{◌++◌, [], false, true, ap, ◌∙◌}
use Rattle.std.specs.List.{cons_option}
use Rattle.cg_hold.specs.inner.Choosing.{stage_at}
use Rattle.cg_hold.proofs.Taken.{both_more}
use Rattle.cg_hold.proofs.candidates.stages.Goals as goal

pub loop-number-preserved : goal.loop-number-preserved
loop-number-preserved c =
    let lists = c.args.lists.now in
    both_more lists c.loop-number.number c.loop-number.stages c.push_stage.new.stages c.push_stage-in-loop-number.new.stages c.loop-number.invariant
    (c.in_ok-push_stage.ensures ∙ ap (λ y. c.loop-number.stages ++ cons_option (stage_at lists (y, false)) []) c.new-net.ensures)
    (c.in_ok-push_stage-2.ensures ∙ ap (λ y. c.push_stage.new.stages ++ cons_option (stage_at lists (y, true)) []) c.new-net.ensures)
