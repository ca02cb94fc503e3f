use Rattle.std.proofs.Common.{◌||◌, ◌∙◌, ap}
use Rattle.cg_net.specs.NetSets.{is_in}
use Rattle.cg_odc.proofs.Listed.{numbers_more}
use Rattle.cg_odc.proofs.kept.keep_groups.Goals as goal

pub loop-place-preserved : goal.loop-place-preserved
loop-place-preserved c = λ y.
    numbers_more c.args.groups.now.keys.keys c.loop-place.place c.index.result.now y (is_in c.args.kept.now.keys y) (is_in c.loop-place.kept.keys y) (is_in c.keep.new.kept.keys y) c.index.ensures (c.loop-place.invariant y)
    (c.in_ok-keep.ensures y ∙ ap (λ l. is_in c.loop-place.kept.keys y || is_in l y) c.deref.ensures.value)
