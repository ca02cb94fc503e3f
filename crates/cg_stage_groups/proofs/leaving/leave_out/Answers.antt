use Rattle.std.proofs.Common.{◌≡◌, ◌&&◌, if◌then◌else◌, Option, Some, slice_get, refl, ◌∙◌, ap}
use Rattle.std.proofs.lemmas.Option.{slice_get_read}
use Rattle.cg_stage_groups.proofs.Left.{kept_more}
use Rattle.cg_stage_groups.specs.Keys.{key_at}
use Rattle.cg_stage_groups.specs.Leaving.{had_key, tried_key, without}
use Rattle.cg_stage_list_laws.specs.Rounds.{same_kind}
use Rattle.cg_stage_list_laws.specs.StableList.{StableKey}
use Rattle.cg_net.specs.NetSets.{is_in}
use Rattle.cg_stage_groups.proofs.leaving.leave_out.Goals as goal

pub loop-before-preserved : goal.loop-before-preserved
loop-before-preserved c = λ r.
    let kind = c.args.kind in
    let earlier = c.args.earlier.now in
    let i = c.loop-before.before-index in
    let e = c.before-item.result in
    let at : slice_get earlier i ≡ Some e = slice_get_read earlier _ i e refl c.loop-before-test.true c.before-item.is in
    c.in_ok-leave_out_of.ensures r
    ∙ (ap (λ (o : Option StableKey). if (same_kind e.stage.kind kind && is_in e.stage.regs r) then without e.inserted (tried_key kind e.stage) o else o) (c.loop-before.invariant r)
    ∙ kept_more kind (had_key kind) earlier i e at (key_at c.args.keys.now) r)
