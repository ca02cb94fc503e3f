use Rattle.std.proofs.Common.{◌≡◌, IfOk, List, Option, length, map, ◌∙◌, ap, subst, arith}
use Rattle.cg_stage_groups.specs.declared.key.Key.{Key}
use Rattle.cg_stage_groups.specs.Keys.{key_at}
use Rattle.cg_stage_list_laws.specs.Rounds.{kept_key}
use Rattle.cg_stage_list_laws.specs.StableList.{had_stable, stable_stage}
use Rattle.cg_machine.specs.declared.stage.Stage.{Stage}
use Rattle.cg_machine.specs.declared.stage.StageKind.TheVariants.{Stable}
use Rattle.cg_stage_groups.proofs.Listed.{put_back}
use Rattle.cg_stability.proofs.Listed.{list_is}
use Rattle.cg_stability.proofs.candidates.candidates.Goals as goal

pub groups_of-requires : goal.groups_of-requires
groups_of-requires c =
    let good = c.netlist-netlist.ensures.machine in
    let own = good.own_registers in
    let few = good.few_registers in
    let left = ap (λ (l : List (Option Key)). length l) c.deref.ensures.value in
    let old = ap (λ (l : List (Option Key)). length l) c.deref_mut.ensures.value in
    omega (arith, left, old, c.leave_out.auto.keys, c.in_ok-keys.ensures.count, own, few)

pub returns : goal.returns
returns c =
    let m = c.args.machine.now in
    let earlier = c.args.earlier.now in
    let left = c.deref.result.now in
    let new = c.leave_out.new.keys in
    let items = c.in_ok-keys.keys.items in
    let kept : length new ≡ length items = c.leave_out.auto.keys ∙ ap (λ (l : List (Option Key)). length l) c.deref_mut.ensures.value in
    let is : left ≡ new = c.deref.ensures.value ∙ put_back c.in_ok-keys.keys.len new items kept (omega (arith, kept, c.in_ok-keys.keys.ok.0)) in
    let same : length left ≡ length items = ap (λ (l : List (Option Key)). length l) is ∙ kept in
    let whole = ap (map stable_stage) c.in_ok-groups.ensures.groups ∙ list_is m earlier items left c.in_ok-keys.ensures same
    (λ r. ap (λ (l : List (Option Key)). key_at l r) is ∙ (c.in_ok-leave_out.ensures r ∙ ap (λ (l : List (Option Key)). kept_key Stable had_stable earlier (key_at l) r) c.deref_mut.ensures.value)) in
    subst (λ (l : List Stage). IfOk c.stages.result (λ stages. stages ≡ l)) whole c.stages.ensures
