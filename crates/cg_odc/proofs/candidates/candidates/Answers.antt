use Rattle.std.proofs.Common.{◌≡◌, IfOk, List, Option, length, map, ◌∙◌, ap, subst, arith}
use Rattle.cg_stage_groups.specs.declared.key.Key.{Key}
use Rattle.cg_stage_groups.specs.Keys.{groups_seen, key_at}
use Rattle.cg_stage_groups.proofs.Listed.{put_back}
use Rattle.cg_stage_list_laws.specs.Rounds.{kept_key}
use Rattle.cg_stage_list_laws.specs.UnseenList.{unseen_groups}
use Rattle.cg_machine.specs.declared.stage.Stage.{Stage}
use Rattle.cg_machine.specs.declared.stage.StageKind.TheVariants.{Unseen}
use Rattle.cg_odc.specs.inner.Guarding.{had_guards}
use Rattle.cg_odc.proofs.Keyed.{guard_group}
use Rattle.cg_odc.proofs.Listed.{groups_are, keys_own, stages_are}
use Rattle.cg_odc.proofs.candidates.candidates.Goals as goal

-- the keys that are left, as the slice that the groups are made of
pub groups_of-requires : goal.groups_of-requires
groups_of-requires c =
    let good = c.netlist-netlist.ensures.machine in
    let own = good.own_registers in
    let few = good.few_registers in
    let left = ap (λ (l : List (Option Key)). length l) c.deref.ensures.value in
    let old = ap (λ (l : List (Option Key)). length l) c.deref_mut.ensures.value in
    omega (arith, left, old, c.leave_out.auto.keys, c.in_ok-keys.ensures.count, own, few)

pub stages-requires-clause-own : goal.stages-requires-clause-own
stages-requires-clause-own c =
    let m = c.args.machine.now in
    let earlier = c.args.earlier.now in
    let left = c.deref.result.now in
    let new = c.leave_out.new.keys in
    let items = c.in_ok-keys.keys.items in
    let kept : length new ≡ length items = c.leave_out.auto.keys ∙ ap (λ (l : List (Option Key)). length l) c.deref_mut.ensures.value in
    let is : left ≡ new = c.deref.ensures.value ∙ put_back c.in_ok-keys.keys.len new items kept (omega (arith, kept, c.in_ok-keys.keys.ok.0)) in
    let same : length left ≡ length items = ap (λ (l : List (Option Key)). length l) is ∙ kept in
    keys_own m earlier c.in_ok-groups.groups.keys.keys c.in_ok-groups.groups.regs.items c.in_ok-groups.ensures.even
    (c.in_ok-groups.ensures.groups ∙ groups_are m earlier items left c.in_ok-keys.ensures same
    (λ r. ap (λ (l : List (Option Key)). key_at l r) is ∙ (c.in_ok-leave_out.ensures r ∙ ap (λ (l : List (Option Key)). kept_key Unseen had_guards earlier (key_at l) r) c.deref_mut.ensures.value)))

pub returns : goal.returns
returns c =
    let m = c.args.machine.now in
    let earlier = c.args.earlier.now in
    let left = c.deref.result.now in
    let new = c.leave_out.new.keys in
    let items = c.in_ok-keys.keys.items in
    let kept : length new ≡ length items = c.leave_out.auto.keys ∙ ap (λ (l : List (Option Key)). length l) c.deref_mut.ensures.value in
    let is : left ≡ new = c.deref.ensures.value ∙ put_back c.in_ok-keys.keys.len new items kept (omega (arith, kept, c.in_ok-keys.keys.ok.0)) in
    let same : length left ≡ length items = ap (λ (l : List (Option Key)). length l) is ∙ kept in
    let are : groups_seen c.in_ok-groups.groups.keys.keys c.in_ok-groups.groups.regs.items ≡ map guard_group (unseen_groups m earlier) = c.in_ok-groups.ensures.groups ∙ groups_are m earlier items left c.in_ok-keys.ensures same
    (λ r. ap (λ (l : List (Option Key)). key_at l r) is ∙ (c.in_ok-leave_out.ensures r ∙ ap (λ (l : List (Option Key)). kept_key Unseen had_guards earlier (key_at l) r) c.deref_mut.ensures.value)) in
    let whole = stages_are m c.args.test earlier c.in_ok-groups.groups.keys.keys c.in_ok-groups.groups.regs.items c.in_ok-kept.kept.keys c.in_ok-groups.ensures.even are c.in_ok-kept.ensures in
    subst (λ (l : List Stage). IfOk c.stages.result (λ stages. stages ≡ l)) whole c.stages.ensures
