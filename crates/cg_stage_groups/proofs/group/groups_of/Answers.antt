use Rattle.std.proofs.Common.{◌≡◌, ◌+◌, ℕ, List, Option, Some, slice_get, refl, ap, sym, ◌∙◌}
use Rattle.std.specs.List.{range_with_len}
use Rattle.std.specs.Option.{option_flatten, option_map}
use Rattle.std.proofs.lemmas.Option.{slice_get_read}
use Rattle.cg_stage_groups.specs.declared.key.Key.{Key}
use Rattle.cg_stage_groups.specs.inner.Grouping.{with_key}
use Rattle.cg_stage_groups.specs.Keys.{key_at, key_seen}
use Rattle.cg_stage_list_laws.specs.Groups.{Group, groups}
use Rattle.cg_stage_list_laws.specs.StableList.{StableKey, same_stable}
use Rattle.cg_stage_groups.proofs.Grouped.{groups_more}
use Rattle.cg_stage_groups.proofs.Joined.{stable_is, stable_self}
use Rattle.cg_stage_groups.proofs.Ordered.{range_more, range_new}
use Rattle.cg_stage_groups.proofs.group.groups_of.Goals as goal

next_groups : (keys : List (Option Key)) (r number : ℕ) (item : Option Key) (old new : List (Group StableKey)) → slice_get keys r ≡ Some item → number ≡ r → old ≡ groups same_stable (key_at keys) (range_with_len 0 r)
    → new ≡ with_key same_stable old (option_map key_seen item) number → new ≡ groups same_stable (key_at keys) (range_with_len 0 (r + 1))
next_groups keys r number item old new at is before put =
    put
    ∙ (ap (λ gs. with_key same_stable gs (option_map key_seen item) number) before
    ∙ (ap (λ n. with_key same_stable (groups same_stable (key_at keys) (range_with_len 0 r)) (option_map key_seen item) n) is
    ∙ (ap (λ o. with_key same_stable (groups same_stable (key_at keys) (range_with_len 0 r)) (option_map key_seen (option_flatten o)) r) (sym at)
    ∙ (sym (groups_more same_stable stable_self stable_is (key_at keys) (range_with_len 0 r) r (range_new r))
    ∙ ap (groups same_stable (key_at keys)) (sym (range_more r))))))

pub loop-reg-preserved : goal.loop-reg-preserved
loop-reg-preserved c = record {
  even = c.in_ok-put.ensures.even;
  groups = next_groups c.args.keys.now c.loop-reg.reg c.new-in-loop-reg.result c.index-keys-reg.result _ _ (slice_get_read c.args.keys.now _ c.loop-reg.reg c.index-keys-reg.result refl c.loop-reg-test.true c.index-keys-reg.is) c.new-in-loop-reg.ensures c.loop-reg.invariant.groups c.in_ok-put.ensures.put;
}
