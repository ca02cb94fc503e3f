-- The stages of groups, one after another, and the list that the keys of all registers make.
use Rattle.std.proofs.Common.{◌≡◌, ℕ, suc, ◌+◌, ◌<◌, List, [], ◌∷◌, ◌++◌, map, length, take, slice_get, Option, Some, sym, ◌∙◌, ap}
use Rattle.std.proofs.Common.{arith}
use Rattle.std.specs.List.{range_with_len}
use Rattle.std.proofs.lemmas.List.{length-take-le}
use Rattle.cg_stage_groups.proofs.Listed.{map-push, seen_push}
use Rattle.cg_stage_groups.proofs.Same.{same_groups}
use Rattle.cg_stage_groups.specs.declared.key.Key.{Key}
use Rattle.cg_stage_groups.specs.Keys.{groups_seen, key_at, key_seen}
use Rattle.cg_stage_list_laws.specs.Groups.{Group, groups}
use Rattle.cg_stage_list_laws.specs.Rounds.{kept_key}
use Rattle.cg_stage_list_laws.specs.StableList.{StableKey, had_stable, same_stable, stable_key, stable_list, stable_stage}
use Rattle.cg_machine.specs.Machine.{MachineData}
use Rattle.cg_machine.specs.declared.stage.Earlier.{Earlier}
use Rattle.cg_machine.specs.declared.stage.Stage.{Stage}
use Rattle.cg_machine.specs.declared.stage.StageKind.TheVariants.{Stable}
use Rattle.cg_netlist.proofs.Driven.{in_range}
use Rattle.cg_stability.specs.inner.Keyed.{AreKeys}
use Rattle.cg_net.proofs.TableLemmas.{take_end}

pub stages_more : (keys : List Key) (regs : List (List ℕ)) (i : ℕ) (k : Key) (rs : List ℕ) (stage : Stage) (before after : List Stage) → length regs ≡ length keys → i < length keys → slice_get keys i ≡ Some k → slice_get regs i ≡ Some rs
    → before ≡ map stable_stage (groups_seen (take i keys) (take i regs)) → stage ≡ stable_stage (record { key = key_seen k; regs = rs }) → after ≡ before ++ stage ∷ []
    → after ≡ map stable_stage (groups_seen (take (i + 1) keys) (take (i + 1) regs))
stages_more keys regs i k rs stage before after even below at_key at_regs so_far is pushed =
    let e : i + 1 ≡ suc i = omega arith in
    let g : Group StableKey = record { key = key_seen k; regs = rs } in
    let long : length (take i regs) ≡ length (take i keys) = length-take-le i regs (omega (arith, even, below)) ∙ sym (length-take-le i keys (omega (arith, below))) in
    pushed
    ∙ (ap (λ l. l ++ stage ∷ []) so_far
    ∙ (ap (λ s. map stable_stage (groups_seen (take i keys) (take i regs)) ++ s ∷ []) is
    ∙ (sym (map-push stable_stage (groups_seen (take i keys) (take i regs)) g)
    ∙ (ap (map stable_stage) (sym (seen_push (take i keys) (take i regs) k rs long))
    ∙ ap (λ l. map stable_stage l) (ap (λ l. groups_seen l (take i regs ++ rs ∷ [])) (sym (take_end keys i k at_key)) ∙ (ap (λ l. groups_seen (take (suc i) keys) l) (sym (take_end regs i rs at_regs)) ∙ ap (λ n. groups_seen (take n keys) (take n regs)) (sym e)))))))

-- the keys that are left make the list
pub list_is : (m : MachineData) (earlier : List Earlier) (keys left : List (Option Key)) → AreKeys m keys → length left ≡ length keys → ((r : ℕ) → key_at left r ≡ kept_key Stable had_stable earlier (key_at keys) r)
    → map stable_stage (groups same_stable (key_at left) (range_with_len 0 (length left))) ≡ stable_list m earlier
list_is m earlier keys left are same_length kept =
    ap (map stable_stage)
    (ap (λ n. groups same_stable (key_at left) (range_with_len 0 n)) (same_length ∙ are.count)
    ∙ same_groups same_stable (key_at left) (kept_key Stable had_stable earlier (stable_key m)) (range_with_len 0 m.own_registers) (λ r among.
    let range = in_range m.own_registers 0 r among in
    let high = range.1 in
    kept r ∙ ap (λ o. kept_key Stable had_stable earlier (λ x. o) r) (are.each r (omega (arith, high)))))
