-- Keys that a stage leaves of its registers, one register after another, and that stages leave, one after another.
use Rattle.std.proofs.Common.{◌≡◌, ℕ, zero, suc, ◌+◌, ◌<◌, ◌≤◌, Bool, true, false, ◌||◌, ◌&&◌, if◌then◌else◌, List, [], ◌∷◌}
use Rattle.std.proofs.Common.{length, take, nat_eq, slice_get, slice_set, Option, Some, None, option_and_then, refl, sym, ◌∙◌, ap}
use Rattle.std.proofs.Common.{subst, arith, inl, inr}
use Rattle.std.specs.List.{list_any}
use Rattle.std.specs.Option.{option_flatten, option_map, option_map_or}
use Rattle.std.proofs.lemmas.Bool.{eqb-true}
use Rattle.std.proofs.lemmas.Bool.Decides.{eqb_tells}
use Rattle.std.proofs.lemmas.List.Folds.{list_any-append}
use Rattle.cg_stage_groups.specs.declared.key.Key.{Key}
use Rattle.cg_stage_groups.specs.Keys.{key_at, key_seen}
use Rattle.cg_stage_groups.specs.Leaving.{leaves, without}
use Rattle.cg_net.specs.NetSets.{is_in}
use Rattle.cg_net.proofs.Members.{is_in-append}
use Rattle.cg_net.proofs.TableLemmas.{slice_get-set_other, slice_get-set_same, take_next}
use Rattle.cg_stage_list_laws.specs.Rounds.{kept_key, left_out, same_kind}
use Rattle.cg_stage_list_laws.specs.StableList.{StableKey}
use Rattle.cg_machine.specs.declared.stage.Earlier.{Earlier}
use Rattle.cg_machine.specs.declared.stage.Stage.{Stage}
use Rattle.cg_machine.specs.declared.stage.StageKind.{StageKind}
use Rattle.std.proofs.Math.Bool.{or-false}

-- one more stage: of the kind, and of another kind
module _ {K : Type 0} (kind : StageKind) (had : K → Stage → Bool) (earlier : List Earlier) (i : ℕ) (e : Earlier) (at : slice_get earlier i ≡ Some e) (key : ℕ → Option K) (r : ℕ) where
  more_out : (k : K) → left_out kind had (take (i + 1) earlier) r k ≡ (left_out kind had (take i earlier) r k || (same_kind e.stage.kind kind && is_in e.stage.regs r && (e.inserted || had k e.stage)))
  more_out k =
      let test : Earlier → Bool = λ e. same_kind e.stage.kind kind && is_in e.stage.regs r && (e.inserted || had k e.stage) in
      ap (list_any test) (take_next earlier i e at) ∙ (list_any-append test (take i earlier) (e ∷ []) ∙ ap (λ b. left_out kind had (take i earlier) r k || b) (or-false (test e)))

  -- the key of a register that stood in the stage, unless the stage leaves it out
  abbrev pub after : Option K → Option K
  after o = option_and_then (λ k. if (e.inserted || had k e.stage) then None else Some k) o

  pub kept_more : (if (same_kind e.stage.kind kind && is_in e.stage.regs r) then after (kept_key kind had (take i earlier) key r) else kept_key kind had (take i earlier) key r) ≡ kept_key kind had (take (i + 1) earlier) key r
  kept_more = go (key r)
    where
      step : (b c : Bool) (k : K) → (if b then after (if c then None else Some k) else (if c then None else Some k)) ≡ (if (c || (b && (e.inserted || had k e.stage))) then None else Some k)
      step true true k = refl
      step true false k = refl
      step false true k = refl
      step false false k = refl

      nothing : (b : Bool) → (if b then after None else None) ≡ None
      nothing true = refl
      nothing false = refl

      go : (o : Option K) → (if (same_kind e.stage.kind kind && is_in e.stage.regs r) then after (option_and_then (λ (k : K). if left_out kind had (take i earlier) r k then None else Some k) o) else option_and_then (λ (k : K). if left_out kind had (take i earlier) r k then None else Some k) o)
          ≡ option_and_then (λ (k : K). if left_out kind had (take (i + 1) earlier) r k then None else Some k) o
      go None = nothing (same_kind e.stage.kind kind && is_in e.stage.regs r)
      go (Some k) =
          step (same_kind e.stage.kind kind && is_in e.stage.regs r) (left_out kind had (take i earlier) r k) k
          ∙ ap (λ (b : Bool). if b then None else Some k) (sym (more_out k))

-- Clearing one key, and those of some registers.
at_set : (keys : List (Option Key)) (p : ℕ) (r : ℕ) → p < length keys → key_at (slice_set keys p None) r ≡ (if nat_eq r p then None else key_at keys r)
at_set keys p r below = elim (eqb_tells r p) [
  | inl same ↦
      ap (λ z. key_at (slice_set keys p None) z) same.1
      ∙ (ap (λ o. option_map key_seen (option_flatten o)) (slice_get-set_same keys p None below) ∙ ap (λ b. if b then None else key_at keys r) (sym same.0))
  | inr other ↦
      ap (λ o. option_map key_seen (option_flatten o)) (slice_get-set_other keys p r None other.1)
      ∙ ap (λ b. if b then None else key_at keys r) (sym other.0)
]

past_end : (keys : List (Option Key)) (p : ℕ) → length keys ≤ p → key_at keys p ≡ None
past_end [] p past = refl
past_end (k ∷ keys) zero past = absurd (omega arith)
past_end (k ∷ keys) (suc p) past = past_end keys p (omega arith)

module _ (inserted : Bool) (tried : StableKey) where
  stays : (keys : List (Option Key)) (p r : ℕ) → without inserted tried (key_at keys p) ≡ key_at keys p → key_at keys r ≡ (if nat_eq r p then without inserted tried (key_at keys r) else key_at keys r)
  stays keys p r same = go (nat_eq r p) refl
    where
      go : (b : Bool) → nat_eq r p ≡ b → key_at keys r ≡ (if b then without inserted tried (key_at keys r) else key_at keys r)
      go true is = subst (λ z. key_at keys z ≡ without inserted tried (key_at keys z)) (sym (eqb-true r p is)) (sym same)
      go false is = refl

  without_out : (o : Option StableKey) → option_map_or (leaves inserted tried) o false ≡ true → without inserted tried o ≡ None
  without_out None out = refl
  without_out (Some k) out = ap (λ b. if b then None else Some k) out

  without_in : (o : Option StableKey) → option_map_or (leaves inserted tried) o false ≡ false → without inserted tried o ≡ o
  without_in None out = refl
  without_in (Some k) out = ap (λ b. if b then None else Some k) out

  pub cleared : (keys : List (Option Key)) (p r : ℕ) → p < length keys → option_map_or (leaves inserted tried) (key_at keys p) false ≡ true
      → key_at (slice_set keys p None) r ≡ (if nat_eq r p then without inserted tried (key_at keys r) else key_at keys r)
  cleared keys p r below out = at_set keys p r below ∙ go (nat_eq r p) refl
    where
      go : (b : Bool) → nat_eq r p ≡ b → (if b then None else key_at keys r) ≡ (if b then without inserted tried (key_at keys r) else key_at keys r)
      go true is = sym (without_out (key_at keys r) (ap (λ z. option_map_or (leaves inserted tried) (key_at keys z) false) (eqb-true r p is) ∙ out))
      go false is = refl

  pub not_cleared : (keys : List (Option Key)) (p r : ℕ) → option_map_or (leaves inserted tried) (key_at keys p) false ≡ false
      → key_at keys r ≡ (if nat_eq r p then without inserted tried (key_at keys r) else key_at keys r)
  not_cleared keys p r out = stays keys p r (without_in (key_at keys p) out)

  pub past_cleared : (keys : List (Option Key)) (p r : ℕ) → length keys ≤ p → key_at keys r ≡ (if nat_eq r p then without inserted tried (key_at keys r) else key_at keys r)
  past_cleared keys p r past = not_cleared keys p r (ap (λ (o : Option StableKey). option_map_or (leaves inserted tried) o false) (past_end keys p past))

  -- once more changes nothing
  twice : (o : Option StableKey) → without inserted tried (without inserted tried o) ≡ without inserted tried o
  twice None = refl
  twice (Some k) = go (leaves inserted tried k) refl
    where
      go : (b : Bool) → leaves inserted tried k ≡ b → without inserted tried (if b then None else Some k) ≡ (if b then None else Some k)
      go true is = refl
      go false is = ap (λ b. if b then None else Some k) is

  pub one_more : (regs : List ℕ) (i p r : ℕ) (old now new : Option StableKey) → slice_get regs i ≡ Some p → now ≡ (if is_in (take i regs) r then without inserted tried old else old) → new ≡ (if nat_eq r p then without inserted tried now else now)
      → new ≡ (if is_in (take (i + 1) regs) r then without inserted tried old else old)
  one_more regs i p r old now new at before is =
      is ∙ (ap (λ o. if nat_eq r p then without inserted tried o else o) before
      ∙ (go (is_in (take i regs) r) (nat_eq r p)
      ∙ ap (λ b. if b then without inserted tried old else old) (sym (ap (λ l. is_in l r) (take_next regs i p at) ∙ (is_in-append (take i regs) (p ∷ []) r ∙ ap (λ b. is_in (take i regs) r || b) (or-false (nat_eq r p)))))))
    where
      go : (b c : Bool) → (if c then without inserted tried (if b then without inserted tried old else old) else (if b then without inserted tried old else old)) ≡ (if (b || c) then without inserted tried old else old)
      go true true = twice old
      go true false = refl
      go false true = refl
      go false false = refl
