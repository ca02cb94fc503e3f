-- Bits that are put at nets, one after another.
use Rattle.std.proofs.Common.{◌≡◌, ◌≢◌, ℕ, zero, suc, ◌+◌, ◌<◌, ◌≤◌, ◌⊎◌, inl, inr, Bool, true, false, not, ◌||◌, if◌then◌else◌}
use Rattle.std.proofs.Common.{List, [], ◌∷◌, ◌++◌, map, take, drop, length, slice_get, slice_index_or, slice_set, get_or, Some}
use Rattle.std.proofs.Common.{nat_eq, refl, sym, ◌∙◌, ap, subst, arith, drop-cons}
use Rattle.std.specs.List.{IsDistinct, cons_option, flat_map}
use Rattle.std.proofs.lemmas.Bool.{both_ways, false_from_ne_true, or_cases, or_right}
use Rattle.std.proofs.lemmas.Grind.{flat_map-append}
use Rattle.std.proofs.lemmas.List.{take_more}
use Rattle.std.proofs.lemmas.Option.{same_Some, slice_get-get_or, slice_get_within}
use Rattle.cg_netlist.specs.Circuit.{RegisterCell, shown_nets}
use Rattle.cg_net.specs.NetSets.{is_in}
use Rattle.cg_netlist.specs.Moment.{register_bits, shown_bits, values_at}
use Rattle.cg_net.proofs.Members.{distinct_apart, distinct_head, distinct_left, distinct_right, distinct_tail, is_in_left}
use Rattle.cg_net.proofs.Members.{is_in_right, member_at}
use Rattle.cg_net.proofs.TableLemmas.{slice_get-set_other, slice_get-set_same}
use Rattle.cg_netlist.proofs.Values.{same_values, values_at-append}
use Rattle.cg_edge.specs.inner.Keeping.{SameBut}

-- a net of a list without a net twice is not among those before it
distinct_take : (xs : List ℕ) (k x : ℕ) → IsDistinct nat_eq xs → slice_get xs k ≡ Some x → is_in (take k xs) x ≡ false
distinct_take [] k x distinct at = absurd (cc)
distinct_take (y ∷ ys) zero x distinct at = refl
distinct_take (y ∷ ys) (suc k) x distinct at = false_from_ne_true (nat_eq x y || is_in (take k ys) x) (λ among. elim (or_cases (nat_eq x y) (is_in (take k ys) x) among) [
  | inl same ↦ both_ways (is_in ys y) (distinct_head y ys distinct) (member_at ys k y (at ∙ ap (λ z. Some z) (Rattle.std.proofs.lemmas.Bool.eqb-true x y same)))
  | inr earlier ↦ both_ways (is_in (take k ys) x) (distinct_take ys k x (distinct_tail y ys distinct) at) earlier
])

-- one more net, with its bit
pub shown_more : (cur : List Bool) (xs : List ℕ) (bits : List Bool) (k x : ℕ) (b : Bool) → IsDistinct nat_eq xs → x < length cur → slice_get xs k ≡ Some x → slice_get bits k ≡ Some b
    → values_at cur (take k xs) ≡ take k bits → values_at (slice_set cur x b) (take (k + 1) xs) ≡ take (k + 1) bits
shown_more cur xs bits k x b distinct below at is shown =
    let more : take (k + 1) xs ≡ take k xs ++ x ∷ [] = take_more xs k x (slice_get_within xs k x at) ∙ ap (λ y. take k xs ++ y ∷ []) (Rattle.std.proofs.lemmas.Option.get_or_from_slice_get xs k x x at) in
    let bits_more : take (k + 1) bits ≡ take k bits ++ b ∷ [] = take_more bits k b (slice_get_within bits k b is) ∙ ap (λ y. take k bits ++ y ∷ []) (Rattle.std.proofs.lemmas.Option.get_or_from_slice_get bits k b b is) in
    let front : values_at (slice_set cur x b) (take k xs) ≡ take k bits = same_values (slice_set cur x b) cur (take k xs) (λ y among. slice_get-set_other cur x y b (λ e. both_ways (is_in (take k xs) x) (distinct_take xs k x distinct at) (ap (is_in (take k xs)) (sym e) ∙ among))) ∙ shown in
    let back : values_at (slice_set cur x b) (x ∷ []) ≡ b ∷ [] = ap (λ o. cons_option o []) (slice_get-set_same cur x b below) in
    ap (values_at (slice_set cur x b)) more ∙ (values_at-append (slice_set cur x b) (take k xs) (x ∷ []) ∙ (ap (λ l. l ++ values_at (slice_set cur x b) (x ∷ [])) front ∙ (ap (λ l. take k bits ++ l) back ∙ sym bits_more)))

-- the nets of an item are apart from those of the items before it, and no net of it stands twice
pub flat_apart : {X : Type 0} (f : X → List ℕ) (xs : List X) (k : ℕ) (x : X) → IsDistinct nat_eq (flat_map f xs) → slice_get xs k ≡ Some x → (y : ℕ) → is_in (flat_map f (take k xs)) y ≡ true → is_in (f x) y ≡ false
flat_apart f [] k x distinct at y among = absurd (cc)
flat_apart f (z ∷ xs) zero x distinct at y among = absurd (both_ways false refl among)
flat_apart f (z ∷ xs) (suc k) x distinct at y among = elim (Rattle.cg_net.proofs.Members.is_in_cases (f z) (flat_map f (take k xs)) y among) [
  | inl here ↦ false_from_ne_true (is_in (f x) y) (λ inside. both_ways (is_in (flat_map f xs) y) (distinct_apart (f z) (flat_map f xs) distinct y here) (Rattle.cg_netlist.proofs.Used.in_flat f xs k x y at inside))
  | inr later ↦ flat_apart f xs k x (distinct_right (f z) (flat_map f xs) distinct) at y later
]

pub flat_distinct : {X : Type 0} (f : X → List ℕ) (xs : List X) (k : ℕ) (x : X) → IsDistinct nat_eq (flat_map f xs) → slice_get xs k ≡ Some x → IsDistinct nat_eq (f x)
flat_distinct f [] k x distinct at = absurd (cc)
flat_distinct f (z ∷ xs) zero x distinct at = subst (λ w. IsDistinct nat_eq (f w)) (same_Some z x at) (distinct_left (f z) (flat_map f xs) distinct)
flat_distinct f (z ∷ xs) (suc k) x distinct at = flat_distinct f xs k x (distinct_right (f z) (flat_map f xs) distinct) at

flat_more : {X A : Type 0} (f : X → List A) (xs : List X) (k : ℕ) (x : X) → slice_get xs k ≡ Some x → flat_map f (take (k + 1) xs) ≡ flat_map f (take k xs) ++ f x
flat_more f xs k x at =
    ap (flat_map f) (take_more xs k x (slice_get_within xs k x at) ∙ ap (λ y. take k xs ++ y ∷ []) (Rattle.std.proofs.lemmas.Option.get_or_from_slice_get xs k x x at))
    ∙ (flat_map-append f (take k xs) (x ∷ []) ∙ ap (λ l. flat_map f (take k xs) ++ l) (Rattle.std.proofs.Common.append-nil (f x)))

bits_more : (rs : List (RegisterCell ℕ ℕ)) (state : List Bool) (k : ℕ) (r : RegisterCell ℕ ℕ) (b : Bool) → slice_get rs k ≡ Some r → slice_get state k ≡ Some b → register_bits (take (k + 1) rs) (take (k + 1) state) ≡ register_bits (take k rs) (take k state) ++ shown_bits r b
bits_more [] state k r b at is = absurd (cc)
bits_more (s ∷ rs) [] k r b at is = absurd (cc)
bits_more (s ∷ rs) (t ∷ state) zero r b at is =
    let same : s ≡ r = same_Some s r at in
    let bit : t ≡ b = same_Some t b is in
    Rattle.std.proofs.Common.append-nil (shown_bits s t) ∙ (ap (λ (x : RegisterCell ℕ ℕ). shown_bits x t) same ∙ ap (shown_bits r) bit)
bits_more (s ∷ rs) (t ∷ state) (suc k) r b at is =
    let next : suc k + 1 ≡ suc (k + 1) = omega arith in
    ap (λ n. register_bits (take n (s ∷ rs)) (take n (t ∷ state))) next ∙ (ap (λ l. shown_bits s t ++ l) (bits_more rs state k r b at is) ∙ sym (Rattle.std.proofs.Common.append_assoc (shown_bits s t) (register_bits (take k rs) (take k state)) (shown_bits r b)))

-- one more register
pub registers_more : (rs : List (RegisterCell ℕ ℕ)) (state cur new : List Bool) (k : ℕ) (r : RegisterCell ℕ ℕ) (b : Bool) → IsDistinct nat_eq (flat_map shown_nets rs) → slice_get rs k ≡ Some r → slice_get state k ≡ Some b → SameBut (shown_nets r) cur new
    → values_at new (shown_nets r) ≡ shown_bits r b → values_at cur (flat_map shown_nets (take k rs)) ≡ register_bits (take k rs) (take k state) → values_at new (flat_map shown_nets (take (k + 1) rs)) ≡ register_bits (take (k + 1) rs) (take (k + 1) state)
registers_more rs state cur new k r b distinct at is same own shown =
    let front : values_at new (flat_map shown_nets (take k rs)) ≡ register_bits (take k rs) (take k state) = same_values new cur (flat_map shown_nets (take k rs)) (λ y among. same.same y (flat_apart shown_nets rs k r distinct at y among)) ∙ shown in
    ap (values_at new) (flat_more shown_nets rs k r at)
    ∙ (values_at-append new (flat_map shown_nets (take k rs)) (shown_nets r) ∙ (ap (λ l. l ++ values_at new (shown_nets r)) front ∙ (ap (λ l. register_bits (take k rs) (take k state) ++ l) own ∙ sym (bits_more rs state k r b at is))))

-- what is the same but at fewer nets
pub same_wider : (few many : List ℕ) (old mid new : List Bool) → ((x : ℕ) → is_in few x ≡ true → is_in many x ≡ true) → SameBut many old mid → SameBut few mid new → SameBut many old new
same_wider few many old mid new inside first second = record {
  long = second.long ∙ first.long;
  same = λ x apart. second.same x (false_from_ne_true (is_in few x) (λ among. both_ways (is_in many x) apart (inside x among))) ∙ first.same x apart;
}

pub same_none : (touched : List ℕ) (old : List Bool) → SameBut touched old old
same_none touched old = record { long = refl; same = λ x apart. refl }
