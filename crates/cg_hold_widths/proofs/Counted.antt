-- Counts of what passes a test.
use Rattle.std.proofs.Common.{◌≡◌, ℕ, zero, suc, ◌+◌, ◌<◌, ◌≤◌, Bool, true, false, ◌||◌, ◌&&◌, cond, if◌then◌else◌, List, [], ◌∷◌, ◌++◌, map, length, nat_eq, slice_get, slice_index_or}
use Rattle.std.proofs.Common.{take, Some, refl, sym, ◌∙◌, ap, arith, inl, inr}
use Rattle.std.specs.Prelude.{◌^◌}
use Rattle.std.specs.Int.Bits.{bit_or}
use Rattle.std.specs.List.{All, count_by, filter, list_any, range_with_len}
use Rattle.std.proofs.lemmas.List.{length-take-le}
use Rattle.std.proofs.lemmas.List.Folds.{list_any-append}
use Rattle.std.proofs.lemmas.List.Sums.{count_by-le-length, sum_by-append}
use Rattle.std.proofs.lemmas.Option.{get_or_from_slice_get, slice_get-get_or}
use Rattle.std.proofs.lemmas.Bool.{ne_eqb}
use Rattle.std.proofs.lemmas.Bool.Decides.{eqb_tells}
use Rattle.cg_net.proofs.TableLemmas.{take_next}
use Rattle.cg_hold_widths.specs.inner.Counts.{AreCounts, count_at, ones}
use Rattle.cg_hold_widths.specs.inner.Marked.{net_has}
use Rattle.cg_hold_widths.specs.inner.Masks.{has_bit, mask_at}
use Rattle.cg_hold_widths.proofs.Bits.{either_bit}

pub count_cons : {X : Type 0} (test : X → Bool) (x : X) (xs : List X) → count_by test (x ∷ xs) ≡ ones (test x) + count_by test xs
count_cons test x xs = let parts = sum_by-append (λ y. cond (test y) 1 0) (x ∷ []) xs in omega (arith, parts)

pub count_push : {X : Type 0} (test : X → Bool) (xs : List X) (x : X) → count_by test (xs ++ x ∷ []) ≡ count_by test xs + ones (test x)
count_push test xs x = let parts = sum_by-append (λ y. cond (test y) 1 0) xs (x ∷ []) in omega (arith, parts)

-- one more of some things was put behind the others
pub counted_next : {X : Type 0} (test : ℕ → Bool) (passes : X → Bool) (base : ℕ) (old new : List ℕ) (n : ℕ) (xs : List X) (place : ℕ) (x : X) → slice_get xs place ≡ Some x → new ≡ old ++ n ∷ [] → test n ≡ passes x
    → count_by test old ≡ base + count_by passes (take place xs) → count_by test new ≡ base + count_by passes (take (place + 1) xs)
counted_next test passes base old new n xs place x at is same before =
    let pushed : count_by test new ≡ count_by test old + ones (test n) = ap (count_by test) is ∙ count_push test old n in
    let more : count_by passes (take (place + 1) xs) ≡ count_by passes (take place xs) + ones (passes x) = ap (count_by passes) (take_next xs place x at) ∙ count_push passes (take place xs) x in
    let one : ones (test n) ≡ ones (passes x) = ap ones same in
    omega (arith, pushed, more, one, before)

pub count_map : {X Y : Type 0} (test : Y → Bool) (f : X → Y) (xs : List X) → count_by test (map f xs) ≡ count_by (λ x. test (f x)) xs
count_map test f [] = refl
count_map test f (x ∷ xs) = count_cons test (f x) (map f xs) ∙ (ap (λ n. ones (test (f x)) + n) (count_map test f xs) ∙ sym (count_cons (λ x. test (f x)) x xs))

pub count_same : {X : Type 0} (f g : X → Bool) (xs : List X) → ((x : X) → f x ≡ g x) → count_by f xs ≡ count_by g xs
count_same f g [] same = refl
count_same f g (x ∷ xs) same = count_cons f x xs ∙ (ap (λ b. ones b + count_by f xs) (same x) ∙ (ap (λ n. ones (g x) + n) (count_same f g xs same) ∙ sym (count_cons g x xs)))

-- of those that pass another test
pub count_filtered : {X : Type 0} (f g h : X → Bool) (xs : List X) → ((x : X) → (g x && f x) ≡ h x) → count_by f (filter g xs) ≡ count_by h xs
count_filtered f g h [] same = refl
count_filtered {X} f g h (x ∷ xs) same = go (count_filtered f g h xs same) (g x) (same x)
  where
    go : count_by f (filter g xs) ≡ count_by h xs → (b : Bool) → (b && f x) ≡ h x → count_by f (cond b (x ∷ filter g xs) (filter g xs)) ≡ count_by h (x ∷ xs)
    go rest true is = count_cons f x (filter g xs) ∙ (ap (λ b. ones b + count_by f (filter g xs)) is ∙ (ap (λ n. ones (h x) + n) rest ∙ sym (count_cons h x xs)))
    go rest false is = rest ∙ (let e : count_by h xs ≡ ones false + count_by h xs = omega arith in e ∙ (ap (λ b. ones b + count_by h xs) is ∙ sym (count_cons h x xs)))

pub any_same : {X : Type 0} (f g : X → Bool) (xs : List X) → ((x : X) → f x ≡ g x) → list_any f xs ≡ list_any g xs
any_same f g [] same = refl
any_same f g (x ∷ xs) same = ap (λ b. b || list_any f xs) (same x) ∙ ap (λ b. g x || b) (any_same f g xs same)

pub any_map : {X Y : Type 0} (test : Y → Bool) (f : X → Y) (xs : List X) → list_any test (map f xs) ≡ list_any (λ x. test (f x)) xs
any_map test f [] = refl
any_map test f (x ∷ xs) = ap (λ b. test (f x) || b) (any_map test f xs)

or_none : (b : Bool) → (b || false) ≡ b
or_none true = refl
or_none false = refl

-- one number counts too
pub below_all : (f : ℕ → Bool) (r n s : ℕ) → r < s → count_by (λ k. f k || nat_eq k r) (range_with_len s n) ≡ count_by f (range_with_len s n)
below_all f r zero s low = refl
below_all f r (suc n) s low =
    let rest : count_by (λ k. f k || nat_eq k r) (range_with_len (s + 1) n) ≡ count_by f (range_with_len (s + 1) n) = below_all f r n (s + 1) (omega (arith, low)) in
    let here : ones (f s || nat_eq s r) ≡ ones (f s) = ap (λ b. ones (f s || b)) (ne_eqb s r (λ is. let no : ⊥ = omega (arith, is, low) in no)) ∙ ap ones (or_none (f s)) in
    let more = count_cons (λ k. f k || nat_eq k r) s (range_with_len (s + 1) n) in
    let same = count_cons f s (range_with_len (s + 1) n) in
    omega (arith, rest, here, more, same)

pub with_one : (f : ℕ → Bool) (r n s : ℕ) → s ≤ r → r < s + n → count_by (λ k. f k || nat_eq k r) (range_with_len s n) ≡ count_by f (range_with_len s n) + (if f r then 0 else 1)
with_one f r zero s from low = absurd (omega (arith, from, low))
with_one f r (suc n) s from low =
    let more = count_cons (λ k. f k || nat_eq k r) s (range_with_len (s + 1) n) in
    let same = count_cons f s (range_with_len (s + 1) n) in
    elim (eqb_tells s r) [
      | inl e ↦
          let rest : count_by (λ k. f k || nat_eq k r) (range_with_len (s + 1) n) ≡ count_by f (range_with_len (s + 1) n) = below_all f r n (s + 1) (let equal = e.1 in omega (arith, equal)) in
          let here : ones (f s || nat_eq s r) ≡ ones (f s) + (if f r then 0 else 1) = ap (λ b. ones (f s || b)) e.0 ∙ (one_here (f s) ∙ ap (λ k. ones (f s) + (if f k then 0 else 1)) e.1) in
          omega (arith, rest, here, more, same)
      | inr e ↦
          let other = e.1 in
          let rest : count_by (λ k. f k || nat_eq k r) (range_with_len (s + 1) n) ≡ count_by f (range_with_len (s + 1) n) + (if f r then 0 else 1) = with_one f r n (s + 1) (grind (arith, from, other)) (omega (arith, low)) in
          let here : ones (f s || nat_eq s r) ≡ ones (f s) = ap (λ b. ones (f s || b)) e.0 ∙ ap ones (or_none (f s)) in
          omega (arith, rest, here, more, same)
    ]
  where
    one_here : (b : Bool) → ones (b || true) ≡ ones b + (if b then 0 else 1)
    one_here true = refl
    one_here false = refl

-- counts of masks, with one more mask
pub counts_more : (masks old new : List ℕ) (place mask : ℕ) → slice_get masks place ≡ Some mask → AreCounts (take place masks) old → length new ≡ length old
    → ((i : ℕ) → i < 64 → count_at new i ≡ count_at old i + ones (has_bit i mask)) → AreCounts (take (place + 1) masks) new
counts_more masks old new place mask at are long put = record {
  all = long ∙ are.all;
  each = λ i low.
      let all = are.all in
      let before : count_at old i ≡ count_by (has_bit i) (take place masks) = get_or_from_slice_get old i (count_by (has_bit i) (take place masks)) 0 (are.each i low) in
      let more : count_by (has_bit i) (take (place + 1) masks) ≡ count_by (has_bit i) (take place masks) + ones (has_bit i mask) = ap (count_by (has_bit i)) (take_next masks place mask at) ∙ count_push (has_bit i) (take place masks) mask in
      slice_get-get_or new i 0 (omega (arith, low, long, all))
      ∙ ap (λ n. Some n) (put i low ∙ (ap (λ n. n + ones (has_bit i mask)) before ∙ sym more));
}

-- they have room for one more
pub counts_room : (masks counts : List ℕ) (place : ℕ) → place ≤ length masks → length masks < 2 ^ 63 → AreCounts (take place masks) counts → All (λ n. n + 1 < 2 ^ 64) counts
counts_room masks counts place within small are = λ k d low.
    let all = are.all in
    let is : slice_index_or counts k d ≡ count_by (has_bit k) (take place masks) = get_or_from_slice_get counts k (count_by (has_bit k) (take place masks)) d (are.each k (omega (arith, low, all))) in
    let most = count_by-le-length (has_bit k) (take place masks) in
    let long = length-take-le place masks within in
    omega (arith, is, most, long, within, small)

-- the bits of outputs, with one more
pub outputs_more : (masks : List ℕ) (i mask bits : ℕ) (outputs : List (ℕ × Bool)) (place : ℕ) (output : ℕ × Bool) → slice_get outputs place ≡ Some output → bits ≡ mask_at masks output.0
    → has_bit i mask ≡ list_any (λ (o : ℕ × Bool). net_has masks i o.0) (take place outputs) → has_bit i (bit_or mask bits) ≡ list_any (λ (o : ℕ × Bool). net_has masks i o.0) (take (place + 1) outputs)
outputs_more masks i mask bits outputs place output at is before =
    either_bit mask bits i
    ∙ (ap (λ b. b || has_bit i bits) before
    ∙ (ap (λ n. list_any (λ (o : ℕ × Bool). net_has masks i o.0) (take place outputs) || has_bit i n) is
    ∙ sym (ap (list_any (λ (o : ℕ × Bool). net_has masks i o.0)) (take_next outputs place output at)
    ∙ (list_any-append (λ (o : ℕ × Bool). net_has masks i o.0) (take place outputs) (output ∷ [])
    ∙ ap (λ b. list_any (λ (o : ℕ × Bool). net_has masks i o.0) (take place outputs) || b) (or_none (net_has masks i output.0))))))
