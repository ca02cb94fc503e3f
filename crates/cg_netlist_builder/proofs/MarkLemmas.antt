-- Lemmas on marks, and on the first net that passes a test.
use Rattle.std.proofs.Math.Bool.{or-false}
use Rattle.std.proofs.Common.{[], ℕ, zero, suc, add-one, zero-add, ◌+◌, ◌<◌, ◌≡◌, inl, inr, Bool, true, false, not, ◌&&◌, ◌||◌}
use Rattle.std.proofs.Common.{cond, List, ◌∷◌, ◌++◌, Option, Some, None, length, set, get_or, unwrap_or, refl, sym, ap, ◌∙◌, subst}
use Rattle.std.proofs.Common.{arith, nat_eq, nat_lt}
use Rattle.std.specs.List.{list_any, range_with_len, count_by}
use Rattle.std.proofs.lemmas.Bool.{cases_Bool, eq-eqb, or_left, or_right, cases_lt, lt-ltb, le-ltb}
use Rattle.std.proofs.lemmas.Bool.Decides.{eqb_tells}
use Rattle.std.proofs.lemmas.List.{length-set}
use Rattle.std.proofs.lemmas.List.Sums.{sum_by_push, sum_by-cons}
use Rattle.std.proofs.lemmas.Option.{unwrap_or-slice_get}
use Rattle.std.proofs.lemmas.List.Folds.{list_any-append}
use Rattle.cg_net.specs.NetSets.{is_in}
use Rattle.cg_net.specs.Marks.{AreMarked, is_marked}
use Rattle.cg_netlist_builder.specs.inner.FirstNet.{IsFirst, marked_before}
use Rattle.cg_net.proofs.NetSetLemmas.{marked_more}
use Rattle.cg_net.proofs.TableLemmas.{slice_get-set_other, slice_get-set_same}

-- marks of the nets so far, and of those that came again
pub record HasCounted (once twice : List Bool) (n : ℕ) (nets : List ℕ) : Type 0 where
  pub once_fits : length once ≡ n
  pub twice_fits : length twice ≡ n
  pub once_are : AreMarked once nets
  pub twice_are : (net : ℕ) → is_marked twice net ≡ nat_lt 1 (count_by (nat_eq net) nets)

-- the same for a test that agrees
pub same_first : (test other : ℕ → Bool) (n : ℕ) (first : Option ℕ) → ((net : ℕ) → net < n → test net ≡ other net) → IsFirst n test first → IsFirst n other first
same_first test other n None agree none = λ net lt. sym (agree net lt) ∙ none net lt
same_first test other n (Some x) agree (within, here, before) = (within, sym (agree x within) ∙ here, λ net lt. sym (agree net (omega arith)) ∙ before net lt)

-- a net is among nets where it stands once or more
pub in_counts : (nets : List ℕ) (net : ℕ) → is_in nets net ≡ nat_lt 0 (count_by (nat_eq net) nets)
in_counts [] net = refl
in_counts (x ∷ nets) net = elim (cases_Bool (nat_eq net x)) [
  | inl same ↦
      let count : count_by (nat_eq net) (x ∷ nets) ≡ 1 + count_by (nat_eq net) nets = sum_by-cons (λ y. cond (nat_eq net y) 1 0) x nets ∙ ap (λ b. cond b 1 0 + count_by (nat_eq net) nets) same in
      or_left (nat_eq net x) (is_in nets net) same ∙ sym (lt-ltb 0 (count_by (nat_eq net) (x ∷ nets)) (omega (arith, count)))
  | inr other ↦
      let count : count_by (nat_eq net) (x ∷ nets) ≡ count_by (nat_eq net) nets = sum_by-cons (λ y. cond (nat_eq net y) 1 0) x nets ∙ (ap (λ b. cond b 1 0 + count_by (nat_eq net) nets) other ∙ omega arith) in
      ap (λ b. b || is_in nets net) other ∙ (in_counts nets net ∙ ap (nat_lt 0) (sym count))
]

count_same : (nets : List ℕ) (net : ℕ) → count_by (nat_eq net) (nets ++ net ∷ []) ≡ count_by (nat_eq net) nets + 1
count_same nets net = sum_by_push (λ y. cond (nat_eq net y) 1 0) nets net ∙ ap (λ b. count_by (nat_eq net) nets + cond b 1 0) (eq-eqb net net refl)

count_other : (nets : List ℕ) (net x : ℕ) → nat_eq x net ≡ false → count_by (nat_eq x) (nets ++ net ∷ []) ≡ count_by (nat_eq x) nets
count_other nets net x other = sum_by_push (λ y. cond (nat_eq x y) 1 0) nets net ∙ (ap (λ b. count_by (nat_eq x) nets + cond b 1 0) other ∙ omega arith)

one_more : (c : ℕ) → (nat_lt 1 c || nat_lt 0 c) ≡ nat_lt 1 (c + 1)
one_more c = elim (cases_lt 0 c) [
  | inl lt ↦ or_right (nat_lt 1 c) (nat_lt 0 c) (lt-ltb 0 c lt) ∙ sym (lt-ltb 1 (c + 1) (omega arith))
  | inr le ↦ rw (le-ltb 1 c (omega arith), le-ltb 0 c le) (sym (le-ltb 1 (c + 1) (omega arith)))
]

pub counted_more : (once twice : List Bool) (n : ℕ) (nets : List ℕ) (net : ℕ) → HasCounted once twice n nets → net < n → HasCounted (set once net true) (set twice net (is_marked twice net || is_marked once net)) n (nets ++ net ∷ [])
counted_more once twice n nets net counted lt = record {
  once_fits = length-set once net true ∙ counted.once_fits;
  twice_fits = length-set twice net (is_marked twice net || is_marked once net) ∙ counted.twice_fits;
  once_are = marked_more once once nets net counted.once_are (λ x. refl) (omega (arith, counted.once_fits));
  twice_are = λ x. elim (eqb_tells x net) [
    | inl e ↦
        let mark : is_marked (set twice net (is_marked twice net || is_marked once net)) net ≡ (is_marked twice net || is_marked once net) = ap (λ o. unwrap_or o false) (slice_get-set_same twice net (is_marked twice net || is_marked once net) (omega (arith, counted.twice_fits))) in
        let both : (is_marked twice net || is_marked once net) ≡ nat_lt 1 (count_by (nat_eq net) (nets ++ net ∷ [])) =
        ap (λ b. b || is_marked once net) (counted.twice_are net) ∙ (ap (λ b. nat_lt 1 (count_by (nat_eq net) nets) || b) (counted.once_are net ∙ in_counts nets net) ∙ (one_more (count_by (nat_eq net) nets) ∙ ap (nat_lt 1) (sym (count_same nets net)))) in
        let P : ℕ → Type 0 = λ y. is_marked (set twice net (is_marked twice net || is_marked once net)) y ≡ nat_lt 1 (count_by (nat_eq y) (nets ++ net ∷ [])) in
        subst P (sym e.1) (mark ∙ both)
    | inr e ↦ ap (λ o. unwrap_or o false) (slice_get-set_other twice net x (is_marked twice net || is_marked once net) e.1) ∙ (counted.twice_are x ∙ ap (nat_lt 1) (sym (count_other nets net x e.0)))
  ];
}

range_push : (n a : ℕ) → range_with_len a (n + 1) ≡ range_with_len a n ++ (a + n) ∷ []
range_push n a = rw add-one (go n a)
  where
    go : (n a : ℕ) → range_with_len a (suc n) ≡ range_with_len a n ++ (a + n) ∷ []
    go zero a = let e : a ≡ a + 0 = omega arith in ap (λ m. m ∷ []) e
    go (suc n) a = let e : a + 1 + n ≡ a + suc n = omega arith in ap (λ ms. a ∷ ms) (go n (a + 1) ∙ ap (λ m. range_with_len (a + 1) n ++ m ∷ []) e)

-- one more net, and a mark before it
pub before_more : (marks : List Bool) (net : ℕ) → marked_before marks (net + 1) ≡ (marked_before marks net || is_marked marks net)
before_more marks net =
    ap (list_any (is_marked marks)) (range_push net 0) ∙ (list_any-append (is_marked marks) (range_with_len 0 net) ((0 + net) ∷ []) ∙ ap (λ b. marked_before marks net || b) (or-false (is_marked marks (0 + net)) ∙ ap (is_marked marks) (zero-add net)))

pub marked_or : (marks : List Bool) (net : ℕ) → is_marked marks net ≡ get_or marks net false
marked_or marks net = unwrap_or-slice_get marks net false

pub good_more : (clocks inputs used : List Bool) (net : ℕ) (before : Bool) → before ≡ marked_before clocks net
    → (get_or clocks net false && ((not (get_or inputs net false) || before) || get_or used net false)) ≡ false
    → ((n : ℕ) → n < net → is_marked clocks n && ((not (is_marked inputs n) || marked_before clocks n) || is_marked used n) ≡ false)
    → (n : ℕ) → n < net + 1 → is_marked clocks n && ((not (is_marked inputs n) || marked_before clocks n) || is_marked used n) ≡ false
good_more clocks inputs used net before is good earlier n lt = elim (eqb_tells n net) [
  | inl e ↦
      let P : ℕ → Type 0 = λ m. is_marked clocks m && ((not (is_marked inputs m) || marked_before clocks m) || is_marked used m) ≡ false in
      subst P (sym e.1) (rw (marked_or clocks net, marked_or inputs net, marked_or used net, ← is) good)
  | inr e ↦ earlier n (omega (arith, e.1))
]
