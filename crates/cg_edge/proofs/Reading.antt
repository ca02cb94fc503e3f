-- How often nets are read, as cell after cell and input after input is counted; and the room that each net has for its readers.
use Rattle.std.proofs.Common.{◌≡◌, ◌≢◌, ℕ, ◌+◌, ◌<◌, ◌≤◌, inl, inr, Bool, List, [], ◌∷◌, ◌++◌, take, length}
use Rattle.std.proofs.Common.{cond, get_or, slice_get, slice_set, Some, nat_eq, sym, ◌∙◌, ap, arith}
use Rattle.std.specs.List.{count_by}
use Rattle.std.proofs.lemmas.Bool.{eq-eqb, eqb-true, false_from_ne_true}
use Rattle.std.proofs.lemmas.List.{get_or-set_other, get_or-set_same, length-append, take_all}
use Rattle.std.proofs.lemmas.List.Sums.{count_by_more_no, count_by_more_yes, sum_by-take-le, sum_by_more, sum_by_more_le}
use Rattle.std.proofs.lemmas.Option.{get_or_from_slice_get, slice_get_within}
use Rattle.cg_netlist.specs.Circuit.{LogicCell}
use Rattle.cg_net.proofs.TableLemmas.{same_or_not}
use Rattle.cg_edge.specs.inner.Keeping.{readers_at}
use Rattle.cg_edge.specs.inner.Reads.{reads}
use Rattle.cg_edge.proofs.Added.{readers_new, readers_set}

-- one more input is one more of its net, and none of another
pub count_same : (inputs : List ℕ) (i x : ℕ) → i < length inputs → x ≡ get_or inputs i 0 → count_by (nat_eq x) (take (i + 1) inputs) ≡ count_by (nat_eq x) (take i inputs) + 1
count_same inputs i x within is = count_by_more_yes (nat_eq x) inputs i 0 within (eq-eqb x (get_or inputs i 0) is)

pub count_other : (inputs : List ℕ) (i x y : ℕ) → i < length inputs → x ≡ get_or inputs i 0 → y ≢ x → count_by (nat_eq y) (take (i + 1) inputs) ≡ count_by (nat_eq y) (take i inputs)
count_other inputs i x y within is differ = count_by_more_no (nat_eq y) inputs i 0 within
    (false_from_ne_true (nat_eq y (get_or inputs i 0)) (λ same. differ (eqb-true y (get_or inputs i 0) same ∙ sym is)))

count_within_all : (p : ℕ → Bool) (xs : List ℕ) (i : ℕ) → count_by p (take i xs) ≤ count_by p xs
count_within_all p xs i = sum_by-take-le (λ x. cond (p x) 1 0) xs i

-- so many and one more are among all
pub count_within : (inputs : List ℕ) (i x : ℕ) → i < length inputs → x ≡ get_or inputs i 0 → count_by (nat_eq x) (take i inputs) + 1 ≤ count_by (nat_eq x) inputs
count_within inputs i x within is =
    let more = count_same inputs i x within is in
    let part = count_within_all (nat_eq x) inputs (i + 1) in
    omega (arith, more, part)

-- the counts of nets have grown by the first inputs
abbrev pub AreCounted : List ℕ → ℕ → List ℕ → List ℕ → Type 0
AreCounted inputs i old new = (x : ℕ) → x < length old → get_or old x 0 + count_by (nat_eq x) (take i inputs) ≤ get_or new x 0

pub counted_more : (inputs : List ℕ) (i x : ℕ) (old cur : List ℕ) → i < length inputs → x ≡ get_or inputs i 0 → length cur ≡ length old → AreCounted inputs i old cur
    → AreCounted inputs (i + 1) old (slice_set cur x (get_or cur x 0 + 1))
counted_more inputs i x old cur within is long are y below = elim (same_or_not y x) [
  | inl e ↦
      let before = are y below in
      let more = count_same inputs i y within (e ∙ is) in
      let now : get_or (slice_set cur x (get_or cur x 0 + 1)) y 0 ≡ get_or cur x 0 + 1 =
      ap (λ k. get_or (slice_set cur x (get_or cur x 0 + 1)) k 0) e ∙ get_or-set_same cur x (get_or cur x 0 + 1) 0 (omega (arith, below, long, e)) in
      let here : get_or cur y 0 ≡ get_or cur x 0 = ap (λ k. get_or cur k 0) e in
      omega (arith, before, more, now, here)
  | inr differ ↦
      let before = are y below in
      let same = count_other inputs i x y within is differ in
      let now = get_or-set_other cur x y (get_or cur x 0 + 1) 0 differ in
      omega (arith, before, same, now)
]

pub counted_all : (inputs : List ℕ) (i : ℕ) (old new : List ℕ) → length inputs ≤ i → AreCounted inputs i old new → (x : ℕ) → x < length old → get_or old x 0 + count_by (nat_eq x) inputs ≤ get_or new x 0
counted_all inputs i old new all are x below =
    let counted = are x below in
    let whole : count_by (nat_eq x) (take i inputs) ≡ count_by (nat_eq x) inputs = ap (count_by (nat_eq x)) (take_all i inputs all) in
    omega (arith, counted, whole)

-- the reads of one more cell
pub reads_more : (walk : List (LogicCell ℕ)) (i x : ℕ) (cell : LogicCell ℕ) → slice_get walk i ≡ Some cell → reads x (take (i + 1) walk) ≡ reads x (take i walk) + count_by (nat_eq x) cell.inputs
reads_more walk i x cell at =
    sum_by_more (λ (c : LogicCell ℕ). count_by (nat_eq x) c.inputs) walk i cell (slice_get_within walk i cell at)
    ∙ ap (λ (c : LogicCell ℕ). reads x (take i walk) + count_by (nat_eq x) c.inputs) (get_or_from_slice_get walk i cell cell at)

pub reads_within : (walk : List (LogicCell ℕ)) (i x : ℕ) (cell : LogicCell ℕ) → slice_get walk i ≡ Some cell → reads x (take i walk) + count_by (nat_eq x) cell.inputs ≤ reads x walk
reads_within walk i x cell at =
    let sum = sum_by_more_le (λ (c : LogicCell ℕ). count_by (nat_eq x) c.inputs) walk i cell (slice_get_within walk i cell at) in
    let same : count_by (nat_eq x) (get_or walk i cell).inputs ≡ count_by (nat_eq x) cell.inputs = ap (λ (c : LogicCell ℕ). count_by (nat_eq x) c.inputs) (get_or_from_slice_get walk i cell cell at) in
    omega (arith, sum, same)

-- the lists of readers have grown by the first inputs
abbrev pub AreLonger : List ℕ → ℕ → List (List ℕ) → List (List ℕ) → Type 0
AreLonger inputs i old new = (x : ℕ) → x < length old → length (readers_at new x) ≡ length (readers_at old x) + count_by (nat_eq x) (take i inputs)

pub longer_more : (inputs : List ℕ) (i x place : ℕ) (old cur : List (List ℕ)) → i < length inputs → x ≡ get_or inputs i 0 → length cur ≡ length old → AreLonger inputs i old cur
    → AreLonger inputs (i + 1) old (slice_set cur x (readers_at cur x ++ place ∷ []))
longer_more inputs i x place old cur within is long are y below = elim (same_or_not y x) [
  | inl e ↦
      let before = are y below in
      let more = count_same inputs i y within (e ∙ is) in
      let now : length (readers_at (slice_set cur x (readers_at cur x ++ place ∷ [])) y) ≡ length (readers_at cur x) + 1 =
      ap (λ k. length (readers_at (slice_set cur x (readers_at cur x ++ place ∷ [])) k)) e
      ∙ (ap length (readers_new cur x (readers_at cur x ++ place ∷ []) (omega (arith, below, long, e))) ∙ length-append (readers_at cur x) (place ∷ [])) in
      let here : length (readers_at cur y) ≡ length (readers_at cur x) = ap (λ k. length (readers_at cur k)) e in
      omega (arith, before, more, now, here)
  | inr differ ↦
      let before = are y below in
      let same = count_other inputs i x y within is differ in
      let now = ap length (readers_set cur x y (readers_at cur x ++ place ∷ []) differ) in
      omega (arith, before, same, now)
]
