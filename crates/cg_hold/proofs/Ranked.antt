-- Literals in their order are numbers that rise.
use Rattle.std.proofs.Common.{◌≡◌, ℕ, suc, ◌+◌, ◌*◌, ◌-◌, ◌/◌, ◌%◌, ◌<◌, ◌≤◌, Bool, true, false, ◌||◌, if◌then◌else◌, List}
use Rattle.std.proofs.Common.{[], ◌∷◌, map, length, nat_eq, nat_le, slice_get, slice_index_or, unwrap_or, Some, None, Option}
use Rattle.std.proofs.Common.{refl, sym, ◌∙◌, ap, subst, arith, ◌⊎◌, inl, inr}
use Rattle.std.specs.List.{All, dedup}
use Rattle.std.specs.List.Sorted.{IsPermutation, IsSorted}
use Rattle.std.specs.Ordering.{nat_cmp}
use Rattle.std.proofs.lemmas.Bool.{eq-eqb, leb-false, leb-true, or_left, or_right}
use Rattle.std.proofs.lemmas.List.Sorted.{list_any-IsPermutation}
use Rattle.std.proofs.lemmas.Option.{unwrap_or-slice_get}
use Rattle.cg_limit.specs.declared.TheConstants.{MOST_NETS}
use Rattle.cg_netlist.proofs.RisingNumbers.{range_rises, thinned_in, thinned_rises}
use Rattle.cg_stage_list_laws.specs.Literals.{ZeroCounts, AreZeroCounts, both_literals, by_count, zero_count, insert_literal}
use Rattle.cg_stage_list_laws.specs.Supports.{all_nets, in_net_order}
use Rattle.cg_machine.specs.Claims.{Literal}
use Rattle.cg_machine.specs.Machine.{IsMachine, MachineData}
use Rattle.cg_net.proofs.Members.{All-member, member_at}
use Rattle.cg_netlist.proofs.RisingPlaces.{Rises, rising_same}
use Rattle.cg_net.specs.NetSets.{is_in}
use Rattle.cg_hold.specs.inner.Packed.{literal_place, packed, unpacked}
use Rattle.cg_netlist.proofs.Filtered.{in_filter}
use Rattle.cg_netlist.proofs.Driven.{in_range}

-- without a stimulus the order is that of the nets
pub by_none : (ls : List Literal) → by_count None ls ≡ ls
by_none [] = refl
by_none (l ∷ ls) = ap (insert_literal None l) (by_none ls) ∙ front ls
  where
    front : (ks : List Literal) → insert_literal None l ks ≡ l ∷ ks
    front [] = refl
    front (k ∷ ks) = refl

module _ (counts : ZeroCounts) where
  abbrev count : Literal → ℕ
  count l = zero_count (Some counts) l

  abbrev order : List Literal → List Literal
  order ls = by_count (Some counts) ls

  -- literals whose places are above one, and whose counts are among the rows
  abbrev pub Above : ℕ → List Literal → Type 0
  Above p [] = Unit {0}
  Above p (k ∷ ks) = ((p < literal_place k) × (literal_place k < 2097152) × (count k ≤ counts.rows)) × Above p ks

  -- literals whose places rise
  abbrev pub Rise : ℕ → List Literal → Type 0
  Rise p [] = Unit {0}
  Rise p (l ∷ ls) = ((p ≤ literal_place l) × (literal_place l < 2097152) × (count l ≤ counts.rows)) × Rise (suc (literal_place l)) ls

  above_less : (p q : ℕ) (ks : List Literal) → q ≤ p → Above p ks → Above q ks
  above_less p q [] less above = tt
  above_less p q (k ∷ ks) less above = let h = above.0.0 in ((omega (arith, h, less), above.0.1, above.0.2), above_less p q ks less above.1)

  le-cases : (a b : ℕ) → ((nat_le a b ≡ true) × (a ≤ b)) ⊎ ((nat_le a b ≡ false) × (b < a))
  le-cases a b = go (nat_le a b) refl
    where
      go : (t : Bool) → nat_le a b ≡ t → ((nat_le a b ≡ true) × (a ≤ b)) ⊎ ((nat_le a b ≡ false) × (b < a))
      go true is = inl (is, leb-true a b is)
      go false is = inr (is, leb-false a b is)

  insert_first : (l k : Literal) (ks : List Literal) → nat_le (count k) (count l) ≡ true → insert_literal (Some counts) l (k ∷ ks) ≡ l ∷ k ∷ ks
  insert_first l k ks is = ap (λ b. if b then l ∷ k ∷ ks else k ∷ insert_literal (Some counts) l ks) is

  insert_later : (l k : Literal) (ks : List Literal) → nat_le (count k) (count l) ≡ false → insert_literal (Some counts) l (k ∷ ks) ≡ k ∷ insert_literal (Some counts) l ks
  insert_later l k ks is = ap (λ b. if b then l ∷ k ∷ ks else k ∷ insert_literal (Some counts) l ks) is

  above_insert : (p : ℕ) (l : Literal) (ks : List Literal) → (p < literal_place l) × (literal_place l < 2097152) × (count l ≤ counts.rows) → Above p ks → Above p (insert_literal (Some counts) l ks)
  above_insert p l [] here above = (here, tt)
  above_insert p l (k ∷ ks) here above = elim (le-cases (count k) (count l)) [
    | inl first ↦ subst (Above p) (sym (insert_first l k ks first.0)) (here, above)
    | inr later ↦ subst (Above p) (sym (insert_later l k ks later.0)) (above.0, above_insert p l ks here above.1)
  ]

  above_order : (p : ℕ) (ls : List Literal) → Rise (suc p) ls → Above p (order ls)
  above_order p [] rise = tt
  above_order p (l ∷ ls) rise =
      let h = rise.0.0 in
      above_insert p l (order ls) (omega (arith, h), rise.0.1, rise.0.2) (above_less (literal_place l) p (order ls) (omega (arith, h)) (above_order (literal_place l) ls rise.1))

  before : (l k : Literal) → count k ≤ count l → literal_place l < literal_place k → packed counts l < packed counts k
  before l k less place = omega arith

  behind : (l k : Literal) → count l < count k → count k ≤ counts.rows → literal_place k < 2097152 → packed counts k < packed counts l
  behind l k more most small = omega arith

  rises_insert : (a : ℕ) (l : Literal) (ks : List Literal) → a ≤ packed counts l → Above (literal_place l) ks → Rises a (map (packed counts) ks) → Rises a (map (packed counts) (insert_literal (Some counts) l ks))
  rises_insert a l [] low above rises = (low, tt)
  rises_insert a l (k ∷ ks) low above rises = elim (le-cases (count k) (count l)) [
    | inl first ↦ subst (λ xs. Rises a (map (packed counts) xs)) (sym (insert_first l k ks first.0)) (low, (before l k first.1 above.0.0, rises.1))
    | inr later ↦ subst (λ xs. Rises a (map (packed counts) xs)) (sym (insert_later l k ks later.0)) (rises.0, rises_insert (suc (packed counts k)) l ks (behind l k later.1 above.0.2 above.0.1) above.1 rises.1)
  ]

  pub rises_order : (p : ℕ) (ls : List Literal) → Rise p ls → Rises 0 (map (packed counts) (order ls))
  rises_order p [] rise = tt
  rises_order p (l ∷ ls) rise = rises_insert 0 l (order ls) (omega arith) (above_order (literal_place l) ls rise.1) (rises_order (suc (literal_place l)) ls rise.1)

  -- the order has the same literals
  in_insert : (l : Literal) (ks : List Literal) (x : ℕ) → is_in (map (packed counts) (insert_literal (Some counts) l ks)) x ≡ (nat_eq x (packed counts l) || is_in (map (packed counts) ks) x)
  in_insert l [] x = refl
  in_insert l (k ∷ ks) x = elim (le-cases (count k) (count l)) [
    | inl first ↦ ap (λ xs. is_in (map (packed counts) xs) x) (insert_first l k ks first.0)
    | inr later ↦ ap (λ xs. is_in (map (packed counts) xs) x) (insert_later l k ks later.0) ∙ (ap (λ b. nat_eq x (packed counts k) || b) (in_insert l ks x) ∙ turn (nat_eq x (packed counts k)) (nat_eq x (packed counts l)) (is_in (map (packed counts) ks) x))
  ]
    where
      turn : (a b c : Bool) → (a || (b || c)) ≡ (b || (a || c))
      turn true true c = refl
      turn true false c = refl
      turn false b c = refl

  pub in_order : (ls : List Literal) (x : ℕ) → is_in (map (packed counts) (order ls)) x ≡ is_in (map (packed counts) ls) x
  in_order [] x = refl
  in_order (l ∷ ls) x = in_insert l (order ls) x ∙ ap (λ b. nat_eq x (packed counts l) || b) (in_order ls x)

  -- a literal from its number
  unpacked_is : (l : Literal) → literal_place l < 2097152 → unpacked (packed counts l) ≡ l
  unpacked_is l small = go l.1 refl
    where
      rest : packed counts l % 2097152 ≡ literal_place l
      rest = omega arith

      go : (b : Bool) → l.1 ≡ b → unpacked (packed counts l) ≡ l
      go true is =
          let p : literal_place l ≡ 2 * l.0 + 1 = ap (λ c. 2 * l.0 + (if c then 1 else 0)) is in
          let half : (packed counts l % 2097152) / 2 ≡ l.0 = omega (arith, rest, p) in
          let odd : (packed counts l % 2097152) % 2 ≡ 1 = omega (arith, rest, p) in
          ap (λ n. (n, nat_eq ((packed counts l % 2097152) % 2) 1)) half ∙ (ap (λ n. (l.0, nat_eq n 1)) odd ∙ ap (λ b. (l.0, b)) (sym is))
      go false is =
          let p : literal_place l ≡ 2 * l.0 = ap (λ c. 2 * l.0 + (if c then 1 else 0)) is ∙ omega arith in
          let half : (packed counts l % 2097152) / 2 ≡ l.0 = omega (arith, rest, p) in
          let even : (packed counts l % 2097152) % 2 ≡ 0 = omega (arith, rest, p) in
          ap (λ n. (n, nat_eq ((packed counts l % 2097152) % 2) 1)) half ∙ (ap (λ n. (l.0, nat_eq n 1)) even ∙ ap (λ b. (l.0, b)) (sym is))

  -- literals whose places are not too great
  abbrev pub Small : List Literal → Type 0
  Small [] = Unit {0}
  Small (l ∷ ls) = (literal_place l < 2097152) × Small ls

  small_insert : (l : Literal) (ks : List Literal) → literal_place l < 2097152 → Small ks → Small (insert_literal (Some counts) l ks)
  small_insert l [] here small = (here, tt)
  small_insert l (k ∷ ks) here small = elim (le-cases (count k) (count l)) [
    | inl first ↦ subst Small (sym (insert_first l k ks first.0)) (here, small)
    | inr later ↦ subst Small (sym (insert_later l k ks later.0)) (small.0, small_insert l ks here small.1)
  ]

  pub small_order : (p : ℕ) (ls : List Literal) → Rise p ls → Small (order ls)
  small_order p [] rise = tt
  small_order p (l ∷ ls) rise = small_insert l (order ls) rise.0.1 (small_order (suc (literal_place l)) ls rise.1)

  pub unpacked_all : (ls : List Literal) → Small ls → map unpacked (map (packed counts) ls) ≡ ls
  unpacked_all [] small = refl
  unpacked_all (l ∷ ls) small = ap (λ k. k ∷ map unpacked (map (packed counts) ls)) (unpacked_is l small.0) ∙ ap (λ ks. l ∷ ks) (unpacked_all ls small.1)

  -- each net plain and inverted, where the nets rise
  pub both_rise : (nets : List ℕ) (a b : ℕ) → Rises a nets → b ≤ 2 * a → ((y : ℕ) → is_in nets y ≡ true → y < MOST_NETS) → ((l : Literal) → count l ≤ counts.rows) → Rise b (both_literals nets)
  both_rise [] a b rises low small most = tt
  both_rise (y ∷ nets) a b rises low small most =
      let h = rises.0 in
      let s = small y (or_left (nat_eq y y) (is_in nets y) (eq-eqb y y refl)) in (
        (omega (arith, h, low), omega (arith, s), most (y, false)),
        (
          (omega arith, omega (arith, s), most (y, true)),
          both_rise nets (suc y) (suc (2 * y + 1)) rises.1 (omega arith) (λ z among. small z (or_right (nat_eq z y) (is_in nets z) among)) most,
        ),
      )

  -- no count is above the rows
  index_most : (xs : List ℕ) (n k : ℕ) → All (λ z. z ≤ n) xs → slice_index_or xs k 0 ≤ n
  index_most xs n k most = go (slice_get xs k) refl
    where
      go : (o : Option ℕ) → slice_get xs k ≡ o → slice_index_or xs k 0 ≤ n
      go None at = let e : slice_index_or xs k 0 ≡ 0 = sym (unwrap_or-slice_get xs k 0) ∙ ap (λ o. unwrap_or o 0) at in omega (arith, e)
      go (Some z) at =
          let e : slice_index_or xs k 0 ≡ z = sym (unwrap_or-slice_get xs k 0) ∙ ap (λ o. unwrap_or o 0) at in
          let h : z ≤ n = All-member (λ y. y ≤ n) xs z most (member_at xs k z at) in
          omega (arith, e, h)

  pub count_most : All (λ z. z ≤ counts.rows) counts.zeros → (l : Literal) → count l ≤ counts.rows
  count_most most l = go l.1
    where
      go : (b : Bool) → (if b then counts.rows - slice_index_or counts.zeros l.0 0 else slice_index_or counts.zeros l.0 0) ≤ counts.rows
      go true = omega arith
      go false = index_most counts.zeros counts.rows l.0 most

-- the literals of nets in their order, from their numbers
pub ranked_is : (m : MachineData) (counts : ZeroCounts) → IsMachine m → AreZeroCounts m counts → (nets : List ℕ) → nets ≡ in_net_order m nets → (numbers sorted thinned : List ℕ) → numbers ≡ map (packed counts) (both_literals nets) → IsPermutation numbers sorted → IsSorted nat_cmp sorted
    → thinned ≡ dedup nat_eq sorted → map unpacked thinned ≡ by_count (Some counts) (both_literals nets)
ranked_is m counts good fits nets order numbers sorted thinned packs moved sorts thins =
    let rises : Rises 0 nets = subst (Rises 0) (sym order) (range_rises (is_in nets) (length m.circuit.names) 0) in
    let small : (y : ℕ) → is_in nets y ≡ true → y < MOST_NETS = λ y among.
    let b = in_range (length m.circuit.names) 0 y (in_filter (is_in nets) (all_nets m) y (ap (λ l. is_in l y) (sym order) ∙ among)).0 in
    let s = good.small in
    omega (arith, b.1, s) in
    let rise = both_rise counts nets 0 0 rises (omega arith) small (count_most counts fits.most) in
    ap (map unpacked) (thins ∙ rising_same (dedup nat_eq sorted) (map (packed counts) (by_count (Some counts) (both_literals nets))) 0 0 (thinned_rises sorted sorts) (rises_order counts 0 (both_literals nets) rise)
    (λ x. thinned_in sorted x ∙ (sym (list_any-IsPermutation (nat_eq x) numbers sorted moved) ∙ (ap (λ l. is_in l x) packs ∙ sym (in_order counts (both_literals nets) x)))))
    ∙ unpacked_all counts (by_count (Some counts) (both_literals nets)) (small_order counts 0 (both_literals nets) rise)
