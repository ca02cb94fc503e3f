-- Walk order puts each cell behind those that drive its inputs.
use Rattle.std.proofs.Common.{◌≡◌, ℕ, zero, suc, ◌+◌, ◌<◌, ◌≤◌, Bool, true, false, ◌||◌, cond, List, [], ◌∷◌, ◌++◌, length}
use Rattle.std.proofs.Common.{slice_get, Option, None, Some, nat_eq, ◌==◌, is_none, unwrap_or, refl, ap, sym, ◌∙◌, subst, inl, inr}
use Rattle.std.proofs.Common.{arith}
use Rattle.std.specs.List.{IsDistinct, cons_option, filter, filter_map, flat_map, position_from, range_with_len}
use Rattle.std.specs.Option.{option_map_or}
use Rattle.std.proofs.lemmas.Bool.{both_ways, cases_Bool, eqb-true, eq-eqb, or_cases, or_left, or_parts, or_right}
use Rattle.std.proofs.lemmas.Option.{none-some, same_Some, slice_get_within}
use Rattle.cg_netlist.specs.Circuit.{LogicCell}
use Rattle.cg_net.specs.NetSets.{is_in}
use Rattle.cg_netlist.specs.Moment.{values_at}
use Rattle.cg_netlist.specs.Ranks.{driving_cell, driving_cells, rank_of, rank_within}
use Rattle.cg_netlist.specs.WellFormed.{AreRanks}
use Rattle.cg_net.proofs.Members.{distinct_head, distinct_tail, is_in_cases, is_in_left, is_in_right, member_at, place_of_member}
use Rattle.cg_netlist.proofs.RankLemmas.{next_rank-below, next_rank-bound, next_rank-more}
use Rattle.cg_netlist.proofs.Values.{at_map, under_map}
use Rattle.cg_netlist.proofs.Rising.{every_rank_found}
use Rattle.std.specs.List.{AllByRecursion}
use Rattle.cg_netlist.specs.Nets.{IsOrdered, IsWalk, has_rank, outputs, walk_order}
use Rattle.cg_netlist.proofs.Filtered.{range_in, to_filter}

-- the first cell that drives a net, where no net is driven twice
found_at : (x : ℕ) (cells : List (LogicCell ℕ)) (a j : ℕ) (c : LogicCell ℕ) → IsDistinct nat_eq (outputs cells) → slice_get cells j ≡ Some c → c.output ≡ x → position_from (λ cell. cell.output == x) a cells ≡ Some (a + j)
found_at x [] a j c distinct at is = absurd (cc)
found_at x (d ∷ cells) a zero c distinct at is =
    let same : d ≡ c = same_Some d c at in
    let here : (d.output == x) ≡ true = eq-eqb d.output x (ap (λ (z : LogicCell ℕ). z.output) same ∙ is) in
    let e : a ≡ a + 0 = omega arith in
    ap (λ b. cond b (Some a) (position_from (λ cell. cell.output == x) (a + 1) cells)) here ∙ ap Some e
found_at x (d ∷ cells) a (suc j) c distinct at is = elim (cases_Bool (d.output == x)) [
  | inl here ↦
      let again : is_in (outputs cells) d.output ≡ true = subst (λ y. is_in (outputs cells) y ≡ true) (is ∙ sym (eqb-true d.output x here)) (member_at (outputs cells) j c.output (at_map (λ cell. cell.output) cells j c at)) in
      absurd (both_ways (is_in (outputs cells) d.output) (distinct_head d.output (outputs cells) distinct) again)
  | inr there ↦
      let e : a + 1 + j ≡ a + suc j = omega arith in
      ap (λ b. cond b (Some a) (position_from (λ cell. cell.output == x) (a + 1) cells)) there ∙ (found_at x cells (a + 1) j c (distinct_tail d.output (outputs cells) distinct) at is ∙ ap Some e)
]

in_some : (o : Option ℕ) (ks : List ℕ) (k : ℕ) → is_in ks k ≡ true → is_in (cons_option o ks) k ≡ true
in_some None ks k among = among
in_some (Some j) ks k among = or_right (nat_eq k j) (is_in ks k) among

pub in_driving : (f : ℕ → Option ℕ) (nets : List ℕ) (net k : ℕ) → is_in nets net ≡ true → f net ≡ Some k → is_in (filter_map f nets) k ≡ true
in_driving f [] net k among is = absurd (both_ways false refl among)
in_driving f (x ∷ nets) net k among is = elim (or_cases (nat_eq net x) (is_in nets net) among) [
  | inl here ↦ subst (λ o. is_in (cons_option o (filter_map f nets)) k ≡ true) (sym (ap f (sym (eqb-true net x here)) ∙ is)) (or_left (nat_eq k k) (is_in (filter_map f nets) k) (eq-eqb k k refl))
  | inr later ↦ in_some (f x) (filter_map f nets) k (in_driving f nets net k later is)
]

each_member : (P : ℕ → Type 0) (xs : List ℕ) (x : ℕ) → AllByRecursion P xs → is_in xs x ≡ true → P x
each_member P [] x all among = absurd (both_ways false refl among)
each_member P (y ∷ xs) x all among = elim (or_cases (nat_eq x y) (is_in xs x) among) [
  | inl here ↦ subst P (sym (eqb-true x y here)) all.0
  | inr later ↦ each_member P xs x all.1 later
]

rank_more : (above : ℕ → List ℕ) (m k r : ℕ) → rank_within above m k ≡ Some r → rank_within above (suc m) k ≡ Some r
rank_more above zero k r is = absurd (cc)
rank_more above (suc m) k r is = next_rank-more (rank_within above m) (rank_within above (suc m)) (above k) r (λ j q at. rank_more above m j q at) is

pub rank_small : (above : ℕ → List ℕ) (n k r : ℕ) → rank_within above n k ≡ Some r → r < n
rank_small above zero k r is = absurd (cc)
rank_small above (suc n) k r is = let b = next_rank-bound (rank_within above n) (above k) r n (λ j q at. rank_small above n j q at) is in omega (arith, b)

rank_above : (cells : List (LogicCell ℕ)) (j k r : ℕ) → is_in (driving_cells cells k) j ≡ true → rank_of cells k ≡ Some r → (q : ℕ) × (rank_of cells j ≡ Some q) × (q < r)
rank_above [] j k r among is = absurd (cc)
rank_above (c ∷ cells) j k r among is =
    let below = each_member _ (driving_cells (c ∷ cells) k) j (next_rank-below (rank_within (driving_cells (c ∷ cells)) (length cells)) (driving_cells (c ∷ cells) k) r is) among in
    (below.0, rank_more (driving_cells (c ∷ cells)) (length cells) j below.0 below.1, below.2)

-- numbers in an order in which their ranks do not fall
abbrev NonFalling : (ℕ → ℕ) → List ℕ → Type 0
NonFalling rank [] = Unit {0}
NonFalling rank (k ∷ ks) = ((j : ℕ) → is_in ks j ≡ true → rank k ≤ rank j) × NonFalling rank ks

falling_append : (rank : ℕ → ℕ) (a : ℕ) (xs ys : List ℕ) → ((x : ℕ) → is_in xs x ≡ true → rank x ≡ a) → ((y : ℕ) → is_in ys y ≡ true → a ≤ rank y) → NonFalling rank ys → NonFalling rank (xs ++ ys)
falling_append rank a [] ys here there falls = falls
falling_append rank a (x ∷ xs) ys here there falls = (
  (λ j among. let first : rank x ≡ a = here x (or_left (nat_eq x x) (is_in xs x) (eq-eqb x x refl)) in elim (is_in_cases xs ys j among) [
    | inl front ↦ omega (arith, first, here j (or_right (nat_eq j x) (is_in xs j) front))
    | inr back ↦ omega (arith, first, there j back)
  ]),
  falling_append rank a xs ys (λ z among. here z (or_right (nat_eq z x) (is_in xs z) among)) there falls,
)

pub in_filter : (test : ℕ → Bool) (xs : List ℕ) (x : ℕ) → is_in (filter test xs) x ≡ true → test x ≡ true
in_filter test [] x among = absurd (both_ways false refl among)
in_filter test (y ∷ xs) x among = go (in_filter test xs x) (test y) refl among
  where
    go : (is_in (filter test xs) x ≡ true → test x ≡ true) → (b : Bool) → test y ≡ b → is_in (cond b (y ∷ filter test xs) (filter test xs)) x ≡ true → test x ≡ true
    go known false is inside = known inside
    go known true is inside = elim (or_cases (nat_eq x y) (is_in (filter test xs) x) inside) [ inl same ↦ ap test (eqb-true x y same) ∙ is | inr later ↦ known later ]

in_range : (n x : ℕ) → x < n → is_in (range_with_len 0 n) x ≡ true
in_range n x below = let e : 0 + x ≡ x = omega arith in subst (λ y. is_in (range_with_len 0 n) y ≡ true) e (range_in n 0 x below)

pub in_each : (f : ℕ → List ℕ) (xs : List ℕ) (x y : ℕ) → is_in xs x ≡ true → is_in (f x) y ≡ true → is_in (flat_map f xs) y ≡ true
in_each f [] x y among inside = absurd (both_ways false refl among)
in_each f (z ∷ xs) x y among inside = elim (or_cases (nat_eq x z) (is_in xs x) among) [
  | inl same ↦ is_in_left (f z) (flat_map f xs) y (subst (λ w. is_in (f w) y ≡ true) (eqb-true x z same) inside)
  | inr later ↦ is_in_right (f z) (flat_map f xs) y (in_each f xs x y later inside)
]

module _ (cells : List (LogicCell ℕ)) where
  abbrev rank : ℕ → ℕ
  rank k = unwrap_or (rank_of cells k) 0

  rank_is : (k r : ℕ) → rank_of cells k ≡ Some r → rank k ≡ r
  rank_is k r is = ap (λ o. unwrap_or o 0) is

  has_is : (a k : ℕ) → has_rank cells a k ≡ true → rank k ≡ a
  has_is a k has = go (rank_of cells k) has
    where
      go : (o : Option ℕ) → option_map_or (λ r. r == a) o false ≡ true → unwrap_or o 0 ≡ a
      go None h = absurd (both_ways false refl h)
      go (Some r) h = eqb-true r a h

  abbrev group : ℕ → List ℕ
  group a = filter (has_rank cells a) (range_with_len 0 (length cells))

  group_rank : (a x : ℕ) → is_in (group a) x ≡ true → rank x ≡ a
  group_rank a x among = has_is a x (in_filter (has_rank cells a) (range_with_len 0 (length cells)) x among)

  groups_rank : (n a y : ℕ) → is_in (flat_map group (range_with_len a n)) y ≡ true → a ≤ rank y
  groups_rank zero a y among = absurd (both_ways false refl among)
  groups_rank (suc n) a y among = elim (is_in_cases (group a) (flat_map group (range_with_len (a + 1) n)) y among) [
    | inl here ↦ omega (arith, group_rank a y here)
    | inr later ↦ omega (arith, groups_rank n (a + 1) y later)
  ]

  groups_fall : (n a : ℕ) → NonFalling rank (flat_map group (range_with_len a n))
  groups_fall zero a = tt
  groups_fall (suc n) a = falling_append rank a (group a) (flat_map group (range_with_len (a + 1) n)) (group_rank a) (λ y among. omega (arith, groups_rank n (a + 1) y among)) (groups_fall n (a + 1))

  -- cells by their numbers
  from_place : (ks : List ℕ) (j : ℕ) (c : LogicCell ℕ) → slice_get (values_at cells ks) j ≡ Some c → (k : ℕ) × (is_in ks k ≡ true) × (slice_get cells k ≡ Some c)
  from_place [] j c at = absurd (none-some c at)
  from_place (k ∷ ks) j c at = go (λ i e. from_place ks i c e) (slice_get cells k) refl j at
    where
      go : ((i : ℕ) → slice_get (values_at cells ks) i ≡ Some c → (k' : ℕ) × (is_in ks k' ≡ true) × (slice_get cells k' ≡ Some c)) → (o : Option (LogicCell ℕ)) → slice_get cells k ≡ o → (i : ℕ)
          → slice_get (cons_option o (values_at cells ks)) i ≡ Some c → (k' : ℕ) × ((nat_eq k' k || is_in ks k') ≡ true) × (slice_get cells k' ≡ Some c)
      go known None is i e = let f = known i e in (f.0, or_right (nat_eq f.0 k) (is_in ks f.0) f.1, f.2)
      go known (Some d) is zero e = (k, or_left (nat_eq k k) (is_in ks k) (eq-eqb k k refl), is ∙ e)
      go known (Some d) is (suc i) e = let f = known i e in (f.0, or_right (nat_eq f.0 k) (is_in ks f.0) f.1, f.2)

  to_place : (ks : List ℕ) (k : ℕ) (c : LogicCell ℕ) → is_in ks k ≡ true → slice_get cells k ≡ Some c → (j : ℕ) × (slice_get (values_at cells ks) j ≡ Some c)
  to_place [] k c among at = absurd (both_ways false refl among)
  to_place (x ∷ ks) k c among at = elim (or_cases (nat_eq k x) (is_in ks k) among) [
    | inl same ↦ (0, ap (λ o. slice_get (cons_option o (values_at cells ks)) 0) (ap (slice_get cells) (sym (eqb-true k x same)) ∙ at))
    | inr later ↦ shift (slice_get cells x) (to_place ks k c later at)
  ]
    where
      shift : (o : Option (LogicCell ℕ)) → (j : ℕ) × (slice_get (values_at cells ks) j ≡ Some c) → (j : ℕ) × (slice_get (cons_option o (values_at cells ks)) j ≡ Some c)
      shift None f = f
      shift (Some d) f = (suc f.0, f.1)

  module _ (ranks : List ℕ) (ranked : AreRanks cells ranks) (distinct : IsDistinct nat_eq (outputs cells)) where
    has_some : (k : ℕ) → k < length cells → (r : ℕ) × (rank_of cells k ≡ Some r)
    has_some k below = go (rank_of cells k) refl (every_rank_found cells ranks ranked k below)
      where
        go : (o : Option ℕ) → rank_of cells k ≡ o → is_none o ≡ false → (r : ℕ) × (rank_of cells k ≡ Some r)
        go None is h = absurd (both_ways true h refl)
        go (Some r) is h = (r, is)

    -- a cell has a lower rank than one whose input it drives
    drives_lower : (j k x : ℕ) (d c : LogicCell ℕ) → slice_get cells j ≡ Some d → slice_get cells k ≡ Some c → is_in c.inputs x ≡ true → d.output ≡ x → rank j < rank k
    drives_lower j k x d c at_j at_k input is =
        let r = has_some k (slice_get_within cells k c at_k) in
        let zero_j : 0 + j ≡ j = omega arith in
        let drive : driving_cell cells x ≡ Some j = found_at x cells 0 j d distinct at_j is ∙ ap Some zero_j in
        let among : is_in (driving_cells cells k) j ≡ true = subst (λ o. is_in (option_map_or (λ (cell : LogicCell ℕ). filter_map (driving_cell cells) cell.inputs) o []) j ≡ true) (sym at_k) (in_driving (driving_cell cells) c.inputs x j input drive) in
        let q = rank_above cells j k r.0 among r.1 in
        omega (arith, rank_is k r.0 r.1, rank_is j q.0 q.1, q.2)

    ordered_by : (ks : List ℕ) → NonFalling rank ks → IsOrdered (values_at cells ks)
    ordered_by [] falls = tt
    ordered_by (k ∷ ks) falls = go (slice_get cells k) refl (ordered_by ks falls.1)
      where
        go : (o : Option (LogicCell ℕ)) → slice_get cells k ≡ o → IsOrdered (values_at cells ks) → IsOrdered (cons_option o (values_at cells ks))
        go None is rest = rest
        go (Some c) is rest = (
          (λ x input. elim (cases_Bool (is_in (outputs (c ∷ values_at cells ks)) x)) [
            | inr none ↦ none
            | inl out ↦
                let place = place_of_member (outputs (c ∷ values_at cells ks)) x out in
                let d = under_map (λ (cell : LogicCell ℕ). cell.output) (c ∷ values_at cells ks) place.0 x place.1 in
                absurd (later place.0 d.0 d.1 x input d.2)
          ]),
          rest,
        )
          where
            later : (i : ℕ) (d : LogicCell ℕ) → slice_get (c ∷ values_at cells ks) i ≡ Some d → (x : ℕ) → is_in c.inputs x ≡ true → d.output ≡ x → ⊥
            later zero d at x input out = let low = drives_lower k k x d c (is ∙ at) is input out in omega arith
            later (suc i) d at x input out =
                let j = from_place ks i d at in
                let low = drives_lower j.0 k x d c j.2 is input out in
                omega (arith, low, falls.0 j.0 j.1)

    -- each cell stands in walk order
    pub in_order : (k : ℕ) → k < length cells → is_in (walk_order cells) k ≡ true
    in_order k below =
        let r = has_some k below in
        let small = rank_small (driving_cells cells) (length cells) k r.0 r.1 in
        let has : has_rank cells r.0 k ≡ true = ap (λ o. option_map_or (λ q. q == r.0) o false) r.1 ∙ eq-eqb r.0 r.0 refl in
        in_each group (range_with_len 0 (length cells)) r.0 k (in_range (length cells) r.0 small) (to_filter (has_rank cells r.0) (range_with_len 0 (length cells)) k (in_range (length cells) k below) has)

    -- walk order is an order in which the cells may be put
    pub walk_is : IsWalk cells (values_at cells (walk_order cells))
    walk_is = record {
      ordered = ordered_by (walk_order cells) (groups_fall (length cells) 0);
      of_cells = λ j cell at. let k = from_place (walk_order cells) j cell at in (k.0, k.2);
      placed = λ k cell at. to_place (walk_order cells) k cell (in_order k (slice_get_within cells k cell at)) at;
      whole = λ x among.
          let place = place_of_member (outputs cells) x among in
          let c = under_map (λ (cell : LogicCell ℕ). cell.output) cells place.0 x place.1 in
          let j = to_place (walk_order cells) place.0 c.0 (in_order place.0 (slice_get_within cells place.0 c.0 c.1)) c.1 in
          subst (λ y. is_in (outputs (values_at cells (walk_order cells))) y ≡ true) c.2
          (member_at (outputs (values_at cells (walk_order cells))) j.0 c.0.output (at_map (λ (cell : LogicCell ℕ). cell.output) (values_at cells (walk_order cells)) j.0 c.0 j.1));
    }

-- one more cell behind all others, whose output none of them reads, nor the cell itself
pub ordered_push : (walk : List (LogicCell ℕ)) (g : LogicCell ℕ) → IsOrdered walk → ((k : ℕ) (cell : LogicCell ℕ) → slice_get walk k ≡ Some cell → is_in cell.inputs g.output ≡ false) → is_in g.inputs g.output ≡ false
    → IsOrdered (walk ++ g ∷ [])
ordered_push [] g ordered apart own = (
  (λ x input. elim (cases_Bool (nat_eq x g.output || false)) [
    | inr none ↦ none
    | inl same ↦ elim (or_cases (nat_eq x g.output) false same) [
      | inl e ↦ absurd (both_ways (is_in g.inputs g.output) own (subst (λ y. is_in g.inputs y ≡ true) (eqb-true x g.output e) input))
      | inr e ↦ absurd (both_ways false refl e)
    ]
  ]),
  tt,
)
ordered_push (cell ∷ walk) g ordered apart own = (
  (λ x input. elim (cases_Bool (is_in (outputs (cell ∷ (walk ++ g ∷ []))) x)) [
    | inr none ↦ none
    | inl out ↦
        let place = place_of_member (outputs (cell ∷ (walk ++ g ∷ []))) x out in
        let d = under_map (λ (c : LogicCell ℕ). c.output) (cell ∷ (walk ++ g ∷ [])) place.0 x place.1 in
        absurd (later (cell ∷ walk) place.0 d.0 d.1 x input d.2 (ordered.0 x input))
  ]),
  ordered_push walk g ordered.1 (λ k. apart (suc k)) own,
)
  where
    later : (w : List (LogicCell ℕ)) (i : ℕ) (d : LogicCell ℕ) → slice_get (w ++ g ∷ []) i ≡ Some d → (x : ℕ) → is_in cell.inputs x ≡ true → d.output ≡ x → is_in (outputs w) x ≡ false → ⊥
    later [] zero d at x input out none =
        let same : g ≡ d = same_Some g d at in
        both_ways (is_in cell.inputs g.output) (apart 0 cell refl) (subst (λ y. is_in cell.inputs y ≡ true) (sym (ap (λ (z : LogicCell ℕ). z.output) same ∙ out)) input)
    later [] (suc i) d at x input out none = none-some d at
    later (c ∷ w) zero d at x input out none =
        let same : c ≡ d = same_Some c d at in
        both_ways (is_in (outputs (c ∷ w)) x) none (or_left (nat_eq x c.output) (is_in (outputs w) x) (eq-eqb x c.output (sym (ap (λ (z : LogicCell ℕ). z.output) same ∙ out))))
    later (c ∷ w) (suc i) d at x input out none = later w i d at x input out (or_parts (nat_eq x c.output) (is_in (outputs w) x) none).1
