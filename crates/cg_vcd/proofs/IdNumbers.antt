-- The numbers of ids, in a table and a map.
use Rattle.std.proofs.Common.{◌≡◌, ◌≢◌, ℕ, zero, suc, ◌+◌, ◌*◌, ◌<◌, ◌≤◌, true, false, List, [], ◌∷◌, ◌++◌, length, get_or, slice_get, Option, None, Some, MatchOption}
use Rattle.std.proofs.Common.{refl, sym, ap, ◌∙◌, arith, inl, inr, nat_lt, nat_le}
use Rattle.std.proofs.Common.{add-one, slice_index_or, ◌⊎◌}
use Rattle.std.specs.BTreeMap.{BTreeMap, get, is_at}
use Rattle.std.specs.Cmp.Lexicographic.{slice_cmp, texts_ties}
use Rattle.std.specs.List.{AllPairs, list_all}
use Rattle.std.specs.Ordering.{nat_cmp}
use Rattle.std.specs.Str.{bytes_eq}
use Rattle.std.proofs.lemmas.Bool.{and_parts, both_ways, cases_Bool}
use Rattle.std.proofs.lemmas.Bool.Decides.{nat_tests}
use Rattle.std.proofs.lemmas.Option.{none-some, same_Some, slice_get-get_or}
use Rattle.std.proofs.lemmas.Slice.Eq.{bytes_eq-Decides}
use Rattle.cg_net.specs.Names.{is_known}
use Rattle.cg_net.proofs.DifferentNames.{known_at}
use Rattle.cg_net.proofs.NameLemmas.{last_name}
use Rattle.cg_net.proofs.NamesInOrder.{known_there}
use Rattle.cg_net.proofs.TableLemmas.{front_get}
use Rattle.cg_vcd.specs.inner.IdPlaces.{IsTable, digit_at, is_printable, is_short, lookup, one_less, place_of}

-- places

pub place_written : (id : List ℕ) → is_short id ≡ true → digit_at id 0 + 95 * (digit_at id 1 + 95 * digit_at id 2) ≡ place_of id
place_written [] short = refl
place_written (a ∷ []) short = omega arith
place_written (a ∷ b ∷ []) short = omega arith
place_written (a ∷ b ∷ c ∷ []) short = omega arith
place_written (a ∷ b ∷ c ∷ d ∷ more) short =
    let parts = and_parts (nat_le (length (a ∷ b ∷ c ∷ d ∷ more)) 3) (list_all is_printable (a ∷ b ∷ c ∷ d ∷ more)) short in
    let few : length (a ∷ b ∷ c ∷ d ∷ more) ≤ 3 = grind (arith, nat_tests) in
    absurd (omega (arith, few))

above : (b : ℕ) → is_printable b ≡ true → 32 < b
above b printable = let parts = and_parts (nat_lt 32 b) (nat_lt b 127) printable in grind (arith, nat_tests)

below : (b : ℕ) → is_printable b ≡ true → b < 127
below b printable = let parts = and_parts (nat_lt 32 b) (nat_lt b 127) printable in grind (arith, nat_tests)

-- ids of one place are the same
same_place : (xs ys : List ℕ) → list_all is_printable xs ≡ true → list_all is_printable ys ≡ true → place_of xs ≡ place_of ys → xs ≡ ys
same_place [] [] px py e = refl
same_place [] (y ∷ ys) px py e = let p = and_parts (is_printable y) (list_all is_printable ys) py in let up = above y p.0 in absurd (omega (arith, e, up))
same_place (x ∷ xs) [] px py e = let p = and_parts (is_printable x) (list_all is_printable xs) px in let up = above x p.0 in absurd (omega (arith, e, up))
same_place (x ∷ xs) (y ∷ ys) px py e =
    let p = and_parts (is_printable x) (list_all is_printable xs) px in
    let q = and_parts (is_printable y) (list_all is_printable ys) py in
    let x_above = above x p.0 in
    let x_below = below x p.0 in
    let y_above = above y q.0 in
    let y_below = below y q.0 in
    let head : x ≡ y = omega (arith, e, x_above, x_below, y_above, y_below) in
    let rest : place_of xs ≡ place_of ys = omega (arith, e, x_above, x_below, y_above, y_below) in
    let tail : xs ≡ ys = same_place xs ys p.1 q.1 rest in
    cc

pub other_place : (id other : List ℕ) → is_short id ≡ true → is_short other ≡ true → other ≢ id → place_of other ≢ place_of id
other_place id other short too differ e =
    differ (same_place other id (and_parts (nat_le (length other) 3) (list_all is_printable other) too).1 (and_parts (nat_le (length id) 3) (list_all is_printable id) short).1 e)

tests_apart : (xs ys : List ℕ) → (xs ≡ ys → ⊥) → bytes_eq xs ys ≡ false
tests_apart xs ys differ = elim (cases_Bool (bytes_eq xs ys)) [ inl same ↦ absurd (differ ((bytes_eq-Decides xs ys).0 same)) | inr other ↦ other ]

-- the table of ids

module _ (ids : List (List ℕ)) (short : List ℕ) (long : BTreeMap (List ℕ) ℕ) (table : IsTable ids short long) where
  pub found_or_not : (id : List ℕ) (r : Option ℕ) → r ≡ lookup short long id → MatchOption r (is_known ids id ≡ false) (λ i. slice_get ids i ≡ Some id)
  found_or_not id None e = elim (cases_Bool (is_known ids id)) [
    | inl known ↦ let at = known_at ids id known in absurd (none-some at.0 (e ∙ table.finds at.0 id at.1))
    | inr unknown ↦ unknown
  ]
  found_or_not id (Some i) e = table.found id i (sym e)

  pub not_found : (id : List ℕ) (r : Option ℕ) → lookup short long id ≡ r → is_known ids id ≡ false → r ≡ None
  not_found id None e unknown = refl
  not_found id (Some i) e unknown = absurd (both_ways (is_known ids id) unknown (known_there ids i id (table.found id i e)))

  pub ids_differ : AllPairs (λ id other. id ≢ other) ids
  ids_differ i j d before within same =
      let at_i : slice_get ids i ≡ Some (get_or ids i d) = slice_get-get_or ids i d (omega (arith, before, within)) in
      let at_j : slice_get ids j ≡ Some (get_or ids j d) = slice_get-get_or ids j d within in
      let one : lookup short long (get_or ids i d) ≡ Some i = table.finds i (get_or ids i d) at_i in
      let two : lookup short long (get_or ids i d) ≡ Some j = ap (lookup short long) same ∙ table.finds j (get_or ids j d) at_j in
      let e : i ≡ j = same_Some i j (sym one ∙ two) in omega (arith, e, before)

-- one id more

last_or : (ids : List (List ℕ)) (id : List ℕ) (i : ℕ) (x : List ℕ) → slice_get (ids ++ id ∷ []) i ≡ Some x → (slice_get ids i ≡ Some x) ⊎ ((i ≡ length ids) × (x ≡ id))
last_or [] id zero x at = inr (refl, sym (same_Some id x at))
last_or [] id (suc i) x at = absurd (none-some x at)
last_or (y ∷ ids) id zero x at = inl at
last_or (y ∷ ids) id (suc i) x at = elim (last_or ids id i x at) [ inl before ↦ inl before | inr last ↦ inr (ap suc last.0, last.1) ]

module _ (ids : List (List ℕ)) (short new_short : List ℕ) (long new_long : BTreeMap (List ℕ) ℕ) (table : IsTable ids short long) where
  pub table_same : ((x : List ℕ) → lookup new_short new_long x ≡ lookup short long x) → IsTable ids new_short new_long
  table_same same = record {
    finds = λ i x at. same x ∙ table.finds i x at;
    found = λ x i e. table.found x i (sym (same x) ∙ e);
  }

  pub table_more : (id : List ℕ) → lookup short long id ≡ None → lookup new_short new_long id ≡ Some (length ids)
      → ((x : List ℕ) → x ≢ id → lookup new_short new_long x ≡ lookup short long x) → IsTable (ids ++ id ∷ []) new_short new_long
  table_more id unknown own others = record {
    finds = λ i x at. elim (last_or ids id i x at) [
      | inl before ↦ others x (λ e. none-some i (sym unknown ∙ (sym (ap (lookup short long) e) ∙ table.finds i x before))) ∙ table.finds i x before
      | inr last ↦ ap (lookup new_short new_long) last.1 ∙ (own ∙ ap Some (sym last.0))
    ];
    found = λ x i e. elim (cases_Bool (bytes_eq x id)) [
      | inl same ↦
          let is : x ≡ id = (bytes_eq-Decides x id).0 same in
          let place : i ≡ length ids = same_Some i (length ids) (sym e ∙ (ap (lookup new_short new_long) is ∙ own)) in
          ap (slice_get (ids ++ id ∷ [])) place ∙ (last_name ids id ∙ ap Some (sym is))
      | inr other ↦
          let differ : (x ≡ id → ⊥) = λ is. both_ways (bytes_eq x id) other ((bytes_eq-Decides x id).1 is) in
          front_get ids (id ∷ []) i x (table.found x i (sym (others x differ) ∙ e))
    ];
  }

-- a short id is given a number

module _ (short new_short : List ℕ) (long : BTreeMap (List ℕ) ℕ) (id : List ℕ) (number : ℕ) (is : is_short id ≡ true) where
  pub short_own : slice_index_or new_short (place_of id) 0 ≡ number + 1 → lookup new_short long id ≡ Some number
  short_own own = rw is (ap one_less (own ∙ add-one number))

  pub short_others : ((other : ℕ) → other ≢ place_of id → slice_index_or new_short other 0 ≡ slice_index_or short other 0)
      → (x : List ℕ) → x ≢ id → lookup new_short long x ≡ lookup short long x
  short_others others x differ = elim (cases_Bool (is_short x)) [
    | inl too ↦ rw too (ap one_less (others (place_of x) (other_place id x is too differ)))
    | inr far ↦ rw far refl
  ]

pub short_same : (short new_short : List ℕ) (long : BTreeMap (List ℕ) ℕ) → ((other : ℕ) → slice_index_or new_short other 0 ≡ slice_index_or short other 0)
    → (x : List ℕ) → lookup new_short long x ≡ lookup short long x
short_same short new_short long same x = elim (cases_Bool (is_short x)) [
  | inl near ↦ rw near (ap one_less (same (place_of x)))
  | inr far ↦ rw far refl
]

-- another id is given a number

module _ (short : List ℕ) (long new_long : BTreeMap (List ℕ) ℕ) (id : List ℕ) (number : ℕ) (far : is_short id ≡ false) where
  pub long_own : get (slice_cmp nat_cmp) new_long id ≡ Some number → lookup short new_long id ≡ Some number
  long_own own = rw far own

  pub long_others : ((x : List ℕ) → is_at (slice_cmp nat_cmp id) x ≡ false → get (slice_cmp nat_cmp) new_long x ≡ get (slice_cmp nat_cmp) long x)
      → (x : List ℕ) → x ≢ id → lookup short new_long x ≡ lookup short long x
  long_others others x differ =
      let apart : is_at (slice_cmp nat_cmp id) x ≡ false = sym (texts_ties id x) ∙ tests_apart id x (λ e. differ (sym e)) in
      elim (cases_Bool (is_short x)) [
        | inl near ↦ rw near refl
        | inr too ↦ rw too (others x apart)
      ]

pub long_same : (short : List ℕ) (long new_long : BTreeMap (List ℕ) ℕ) → new_long.entries ≡ long.entries → (x : List ℕ) → lookup short new_long x ≡ lookup short long x
long_same short long new_long e x = elim (cases_Bool (is_short x)) [
  | inl near ↦ rw near refl
  | inr far ↦ rw (far, e) refl
]

-- the table is made longer
pub zero_more : (xs : List ℕ) (k : ℕ) → slice_index_or (xs ++ 0 ∷ []) k 0 ≡ slice_index_or xs k 0
zero_more [] zero = refl
zero_more [] (suc k) = refl
zero_more (x ∷ xs) zero = refl
zero_more (x ∷ xs) (suc k) = zero_more xs k
