-- The places of names in a list.
use Rattle.std.specs.Prelude.{◌≡◌, ◌≢◌, ◌⊎◌, ℕ, suc, ◌+◌, ◌<◌, Bool, true, false, not, ◌||◌, if◌then◌else◌, List, [], ◌∷◌, map}
use Rattle.std.specs.Prelude.{length, slice_get, unwrap_or, Some, nat_eq}
use Rattle.std.proofs.Common.{refl, ap, ◌∙◌, sym, inl, inr, arith, get_or, cond}
use Rattle.std.specs.List.{AllByRecursion, AllPairs, before_first, list_any, range_with_len}
use Rattle.std.specs.Option.{option_map}
use Rattle.std.specs.Str.{bytes_eq}
use Rattle.std.proofs.lemmas.Bool.{both_ways, cases_Bool, cases_lt, false_from_ne_true, or_cases, or_left, or_right, eqb-true}
use Rattle.std.proofs.lemmas.Bool.{eq-eqb}
use Rattle.std.proofs.lemmas.List.{length-map, map-id}
use Rattle.std.proofs.lemmas.List.Sums.{prefix_len_is}
use Rattle.std.proofs.lemmas.List.FromFn.{fill_by_all}
use Rattle.std.proofs.lemmas.Option.{slice_get-get_or, slice_get-map, slice_get_within, get_or_from_slice_get}
use Rattle.std.proofs.lemmas.Option.{unwrap_or-slice_get}
use Rattle.cg_netlist.proofs.OrderedForm.{names}
use Rattle.cg_netlist_parts.proofs.KnownNames.{first_step, itself, known_head, known_tail, same_word}
use Rattle.cg_net.specs.NetSets.{is_in}
use Rattle.cg_net.specs.Names.{NetName, is_known, net_name, name_place}

-- the place of a name in a list in which it stands once
pub number_is : (names : List NetName) (i : ℕ) (name : NetName) → AllPairs (λ n other. n ≢ other) names → slice_get names i ≡ Some name → name_place names name ≡ i
number_is names i name different at =
    let here : get_or names i [] ≡ name = get_or_from_slice_get names i name [] at in
    let within = slice_get_within names i name at in
    prefix_len_is (λ other. not (bytes_eq name other)) names i [] (omega arith)
    (λ k lt. ap not (false_from_ne_true (bytes_eq name (get_or names k [])) (λ same. different k i [] lt within (sym (same_word name (get_or names k []) same) ∙ sym here))))
    (λ lt. ap not (ap (bytes_eq name) here ∙ itself name))

-- different nets have different names
pub same_net : (names : List NetName) (a b : ℕ) → AllPairs (λ name other. name ≢ other) names → a < length names → b < length names → net_name names a ≡ net_name names b → a ≡ b
same_net names a b different a_in b_in same =
    let here : get_or names a [] ≡ get_or names b [] = sym (unwrap_or-slice_get names a []) ∙ (same ∙ unwrap_or-slice_get names b []) in
    elim (cases_lt a b) [
      | inl lt ↦ absurd (different a b [] lt b_in here)
      | inr le ↦ elim (cases_lt b a) [
        | inl lt ↦ absurd (different b a [] lt a_in (sym here))
        | inr ge ↦ omega arith
      ]
    ]

-- of two names of a list one is first
pub either_first : (xs : List NetName) (x y : NetName) → is_known xs x ≡ true → is_known xs y ≡ true → bytes_eq x y ≡ false → (is_known (before_first (bytes_eq x) xs) y ≡ true) ⊎ (is_known (before_first (bytes_eq y) xs) x ≡ true)
either_first [] x y x_in y_in other = absurd (both_ways false refl x_in)
either_first (z ∷ zs) x y x_in y_in other = elim (cases_Bool (bytes_eq x z)) [
  | inl x_here ↦ inr (ap (λ ws. is_known ws x) (first_step (bytes_eq y) z zs) ∙ (ap (λ c. is_known (if c then [] else z ∷ before_first (bytes_eq y) zs) x)
      (false_from_ne_true (bytes_eq y z) (λ y_here. both_ways (bytes_eq x y) other (ap (bytes_eq x) (same_word y z y_here) ∙ x_here)))
      ∙ or_left (bytes_eq x z) (is_known (before_first (bytes_eq y) zs) x) x_here))
  | inr x_later ↦ elim (cases_Bool (bytes_eq y z)) [
    | inl y_here ↦ inl (ap (λ ws. is_known ws y) (first_step (bytes_eq x) z zs) ∙ (ap (λ c. is_known (if c then [] else z ∷ before_first (bytes_eq x) zs) y) x_later
        ∙ or_left (bytes_eq y z) (is_known (before_first (bytes_eq x) zs) y) y_here))
    | inr y_later ↦ elim (either_first zs x y (later x x_in x_later) (later y y_in y_later) other) [
      | inl first ↦ inl (ap (λ ws. is_known ws y) (first_step (bytes_eq x) z zs) ∙ (ap (λ c. is_known (if c then [] else z ∷ before_first (bytes_eq x) zs) y) x_later ∙ known_tail z y (before_first (bytes_eq x) zs) first))
      | inr first ↦ inr (ap (λ ws. is_known ws x) (first_step (bytes_eq y) z zs) ∙ (ap (λ c. is_known (if c then [] else z ∷ before_first (bytes_eq y) zs) x) y_later ∙ known_tail z x (before_first (bytes_eq y) zs) first))
    ]
  ]
]
  where
    later : (w : NetName) → is_known (z ∷ zs) w ≡ true → bytes_eq w z ≡ false → is_known zs w ≡ true
    later w in' none = elim (or_cases (bytes_eq w z) (is_known zs w) in') [ inl here ↦ absurd (both_ways (bytes_eq w z) none here) | inr more ↦ more ]

pub any_known : (q : NetName → Bool) (xs : List NetName) (y : NetName) → is_known xs y ≡ true → q y ≡ true → list_any q xs ≡ true
any_known q [] y is passes = is
any_known q (x ∷ xs) y is passes = elim (or_cases (bytes_eq y x) (is_known xs y) is) [
  | inl here ↦ or_left (q x) (list_any q xs) (ap q (sym (same_word y x here)) ∙ passes)
  | inr later ↦ or_right (q x) (list_any q xs) (any_known q xs y later passes)
]

pub first_of_one : (xs : List NetName) (x : NetName) → is_known xs x ≡ true → ((y : NetName) → is_known xs y ≡ true → y ≡ x) → slice_get xs 0 ≡ Some x
first_of_one [] x is one = absurd (both_ways false refl is)
first_of_one (y ∷ ys) x is one = ap (λ z. Some z) (one y (known_head y ys))

-- the place of a word
pub place_at : (xs : List NetName) (x : NetName) → is_known xs x ≡ true → slice_get xs (name_place xs x) ≡ Some x
place_at [] x is = absurd (both_ways false refl is)
place_at (y ∷ ys) x is = go (bytes_eq x y) refl (λ more. place_at ys x more)
  where
    go : (b : Bool) → bytes_eq x y ≡ b → (is_known ys x ≡ true → slice_get ys (name_place ys x) ≡ Some x) → slice_get (y ∷ ys) (cond (not b) (1 + name_place ys x) 0) ≡ Some x
    go true e more = ap (λ z. Some z) (sym (same_word x y e))
    go false e more =
        let next : 1 + name_place ys x ≡ suc (name_place ys x) = omega arith in
        ap (slice_get (y ∷ ys)) next ∙ more (elim (or_cases (bytes_eq x y) (is_known ys x) is) [ inl here ↦ absurd (both_ways (bytes_eq x y) e here) | inr later ↦ later ])

pub name_back : (xs : List NetName) (x : NetName) → is_known xs x ≡ true → net_name xs (name_place xs x) ≡ x
name_back xs x is = ap (λ o. unwrap_or o []) (place_at xs x is)

pub place_below : (xs : List NetName) (x : NetName) → is_known xs x ≡ true → name_place xs x < length xs
place_below xs x is = slice_get_within xs (name_place xs x) x (place_at xs x is)

pub same_place : (xs : List NetName) (x y : NetName) → is_known xs x ≡ true → is_known xs y ≡ true → name_place xs x ≡ name_place xs y → x ≡ y
same_place xs x y x_in y_in same = sym (name_back xs x x_in) ∙ (ap (net_name xs) same ∙ name_back xs y y_in)

pub places_are : (xs : List NetName) → AllPairs (λ name other. name ≢ other) xs → map (name_place xs) xs ≡ range_with_len 0 (length xs)
places_are xs different =
    fill_by_all (λ k. k) (map (name_place xs) xs) (length xs) 0 (length-map xs (name_place xs)) (λ k lt.
    let at : slice_get xs k ≡ Some (get_or xs k []) = slice_get-get_or xs k [] lt in
    get_or_from_slice_get (map (name_place xs) xs) k k 0 (slice_get-map (name_place xs) xs k ∙ (ap (option_map (name_place xs)) at ∙ ap (λ m. Some m) (number_is xs k (get_or xs k []) different at))))
    ∙ map-id (range_with_len 0 (length xs))

-- a net is among numbered ones as its name is among the names
pub placed_as : (order xs : List NetName) (x : NetName) → AllByRecursion (λ y. is_known order y ≡ true) xs → is_known order x ≡ true → is_in (map (name_place order) xs) (name_place order x) ≡ is_known xs x
placed_as order [] x all is = refl
placed_as order (y ∷ ys) x all is = ap (λ b. b || is_in (map (name_place order) ys) (name_place order x)) one ∙ ap (λ b. bytes_eq x y || b) (placed_as order ys x all.1 is)
  where
    one : nat_eq (name_place order x) (name_place order y) ≡ bytes_eq x y
    one = elim (cases_Bool (bytes_eq x y)) [
      | inl same ↦ eq-eqb (name_place order x) (name_place order y) (ap (name_place order) (same_word x y same)) ∙ sym same
      | inr other ↦ false_from_ne_true (nat_eq (name_place order x) (name_place order y)) (λ same.
          both_ways (bytes_eq x y) other (ap (bytes_eq x) (sym (same_place order x y is all.0 (eqb-true (name_place order x) (name_place order y) same))) ∙ itself x)) ∙ sym other
    ]

pub from_places : (order xs : List NetName) (n : ℕ) → is_in (map (name_place order) xs) n ≡ true → (x : NetName) × (is_known xs x ≡ true) × (n ≡ name_place order x)
from_places order [] n is = absurd (both_ways false refl is)
from_places order (x ∷ xs) n is = elim (or_cases (nat_eq n (name_place order x)) (is_in (map (name_place order) xs) n) is) [
  | inl here ↦ (x, known_head x xs, eqb-true n (name_place order x) here)
  | inr later ↦ let more = from_places order xs n later in (more.0, known_tail x more.0 xs more.1, more.2)
]
