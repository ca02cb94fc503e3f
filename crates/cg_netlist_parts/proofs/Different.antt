-- Lists in which no name stands twice.
use Rattle.std.specs.Prelude.{◌≡◌, ◌≢◌, ℕ, suc, ◌<◌, ◌≤◌, Bool, true, false, not, if◌then◌else◌, List, [], ◌∷◌, ◌++◌, map, length}
use Rattle.std.specs.Prelude.{nat_eq}
use Rattle.std.proofs.Common.{refl, ap, ◌∙◌, sym, subst, inl, inr, arith}
use Rattle.std.specs.List.{AllPairs, IsDistinct, filter}
use Rattle.std.specs.Str.{bytes_eq}
use Rattle.std.proofs.lemmas.Bool.{both_ways, cases_Bool, false_from_ne_true, or_cases, or_left, eqb-true}
use Rattle.std.proofs.lemmas.List.{length-map}
use Rattle.std.proofs.lemmas.Map.Steps.{length-le_from_distinct_below}
use Rattle.std.proofs.lemmas.Option.{get_or_from_slice_get}
use Rattle.cg_net.proofs.Members.{distinct_cons}
use Rattle.cg_netlist_parts.proofs.ByKind.{filter_has}
use Rattle.cg_netlist_parts.proofs.KnownNames.{itself, known_head, known_left, known_tail, same_word}
use Rattle.cg_netlist_parts.proofs.NamePlaces.{place_at, place_below, same_place}
use Rattle.cg_net.specs.NetSets.{is_in}
use Rattle.cg_net.specs.Names.{NetName, is_known, name_place}
use Rattle.cg_netlist_parts.specs.Part.{each_once}

-- lists in which no name stands twice
abbrev pub Apart : List NetName → Type 0
Apart [] = Unit {0}
Apart (x ∷ xs) = (is_known xs x ≡ false) × Apart xs

pub apart_from : (xs : List NetName) → AllPairs (λ name other. name ≢ other) xs → Apart xs
apart_from [] different = tt
apart_from (x ∷ xs) different = (
  false_from_ne_true (is_known xs x) (λ again.
      let at = place_at xs x again in
      let lt : name_place xs x < length xs = place_below xs x again in
      different 0 (suc (name_place xs x)) [] (omega arith) (omega (arith, lt)) (sym (get_or_from_slice_get xs (name_place xs x) x [] at))),
  apart_from xs (λ i j d before within. different (suc i) (suc j) d (omega (arith, before)) (omega (arith, within))),
)

pub apart_left : (xs ys : List NetName) → Apart (xs ++ ys) → Apart xs
apart_left [] ys apart = tt
apart_left (x ∷ xs) ys apart = (false_from_ne_true (is_known xs x) (λ again. both_ways (is_known (xs ++ ys) x) apart.0 (known_left xs ys x again)), apart_left xs ys apart.1)

none_left_out : (x : NetName) (ys : List NetName) → is_known ys x ≡ false → filter (λ other. not (bytes_eq other x)) ys ≡ ys
none_left_out x [] none = refl
none_left_out x (y ∷ ys) none = elim (cases_Bool (bytes_eq y x)) [
  | inl same ↦ absurd (both_ways (is_known (y ∷ ys) x) none (or_left (bytes_eq x y) (is_known ys x) (ap (bytes_eq x) (same_word y x same) ∙ itself x)))
  | inr other ↦ ap (λ b. if not b then y ∷ filter (λ o. not (bytes_eq o x)) ys else filter (λ o. not (bytes_eq o x)) ys) other
      ∙ ap (λ zs. y ∷ zs) (none_left_out x ys (false_from_ne_true (is_known ys x) (λ later. both_ways (is_known (y ∷ ys) x) none (known_tail y x ys later))))
]

pub once_apart : (xs : List NetName) → Apart xs → each_once xs ≡ xs
once_apart [] apart = refl
once_apart (x ∷ xs) apart = ap (λ ys. x ∷ filter (λ other. not (bytes_eq other x)) ys) (once_apart xs apart.1) ∙ ap (λ ys. x ∷ ys) (none_left_out x xs apart.0)

pub filter_apart : (p : NetName → Bool) (xs : List NetName) → Apart xs → Apart (filter p xs)
filter_apart p [] apart = tt
filter_apart p (x ∷ xs) apart = go (p x) (filter_apart p xs apart.1)
  where
    go : (b : Bool) → Apart (filter p xs) → Apart (if b then x ∷ filter p xs else filter p xs)
    go true rest = (false_from_ne_true (is_known (filter p xs) x) (λ again. both_ways (is_known xs x) apart.0 (filter_has p xs x again).0), rest)
    go false rest = rest

pub apart_once : (xs : List NetName) → Apart (each_once xs)
apart_once [] = tt
apart_once (x ∷ xs) = (
  false_from_ne_true (is_known (filter (λ other. not (bytes_eq other x)) (each_once xs)) x) (λ again.
      both_ways (not (bytes_eq x x)) (ap not (itself x)) (filter_has (λ other. not (bytes_eq other x)) (each_once xs) x again).1),
  filter_apart (λ other. not (bytes_eq other x)) (each_once xs) (apart_once xs),
)

-- different words among others are no more than those
pub no_more : (xs ys : List NetName) → Apart xs → ((x : NetName) → is_known xs x ≡ true → is_known ys x ≡ true) → length xs ≤ length ys
unfolding IsDistinct
no_more xs ys apart within =
    let places : length (map (name_place ys) xs) ≤ length ys = length-le_from_distinct_below (map (name_place ys) xs) (length ys) (distinct xs apart within) (λ n i. below xs n within i) in
    omega (arith, places, length-map xs (name_place ys))
  where
    back : (zs : List NetName) (n : ℕ) → is_in (map (name_place ys) zs) n ≡ true → (z : NetName) × (is_known zs z ≡ true) × (n ≡ name_place ys z)
    back [] n i = absurd (both_ways false refl i)
    back (z ∷ zs) n i = elim (or_cases (nat_eq n (name_place ys z)) (is_in (map (name_place ys) zs) n) i) [
      | inl here ↦ (z, known_head z zs, eqb-true n (name_place ys z) here)
      | inr later ↦ let more = back zs n later in (more.0, known_tail z more.0 zs more.1, more.2)
    ]

    below : (zs : List NetName) (n : ℕ) → ((x : NetName) → is_known zs x ≡ true → is_known ys x ≡ true) → is_in (map (name_place ys) zs) n ≡ true → n < length ys
    below zs n in' i = let z = back zs n i in subst (λ m. m < length ys) (sym z.2) (place_below ys z.0 (in' z.0 z.1))

    distinct : (zs : List NetName) → Apart zs → ((x : NetName) → is_known zs x ≡ true → is_known ys x ≡ true) → IsDistinct nat_eq (map (name_place ys) zs)
    distinct [] apart' in' = tt
    distinct (z ∷ zs) apart' in' = distinct_cons (name_place ys z) (map (name_place ys) zs)
        (false_from_ne_true (is_in (map (name_place ys) zs) (name_place ys z)) (λ again.
        let y = back zs (name_place ys z) again in
        both_ways (is_known zs z) apart'.0 (ap (is_known zs) (same_place ys z y.0 (in' z (known_head z zs)) (in' y.0 (known_tail z y.0 zs y.1)) y.2) ∙ y.1)))
        (distinct zs apart'.1 (λ x i. in' x (known_tail z x zs i)))
