-- Lists that stand in one list, each with room of its own, as one is laid behind the others and as one grows.
use Rattle.std.proofs.Common.{◌≡◌, ◌≢◌, ℕ, zero, suc, ◌+◌, ◌-◌, ◌<◌, ◌≤◌, ◌⊎◌, inl, inr, List, [], ◌∷◌, ◌++◌, map, take, drop, length}
use Rattle.std.proofs.Common.{replicate, get_or, slice_get, slice_set, Some, refl, sym, ◌∙◌, ap, arith}
use Rattle.std.specs.List.{All}
use Rattle.std.specs.Option.{option_map}
use Rattle.std.proofs.lemmas.List.{drop-set-add, drop-set-lt, ext_get_or, get_or_default, length-drop, length-map, length-set, length-take-le, take-set-le, take_more_set}
use Rattle.std.proofs.Math.ListN.{get_or-eq_default}
use Rattle.std.proofs.lemmas.List.Elements.{All-from_get_or, All-head, All-tail}
use Rattle.std.proofs.lemmas.Option.{get_or_from_slice_get, none-some, same_Some, slice_get-get_or, slice_get-map, slice_get_within}
use Rattle.cg_net.proofs.TableLemmas.{same_or_not, set_cases, slice_get-set_other, slice_get-set_same}
use Rattle.cg_edge.specs.declared.readers.Span.{Span}
use Rattle.cg_edge.specs.inner.Keeping.{readers_at}
use Rattle.cg_edge.specs.inner.Spans.{AreApart, AreEmpty, Filled, IsWithin, spanned}

-- what stands in a list with one more element
pushed_cases : {X : Type 0} (xs : List X) (y : X) (i : ℕ) (x : X) → slice_get (xs ++ y ∷ []) i ≡ Some x → (slice_get xs i ≡ Some x) ⊎ ((i ≡ length xs) × (x ≡ y))
pushed_cases [] y zero x at = inr (refl, sym (same_Some y x at))
pushed_cases [] y (suc i) x at = absurd (none-some x at)
pushed_cases (z ∷ zs) y zero x at = inl at
pushed_cases (z ∷ zs) y (suc i) x at = elim (pushed_cases zs y i x at) [ inl was ↦ inl was | inr e ↦ inr (ap suc e.0, e.1) ]

below_or_not : (x y : ℕ) → (x < y) ⊎ (y ≤ x)
below_or_not x zero = inr (omega arith)
below_or_not zero (suc y) = inl (omega arith)
below_or_not (suc x) (suc y) = elim (below_or_not x y) [ inl below ↦ inl (omega (arith, below)) | inr least ↦ inr (omega (arith, least)) ]

pub apart_none : (room : List ℕ) → AreApart room [] 0
apart_none room = record {
  taken = λ x a at. absurd (none-some a at);
  fits = λ x a at. absurd (none-some a at);
  apart = λ x y a b below at there. absurd (none-some a at);
}

-- one more span behind the others
pub apart_more : (room : List ℕ) (spans : List Span) (n c : ℕ) (new : Span) → AreApart room spans n → new.first ≡ n → new.count ≡ 0 → c ≡ get_or room (length spans) 0
    → AreApart room (spans ++ new ∷ []) (n + c)
apart_more room spans n c new are first count is = record {
  taken = λ x a at. elim (pushed_cases spans new x a at) [
    | inl was ↦ are.taken x a was
    | inr e ↦ let none : a.count ≡ 0 = ap (λ (s : Span). s.count) e.1 ∙ count in omega (arith, none)
  ];
  fits = λ x a at. elim (pushed_cases spans new x a at) [
    | inl was ↦ let within = are.fits x a was in omega (arith, within)
    | inr e ↦
        let begins : a.first ≡ n = ap (λ (s : Span). s.first) e.1 ∙ first in
        let wide : get_or room x 0 ≡ c = ap (λ k. get_or room k 0) e.0 ∙ sym is in
        omega (arith, begins, wide)
  ];
  apart = λ x y a b below at there. elim (pushed_cases spans new y b there) [
    | inl later ↦ elim (pushed_cases spans new x a at) [
      | inl was ↦ are.apart x y a b below was later
      | inr e ↦ let within = slice_get_within spans y b later in let place = e.0 in absurd (omega (arith, below, within, place))
    ]
    | inr last ↦ elim (pushed_cases spans new x a at) [
      | inl was ↦
          let within = are.fits x a was in
          let begins : b.first ≡ n = ap (λ (s : Span). s.first) last.1 ∙ first in
          omega (arith, within, begins)
      | inr e ↦ let one = e.0 in let other = last.0 in absurd (omega (arith, below, one, other))
    ]
  ];
}

-- at spans of which none is taken nothing stands
pub nothing_spanned : (all : List ℕ) (spans : List Span) (n : ℕ) → length spans ≡ n → AreEmpty spans → map (spanned all) spans ≡ replicate n []
nothing_spanned all [] zero long none = refl
nothing_spanned all [] (suc n) long none = absurd (omega (arith, long))
nothing_spanned all (s ∷ spans) zero long none = absurd (omega (arith, long))
nothing_spanned all (s ∷ spans) (suc n) long none =
    let head : spanned all s ≡ [] = ap (λ k. take k (drop s.first all)) (All-head (λ (span : Span). span.count ≡ 0) s spans none) in
    let rest = nothing_spanned all spans n (omega (arith, long)) (All-tail (λ (span : Span). span.count ≡ 0) s spans none) in
    λ i. head i ∷ rest i

-- an element that is written outside of a span, and one that is written at its end
spanned_other : (all : List ℕ) (q p : ℕ) (b : Span) → (q < b.first) ⊎ (b.first + b.count ≤ q) → spanned (slice_set all q p) b ≡ spanned all b
spanned_other all q p b (inl before) = ap (take b.count) (drop-set-lt b.first all q p before)
spanned_other all q p b (inr behind) =
    let far : q ≡ b.first + (q - b.first) = omega (arith, behind) in
    ap (λ k. take b.count (drop b.first (slice_set all k p))) far
    ∙ (ap (take b.count) (drop-set-add b.first all (q - b.first) p) ∙ take-set-le b.count (drop b.first all) (q - b.first) p (omega (arith, behind)))

spanned_longer : (all : List ℕ) (p : ℕ) (a : Span) → a.first + a.count < length all
    → spanned (slice_set all (a.first + a.count) p) (record { first = a.first; count = a.count + 1 }) ≡ spanned all a ++ p ∷ []
spanned_longer all p a within =
    ap (take (a.count + 1)) (drop-set-add a.first all a.count p)
    ∙ take_more_set (drop a.first all) a.count p (let long = length-drop a.first all in omega (arith, long, within))

-- how many elements stand at a span
pub length-spanned : (all : List ℕ) (a : Span) → IsWithin (length all) a → length (spanned all a) ≡ a.count
length-spanned all a within = length-take-le a.count (drop a.first all) (let long = length-drop a.first all in omega (arith, long, within))

module _ (all : List ℕ) (spans : List Span) (room : List ℕ) (are : AreApart room spans (length all)) where
  within_at : (x : ℕ) (a : Span) → slice_get spans x ≡ Some a → IsWithin (length all) a
  within_at x a at = let taken = are.taken x a at in let fits = are.fits x a at in omega (arith, taken, fits)

  -- all spans stand within the list
  pub all_within : All (IsWithin (length all)) spans
  all_within = All-from_get_or (IsWithin (length all)) spans (record { first = 0; count = 0 }) (λ i below. within_at i (get_or spans i (record { first = 0; count = 0 })) (slice_get-get_or spans i (record { first = 0; count = 0 }) below))

  module _ (x p : ℕ) (a : Span) (at : slice_get spans x ≡ Some a) where
    pub own_list : readers_at (map (spanned all) spans) x ≡ spanned all a
    own_list = get_or_from_slice_get (map (spanned all) spans) x (spanned all a) [] (slice_get-map (spanned all) spans x ∙ ap (option_map (spanned all)) at)

    pub own_count : length (readers_at (map (spanned all) spans) x) ≡ a.count
    own_count = ap length own_list ∙ length-spanned all a (within_at x a at)

    module _ (new : Span) (first : new.first ≡ a.first) (count : new.count ≡ a.count + 1) (free : a.count < get_or room x 0) where
      -- what a span was before it grew
      was : (y : ℕ) (b : Span) → slice_get (slice_set spans x new) y ≡ Some b → (o : Span) × (slice_get spans y ≡ Some o) × (b.first ≡ o.first) × (b.count ≤ get_or room y 0)
      was y b there = elim (set_cases spans x y new b there) [
        | inl e ↦
            let more : b.count ≡ a.count + 1 = ap (λ (s : Span). s.count) e.1 ∙ count in
            let here : get_or room y 0 ≡ get_or room x 0 = ap (λ k. get_or room k 0) e.0 in
            (a, ap (slice_get spans) e.0 ∙ at, ap (λ (s : Span). s.first) e.1 ∙ first, omega (arith, more, here, free))
        | inr e ↦ (b, e.1, refl, are.taken y b e.1)
      ]

      pub apart_grown : AreApart room (slice_set spans x new) (length all)
      apart_grown = record {
        taken = λ y b there. (was y b there).3;
        fits = λ y b there. let o = was y b there in let same = o.2 in let within = are.fits y o.0 o.1 in omega (arith, same, within);
        apart = λ y z b d below there later.
            let o = was y b there in
            let l = was z d later in
            let one = o.2 in
            let other = l.2 in
            let apart = are.apart y z o.0 l.0 below o.1 l.1 in
            omega (arith, one, other, apart);
      }

      other_span : (y : ℕ) (b : Span) → y ≢ x → slice_get spans y ≡ Some b → (a.first + a.count < b.first) ⊎ (b.first + b.count ≤ a.first + a.count)
      other_span y b differ there = elim (below_or_not x y) [
        | inl below ↦ let apart = are.apart x y a b below at there in inl (omega (arith, apart, free))
        | inr least ↦
            let apart = are.apart y x b a (omega (arith, least, differ)) there at in
            let taken = are.taken y b there in
            inr (omega (arith, apart, taken))
      ]

      same_at : (y : ℕ) → y < length spans → slice_get (map (spanned (slice_set all (a.first + a.count) p)) (slice_set spans x new)) y
          ≡ slice_get (slice_set (map (spanned all) spans) x (readers_at (map (spanned all) spans) x ++ p ∷ [])) y
      same_at y below = elim (same_or_not y x) [
        | inl e ↦
            let within : x < length spans = slice_get_within spans x a at in
            let fits = are.fits x a at in
            let grown : spanned (slice_set all (a.first + a.count) p) new ≡ readers_at (map (spanned all) spans) x ++ p ∷ [] =
            (λ i. take (count i) (drop (first i) (slice_set all (a.first + a.count) p))) ∙ (spanned_longer all p a (omega (arith, fits, free)) ∙ ap (λ l. l ++ p ∷ []) (sym own_list)) in
            slice_get-map (spanned (slice_set all (a.first + a.count) p)) (slice_set spans x new) y
            ∙ (ap (λ k. option_map (spanned (slice_set all (a.first + a.count) p)) (slice_get (slice_set spans x new) k)) e
            ∙ (ap (option_map (spanned (slice_set all (a.first + a.count) p))) (slice_get-set_same spans x new within)
            ∙ (ap (λ l. Some l) grown
            ∙ (sym (slice_get-set_same (map (spanned all) spans) x (readers_at (map (spanned all) spans) x ++ p ∷ []) (let long = length-map spans (spanned all) in omega (arith, long, within)))
            ∙ ap (slice_get (slice_set (map (spanned all) spans) x (readers_at (map (spanned all) spans) x ++ p ∷ []))) (sym e)))))
        | inr differ ↦
            let b = get_or spans y a in
            let there : slice_get spans y ≡ Some b = slice_get-get_or spans y a below in
            slice_get-map (spanned (slice_set all (a.first + a.count) p)) (slice_set spans x new) y
            ∙ (ap (option_map (spanned (slice_set all (a.first + a.count) p))) (slice_get-set_other spans x y new differ ∙ there)
            ∙ (ap (λ l. Some l) (spanned_other all (a.first + a.count) p b (other_span y b differ there))
            ∙ (ap (option_map (spanned all)) (sym there)
            ∙ (sym (slice_get-map (spanned all) spans y)
            ∙ sym (slice_get-set_other (map (spanned all) spans) x y (readers_at (map (spanned all) spans) x ++ p ∷ []) differ)))))
      ]

      pub spans_grown : map (spanned (slice_set all (a.first + a.count) p)) (slice_set spans x new) ≡ slice_set (map (spanned all) spans) x (readers_at (map (spanned all) spans) x ++ p ∷ [])
      spans_grown =
          let left : length (map (spanned (slice_set all (a.first + a.count) p)) (slice_set spans x new)) ≡ length spans = length-map (slice_set spans x new) (spanned (slice_set all (a.first + a.count) p)) ∙ length-set spans x new in
          let right : length (slice_set (map (spanned all) spans) x (readers_at (map (spanned all) spans) x ++ p ∷ [])) ≡ length spans = length-set (map (spanned all) spans) x (readers_at (map (spanned all) spans) x ++ p ∷ []) ∙ length-map spans (spanned all) in
          ext_get_or [] (map (spanned (slice_set all (a.first + a.count) p)) (slice_set spans x new)) (slice_set (map (spanned all) spans) x (readers_at (map (spanned all) spans) x ++ p ∷ [])) (left ∙ sym right)
          (λ y below.
          let near : y < length spans = omega (arith, below, left) in
          let here = slice_get-get_or (slice_set (map (spanned all) spans) x (readers_at (map (spanned all) spans) x ++ p ∷ [])) y [] (omega (arith, near, right)) in
          get_or_from_slice_get (map (spanned (slice_set all (a.first + a.count) p)) (slice_set spans x new)) y (get_or (slice_set (map (spanned all) spans) x (readers_at (map (spanned all) spans) x ++ p ∷ [])) y []) [] (same_at y near ∙ here))

-- the span of a number is the one that is read there
pub span_at : (spans : List Span) (n x : ℕ) (a d : Span) → n ≡ x → x < length spans → a ≡ get_or spans n d → slice_get spans x ≡ Some a
span_at spans n x a d same below is = slice_get-get_or spans x d below ∙ ap (λ s. Some s) (ap (λ k. get_or spans k d) (sym same) ∙ sym is)

-- a list that has fewer elements than there is room for is that of a span with as few
pub count_free : (all : List ℕ) (spans : List Span) (room : List ℕ) (are : AreApart room spans (length all)) (x : ℕ) (a : Span) (f : Filled) → slice_get spans x ≡ Some a
    → record { lists = map (spanned all) spans; room = room } ≡ f → length (readers_at f.lists x) < get_or f.room x 0 → a.count < get_or room x 0
count_free all spans room are x a f at view less =
    let lists : length (readers_at (map (spanned all) spans) x) ≡ length (readers_at f.lists x) = ap (λ (g : Filled). length (readers_at g.lists x)) view in
    let rooms : get_or room x 0 ≡ get_or f.room x 0 = ap (λ (g : Filled). get_or g.room x 0) view in
    let count = own_count all spans room are x 0 a at in
    omega (arith, lists, rooms, count, less)

-- the room that is read
pub room_read : (room : List ℕ) (n x r k : ℕ) → n ≡ x → r ≡ get_or room n r → k < get_or room x 0 → k < r
room_read room n x r k same is less =
    let there : get_or room n 0 ≡ get_or room x 0 = ap (λ j. get_or room j 0) same in
    elim (below_or_not n (length room)) [
      | inl below ↦ let here = get_or_default room n r 0 below in omega (arith, is, here, there, less)
      | inr past ↦ let none : get_or room n 0 ≡ 0 = get_or-eq_default room 0 past in absurd (omega (arith, none, there, less))
    ]
