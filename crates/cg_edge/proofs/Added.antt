-- The readers of nets, as cell after cell is added; and marks, as place after place is marked.
use Rattle.std.proofs.Common.{◌≡◌, ◌≢◌, ℕ, zero, suc, ◌+◌, ◌<◌, ◌≤◌, inl, inr, Bool, true, false, List, [], ◌∷◌, ◌++◌, take, length}
use Rattle.std.proofs.Common.{replicate, get_or, slice_get, slice_set, Some, nat_eq, refl, sym, ◌∙◌, ap, arith}
use Rattle.std.specs.List.{All}
use Rattle.std.proofs.lemmas.Bool.{both_ways, eq-eqb, eqb-true, or_cases, or_left}
use Rattle.std.proofs.lemmas.List.{length-replicate, length-set, take_more}
use Rattle.std.proofs.lemmas.Option.{get_or_from_slice_get, same_Some, slice_get_within, unwrap_or-slice_get}
use Rattle.cg_netlist.specs.Circuit.{LogicCell}
use Rattle.cg_net.specs.NetSets.{is_in}
use Rattle.cg_net.proofs.Members.{is_in_cases, is_in_left, is_in_right, place_of_member}
use Rattle.cg_net.proofs.TableLemmas.{same_or_not, slice_get-set_other, slice_get-set_same}
use Rattle.cg_edge.specs.inner.Keeping.{AreReaders, IsAdded, MarksMore, readers_at}

-- the places that are marked so far
abbrev pub AreTold : List ℕ → ℕ → List Bool → Type 0
AreTold places n marks = (j p : ℕ) → j < n → slice_get places j ≡ Some p → slice_get marks p ≡ Some true

pub told_more : (places : List ℕ) (i p : ℕ) (old marks : List Bool) → p < length marks → slice_get places i ≡ Some p → MarksMore old marks → AreTold places i marks
    → MarksMore old (slice_set marks p true) × AreTold places (i + 1) (slice_set marks p true)
told_more places i p old marks below at more told =
    let kept : (q : ℕ) → slice_get marks q ≡ Some true → slice_get (slice_set marks p true) q ≡ Some true = λ q was. elim (same_or_not q p) [
      | inl e ↦ ap (slice_get (slice_set marks p true)) e ∙ slice_get-set_same marks p true below
      | inr e ↦ slice_get-set_other marks p q true e ∙ was
    ] in (
      record { long = length-set marks p true ∙ more.long; kept = λ q was. kept q (more.kept q was) },
      λ j q before here. elim (same_or_not j i) [
        | inl e ↦
            let same : q ≡ p = same_Some q p (sym here ∙ (ap (slice_get places) e ∙ at)) in
            ap (slice_get (slice_set marks p true)) same ∙ slice_get-set_same marks p true below
        | inr e ↦ kept q (told j q (omega (arith, e)) here)
      ],
    )

pub all_are_marked : (places : List ℕ) (i : ℕ) (marks : List Bool) → length places ≤ i → AreTold places i marks → (p : ℕ) → is_in places p ≡ true → slice_get marks p ≡ Some true
all_are_marked places i marks all told p among =
    let j = place_of_member places p among in
    told j.0 p (omega (arith, all, slice_get_within places j.0 p j.1)) j.1

-- readers where one list is another
pub readers_set : (readers : List (List ℕ)) (x y : ℕ) (places : List ℕ) → y ≢ x → readers_at (slice_set readers x places) y ≡ readers_at readers y
readers_set readers x y places differ = sym (unwrap_or-slice_get (slice_set readers x places) y []) ∙ (ap (λ o. Rattle.std.specs.Prelude.unwrap_or o []) (slice_get-set_other readers x y places differ) ∙ unwrap_or-slice_get readers y [])

pub readers_new : (readers : List (List ℕ)) (x : ℕ) (places : List ℕ) → x < length readers → readers_at (slice_set readers x places) x ≡ places
readers_new readers x places below = get_or_from_slice_get (slice_set readers x places) x places [] (slice_get-set_same readers x places below)

pub added_none : (place : ℕ) (old : List (List ℕ)) → IsAdded [] place old old
added_none place old = record { long = refl; kept = λ x p was. was; put = λ x among. absurd (both_ways false refl among); only = λ x p is. inl is }

pub added_more : (inputs : List ℕ) (i x place : ℕ) (old cur : List (List ℕ)) → i < length inputs → x ≡ get_or inputs i 0 → x < length cur → IsAdded (take i inputs) place old cur
    → IsAdded (take (i + 1) inputs) place old (slice_set cur x (readers_at cur x ++ place ∷ []))
added_more inputs i x place old cur within is below added =
    let more : take (i + 1) inputs ≡ take i inputs ++ x ∷ [] = take_more inputs i 0 within ∙ ap (λ y. take i inputs ++ y ∷ []) (sym is) in
    let grown : (y p : ℕ) → is_in (readers_at cur y) p ≡ true → is_in (readers_at (slice_set cur x (readers_at cur x ++ place ∷ [])) y) p ≡ true = λ y p was. elim (same_or_not y x) [
      | inl e ↦ ap (λ z. is_in (readers_at (slice_set cur x (readers_at cur x ++ place ∷ [])) z) p) e
          ∙ (ap (λ l. is_in l p) (readers_new cur x (readers_at cur x ++ place ∷ []) below) ∙ is_in_left (readers_at cur x) (place ∷ []) p (ap (λ z. is_in (readers_at cur z) p) (sym e) ∙ was))
      | inr e ↦ ap (λ l. is_in l p) (readers_set cur x y (readers_at cur x ++ place ∷ []) e) ∙ was
    ] in
    record {
      long = length-set cur x (readers_at cur x ++ place ∷ []) ∙ added.long;
      kept = λ y p was. grown y p (added.kept y p was);
      put = λ y among. elim (is_in_cases (take i inputs) (x ∷ []) y (ap (λ l. is_in l y) (sym more) ∙ among)) [
        | inl earlier ↦ grown y place (added.put y earlier)
        | inr here ↦ elim (or_cases (nat_eq y x) false here) [
          | inl e ↦ ap (λ z. is_in (readers_at (slice_set cur x (readers_at cur x ++ place ∷ [])) z) place) (eqb-true y x e)
              ∙ (ap (λ l. is_in l place) (readers_new cur x (readers_at cur x ++ place ∷ []) below) ∙ is_in_right (readers_at cur x) (place ∷ []) place (or_left (nat_eq place place) false (eq-eqb place place refl)))
          | inr none ↦ absurd (both_ways false refl none)
        ]
      ];
      only = λ y p now. elim (same_or_not y x) [
        | inr e ↦ added.only y p (ap (λ l. is_in l p) (sym (readers_set cur x y (readers_at cur x ++ place ∷ []) e)) ∙ now)
        | inl e ↦
            let there : is_in (readers_at cur x ++ place ∷ []) p ≡ true = ap (λ l. is_in l p) (sym (readers_new cur x (readers_at cur x ++ place ∷ []) below)) ∙ (ap (λ z. is_in (readers_at (slice_set cur x (readers_at cur x ++ place ∷ [])) z) p) (sym e) ∙ now) in
            elim (is_in_cases (readers_at cur x) (place ∷ []) p there) [
              | inl was ↦ added.only y p (ap (λ z. is_in (readers_at cur z) p) e ∙ was)
              | inr own ↦ elim (or_cases (nat_eq p place) false own) [ inl same ↦ inr (eqb-true p place same) | inr none ↦ absurd (both_ways false refl none) ]
            ]
      ];
    }

pub no_readers_at : (n x : ℕ) → readers_at (replicate n []) x ≡ []
no_readers_at zero x = refl
no_readers_at (suc n) zero = refl
no_readers_at (suc n) (suc x) = no_readers_at n x

pub readers_none : (n : ℕ) (walk : List (LogicCell ℕ)) (readers : List (List ℕ)) → readers ≡ replicate n [] → AreReaders n 0 walk readers
readers_none n walk readers is = record {
  long = ap length is ∙ length-replicate n [];
  whole = λ p x cell below. absurd (omega arith);
  within = λ x p among. absurd (both_ways false refl (sym (ap (λ l. is_in l p) (ap (λ rs. readers_at rs x) is ∙ no_readers_at n x)) ∙ among));
}

pub readers_more : (n i : ℕ) (cell : LogicCell ℕ) (walk : List (LogicCell ℕ)) (old new : List (List ℕ)) → slice_get walk i ≡ Some cell → IsAdded cell.inputs i old new → AreReaders n i walk old → AreReaders n (i + 1) walk new
readers_more n i cell walk old new here added are = record {
  long = added.long ∙ are.long;
  whole = λ p x other below at input. elim (same_or_not p i) [
    | inl e ↦
        let same : other ≡ cell = same_Some other cell (sym at ∙ (ap (slice_get walk) e ∙ here)) in
        ap (is_in (readers_at new x)) e ∙ added.put x (ap (λ (c : LogicCell ℕ). is_in c.inputs x) (sym same) ∙ input)
    | inr e ↦ added.kept x p (are.whole p x other (omega (arith, e)) at input)
  ];
  within = λ x p among. elim (added.only x p among) [
    | inl was ↦ let below = are.within x p was in omega (arith, below)
    | inr e ↦ omega (arith, e)
  ];
}
