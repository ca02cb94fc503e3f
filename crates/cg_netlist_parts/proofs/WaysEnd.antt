-- The ways up from a net end, if they end at all, within as many logic cells as there are.
use Rattle.std.specs.Prelude.{◌≡◌, ℕ, zero, suc, ◌+◌, ◌-◌, ◌≤◌, Bool, true, false, not, ◌&&◌, ◌||◌, List, [], ◌∷◌, length}
use Rattle.std.proofs.Common.{refl, ap, ◌∙◌, sym, inl, inr, arith}
use Rattle.std.specs.List.{AllByRecursion, list_all}
use Rattle.std.specs.Str.{bytes_eq}
use Rattle.std.proofs.lemmas.Bool.{and_from, and_parts, both_ways, cases_Bool, false_from_ne_true, not-true, or_left, or_parts}
use Rattle.std.proofs.lemmas.List.{length-map}
use Rattle.cg_netlist_parts.proofs.Different.{Apart, no_more}
use Rattle.cg_netlist_parts.proofs.KnownNames.{known_each}
use Rattle.cg_netlist.specs.Circuit.{LogicCell}
use Rattle.cg_net.specs.Names.{NetName, is_known}
use Rattle.cg_netlist_parts.specs.Faults.{ends_within}
use Rattle.cg_netlist_parts.specs.Part.{cells}
use Rattle.cg_netlist.specs.Wiring.{driven_by_cells}
use Rattle.std.proofs.lemmas.Bool.{not-false}

-- of tests that do not all pass, one fails
one_fails : {X : Type 0} (p : X → Bool) (xs : List X) → list_all p xs ≡ false → (x : X) × ((q : X → Bool) → list_all q xs ≡ true → q x ≡ true) × (p x ≡ false)
one_fails p [] none = absurd (both_ways true none refl)
one_fails {X} p (x ∷ xs) none = go (p x) refl none (one_fails p xs)
  where
    go : (b : Bool) → p x ≡ b → (b && list_all p xs) ≡ false → (list_all p xs ≡ false → (y : X) × ((q : X → Bool) → list_all q xs ≡ true → q y ≡ true) × (p y ≡ false)) → (y : X) × ((q : X → Bool) → list_all q (x ∷ xs) ≡ true → q y ≡ true) × (p y ≡ false)
    go true e none' later = let more = later none' in (more.0, λ q all. more.1 q (and_parts (q x) (list_all q xs) all).1, more.2)
    go false e none' later = (x, λ q all. (and_parts (q x) (list_all q xs) all).0, e)

all_more : {X : Type 0} (p q : X → Bool) → ((x : X) → p x ≡ true → q x ≡ true) → (xs : List X) → list_all p xs ≡ true → list_all q xs ≡ true
all_more p q more [] all = refl
all_more p q more (x ∷ xs) all = let parts = and_parts (p x) (list_all p xs) all in and_from (q x) (list_all q xs) (more x parts.0) (all_more p q more xs parts.1)

or_more : (a b c : Bool) → (b ≡ true → c ≡ true) → (a || b) ≡ true → (a || c) ≡ true
or_more true b c more is = refl
or_more false b c more is = more is

pub unknown_all : (q : LogicCell NetName → Bool) (ks : List (LogicCell NetName)) (x : NetName) → is_known (driven_by_cells ks) x ≡ false → list_all (λ (k : LogicCell NetName). not (bytes_eq x k.output) || q k) ks ≡ true
unknown_all q [] x none = refl
unknown_all q (k ∷ ks) x none =
    let parts = or_parts (bytes_eq x k.output) (is_known (driven_by_cells ks) x) none in
    and_from (not (bytes_eq x k.output) || q k) (list_all (λ (m : LogicCell NetName). not (bytes_eq x m.output) || q m) ks) (or_left (not (bytes_eq x k.output)) (q k) (ap not parts.0)) (unknown_all q ks x parts.1)

-- the ways up from a net that no logic cell drives end at once
pub undriven_ends : (cells : List (LogicCell NetName)) (n : ℕ) (x : NetName) → is_known (driven_by_cells cells) x ≡ false → ends_within cells n x ≡ true
undriven_ends cells zero x none = ap not none
undriven_ends cells (suc n) x none = unknown_all (λ k. list_all (ends_within cells n) k.inputs) cells x none

module _ (cells : List (LogicCell NetName)) where
  -- ways that end within some cells end within more
  ends_more : (n : ℕ) (x : NetName) → ends_within cells n x ≡ true → ends_within cells (suc n) x ≡ true
  ends_more zero x ends = unknown_all (λ k. list_all (ends_within cells 0) k.inputs) cells x (not-true (is_known (driven_by_cells cells) x) ends)
  ends_more (suc n) x ends =
      all_more (λ (k : LogicCell NetName). not (bytes_eq x k.output) || list_all (ends_within cells n) k.inputs) (λ (k : LogicCell NetName). not (bytes_eq x k.output) || list_all (ends_within cells (suc n)) k.inputs)
      (λ k is. or_more (not (bytes_eq x k.output)) (list_all (ends_within cells n) k.inputs) (list_all (ends_within cells (suc n)) k.inputs) (all_more (ends_within cells n) (ends_within cells (suc n)) (λ y y_ends. ends_more n y y_ends) k.inputs) is) cells ends

  ends_on : (d n : ℕ) (x : NetName) → ends_within cells n x ≡ true → ends_within cells (n + d) x ≡ true
  ends_on zero n x ends = let e : n + 0 ≡ n = omega arith in ap (λ m. ends_within cells m x) e ∙ ends
  ends_on (suc d) n x ends = let e : n + suc d ≡ suc (n + d) = omega arith in ap (λ m. ends_within cells m x) e ∙ ends_more (n + d) x (ends_on d n x ends)

  -- as many different outputs of cells, all of whose ways end within n
  record Way (n : ℕ) : Type 0 where
    nets : List NetName
    long : length nets ≡ n
    apart : Apart nets
    outputs : AllByRecursion (λ y. is_known (driven_by_cells cells) y ≡ true) nets
    end : AllByRecursion (λ y. ends_within cells n y ≡ true) nets

  all_on : (n : ℕ) (xs : List NetName) → AllByRecursion (λ y. ends_within cells n y ≡ true) xs → AllByRecursion (λ y. ends_within cells (suc n) y ≡ true) xs
  all_on n [] all = tt
  all_on n (x ∷ xs) all = (ends_more n x all.0, all_on n xs all.1)

  longer : (n : ℕ) (x : NetName) → ends_within cells (suc n) x ≡ true → ends_within cells n x ≡ false → is_known (driven_by_cells cells) x ≡ true → Way n → Way (suc n)
  longer n x ends not_yet output way = record {
    nets = x ∷ way.nets;
    long = ap suc way.long;
    apart = (false_from_ne_true (is_known way.nets x) (λ again. both_ways (ends_within cells n x) not_yet (known_each (λ y. ends_within cells n y ≡ true) way.nets x way.end again)), way.apart);
    outputs = (output, way.outputs);
    end = (ends, all_on n way.nets way.end);
  }

  output_of : (ks : List (LogicCell NetName)) (k : LogicCell NetName) (x : NetName) → ((q : LogicCell NetName → Bool) → list_all q ks ≡ true → q k ≡ true) → bytes_eq x k.output ≡ true → is_known (driven_by_cells ks) x ≡ true
  output_of ks k x holds same = elim (cases_Bool (is_known (driven_by_cells ks) x)) [
    | inl there ↦ there
    | inr none ↦ absurd (both_ways (not (bytes_eq x k.output) || false) (ap (λ b. not b || false) same) (holds (λ (m : LogicCell NetName). not (bytes_eq x m.output) || false) (unknown_all (λ m. false) ks x none)))
  ]

  way_up : (n : ℕ) (x : NetName) → ends_within cells (suc n) x ≡ true → ends_within cells n x ≡ false → Way (suc n)
  way_up zero x ends not_yet = longer 0 x ends not_yet (not-false (is_known (driven_by_cells cells) x) not_yet) (record { nets = []; long = refl; apart = tt; outputs = tt; end = tt })
  way_up (suc n) x ends not_yet =
      let k = one_fails (λ (m : LogicCell NetName). not (bytes_eq x m.output) || list_all (ends_within cells n) m.inputs) cells not_yet in
      let parts = or_parts (not (bytes_eq x k.0.output)) (list_all (ends_within cells n) k.0.inputs) k.2 in
      let same : bytes_eq x k.0.output ≡ true = not-false (bytes_eq x k.0.output) parts.0 in
      let y = one_fails (ends_within cells n) k.0.inputs parts.1 in
      let here : (not (bytes_eq x k.0.output) || list_all (ends_within cells (suc n)) k.0.inputs) ≡ true = k.1 (λ (m : LogicCell NetName). not (bytes_eq x m.output) || list_all (ends_within cells (suc n)) m.inputs) ends in
      let up : list_all (ends_within cells (suc n)) k.0.inputs ≡ true = sym (ap (λ b. not b || list_all (ends_within cells (suc n)) k.0.inputs) same) ∙ here in
      longer (suc n) x ends not_yet (output_of cells k.0 x k.1 same) (way_up n y.0 (y.1 (ends_within cells (suc n)) up) y.2)

  way_short : (n : ℕ) → Way n → n ≤ length cells
  way_short n way =
      let short : length way.nets ≤ length (driven_by_cells cells) = no_more way.nets (driven_by_cells cells) way.apart (λ y i. known_each (λ z. is_known (driven_by_cells cells) z ≡ true) way.nets y way.outputs i) in
      omega (arith, short, way.long, length-map cells (λ (k : LogicCell NetName). k.output))

  -- the ways up end within the number of cells, if they end
  pub ends_bounded : (n : ℕ) (x : NetName) → ends_within cells n x ≡ true → ends_within cells (length cells) x ≡ true
  ends_bounded zero x ends = let e : 0 + length cells ≡ length cells = omega arith in ap (λ m. ends_within cells m x) (sym e) ∙ ends_on (length cells) 0 x ends
  ends_bounded (suc n) x ends = elim (cases_Bool (ends_within cells n x)) [
    | inl before ↦ ends_bounded n x before
    | inr not_yet ↦
        let short : suc n ≤ length cells = way_short (suc n) (way_up n x ends not_yet) in
        let e : suc n + (length cells - suc n) ≡ length cells = omega (arith, short) in
        ap (λ m. ends_within cells m x) (sym e) ∙ ends_on (length cells - suc n) (suc n) x ends
  ]
