-- Names that stand in an order, found through the table in which they came.
use Rattle.std.proofs.Common.{◌≡◌, ℕ, zero, suc, ◌+◌, ◌<◌, true, false, List, [], ◌∷◌, map, length, take, set, nat_eq, ◌++◌}
use Rattle.std.proofs.Common.{slice_get, get_or, unwrap_or, Some, option_map, refl, sym, ◌∙◌, ap, subst, arith, inl, inr}
use Rattle.std.specs.List.{All}
use Rattle.std.proofs.lemmas.Bool.{both_ways, cases_Bool, eqb-true, or_left, or_right, or_cases}
use Rattle.std.proofs.lemmas.Bool.Decides.{eqb_tells}
use Rattle.std.proofs.lemmas.Option.{none-some, same_Some, slice_get-get_or, slice_get-map, slice_get_within}
use Rattle.std.proofs.lemmas.Slice.Eq.{bytes_eq-Decides}
use lib.Pointwise.{pointwise}
use Rattle.cg_net.specs.Names.{is_known, net_name}
use Rattle.cg_net.specs.NetSets.{is_in}
use Rattle.cg_net.specs.inner.NamePlaces.{ArePlaced, IsPlaced, net_place}
use Rattle.cg_net.proofs.DifferentNames.{known_at, same_net}
use Rattle.cg_net.proofs.Members.{All-from_members, All-member, is_in_cases, member_at}
use Rattle.cg_net.proofs.TableLemmas.{All-at, mapped_at, slice_get-set_other, slice_get-set_same, take_next}

-- a place is kept for one net more of an order
pub placed_more : (order places : List ℕ) (i net : ℕ) → All (IsPlaced order places) (take i order) → slice_get order i ≡ Some net → net < length places → All (IsPlaced order (set places net i)) (take (i + 1) order)
placed_more order places i net placed at within = All-from_members (IsPlaced order (set places net i)) (take (i + 1) order) (λ x among. each x (subst (λ xs. is_in xs x ≡ true) (take_next order i net at) among))
  where
    here : IsPlaced order (set places net i) net
    here = ap (λ o. slice_get order (unwrap_or o 0)) (slice_get-set_same places net i within) ∙ at

    each : (x : ℕ) → is_in (take i order ++ net ∷ []) x ≡ true → IsPlaced order (set places net i) x
    each x among = elim (eqb_tells x net) [
      | inl e ↦ subst (IsPlaced order (set places net i)) (sym e.1) here
      | inr e ↦ elim (is_in_cases (take i order) (net ∷ []) x among) [
        | inl before ↦ ap (λ o. slice_get order (unwrap_or o 0)) (slice_get-set_other places net x i e.1) ∙ All-member (IsPlaced order places) (take i order) x placed before
        | inr last ↦ elim (or_cases (nat_eq x net) false last) [ inl same ↦ absurd (e.1 (eqb-true x net same)) | inr none ↦ absurd (both_ways false refl none) ]
      ]
    ]

-- what is read of a table of places
pub kept_place : (places : List ℕ) (net place : ℕ) → net < length places → place ≡ get_or places net place → place ≡ net_place places net
kept_place places net place within is = is ∙ sym (ap (λ o. unwrap_or o 0) (slice_get-get_or places net place within))

-- a name of the table is known
pub known_there : (names : List (List ℕ)) (k : ℕ) (name : List ℕ) → slice_get names k ≡ Some name → is_known names name ≡ true
known_there [] k name at = absurd (none-some name at)
known_there (n ∷ names) zero name at = or_left (pointwise nat_eq name n) (is_known names name) ((bytes_eq-Decides name n).1 (sym (same_Some n name at)))
known_there (n ∷ names) (suc k) name at = or_right (pointwise nat_eq name n) (is_known names name) (known_there names k name at)

module _ (names : List (List ℕ)) (order places : List ℕ) (kept : ArePlaced names order places) where
  -- the name at a place
  pub named_at : (place net : ℕ) (name : List ℕ) → slice_get order place ≡ Some net → slice_get names net ≡ Some name → slice_get (map (net_name names) order) place ≡ Some name
  named_at place net name at named = slice_get-map (net_name names) order place ∙ (ap (option_map (net_name names)) at ∙ ap (λ o. Some (unwrap_or o [])) named)

  net_named : (net : ℕ) → net < length names → (name : List ℕ) × (slice_get names net ≡ Some name)
  net_named net below = go names net below
    where
      go : (ns : List (List ℕ)) (k : ℕ) → k < length ns → (name : List ℕ) × (slice_get ns k ≡ Some name)
      go [] k low = absurd (omega arith)
      go (n ∷ ns) zero low = (n, refl)
      go (n ∷ ns) (suc k) low = go ns k (omega arith)

  -- one of these names is that of a net of the order
  named_net : (name : List ℕ) → is_known (map (net_name names) order) name ≡ true → (net : ℕ) × (is_in order net ≡ true) × (net < length names) × (net_name names net ≡ name)
  named_net name known =
      let found = known_at (map (net_name names) order) name known in
      let net = mapped_at (net_name names) (slice_get order found.0) name (sym (slice_get-map (net_name names) order found.0) ∙ found.1) in
      (net.0, member_at order found.0 net.0 net.1, All-at order (length names) found.0 net.0 net.1 kept.within, net.2)

  -- a name that is not in the table is none of these
  pub not_named : (name : List ℕ) → is_known names name ≡ false → is_known (map (net_name names) order) name ≡ false
  not_named name unknown = elim (cases_Bool (is_known (map (net_name names) order) name)) [
    | inr none ↦ none
    | inl known ↦
        let net = named_net name known in
        let some = net_named net.0 net.2 in
        let is : some.0 ≡ name = sym (ap (λ o. unwrap_or o []) some.1) ∙ net.3 in
        absurd (both_ways (is_known names name) unknown (known_there names net.0 name (some.1 ∙ ap Some is)))
  ]

  -- nor is one whose net does not stand at its place
  pub not_placed : (number : ℕ) (name : List ℕ) → slice_get names number ≡ Some name → (IsPlaced order places number → ⊥) → is_known (map (net_name names) order) name ≡ false
  not_placed number name at elsewhere = elim (cases_Bool (is_known (map (net_name names) order) name)) [
    | inr none ↦ none
    | inl known ↦
        let net = named_net name known in
        let same : net.0 ≡ number = same_net names net.0 number kept.different net.2 (slice_get_within names number name at) (net.3 ∙ sym (ap (λ o. unwrap_or o []) at)) in
        absurd (elsewhere (All-member (IsPlaced order places) order number kept.placed (subst (λ x. is_in order x ≡ true) same net.1)))
  ]
