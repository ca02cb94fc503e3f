-- The names of nets that are added one after another, each net once.
use Rattle.std.proofs.Common.{map, [], ℕ, ◌+◌, ◌<◌, ◌≡◌, ◌≢◌, inl, inr, false, List, ◌∷◌, Some, length, take, unwrap_or}
use Rattle.std.proofs.Common.{sym, ap, ◌∙◌, arith, nat_eq}
use Rattle.std.specs.List.{slice_get, All, AllPairs, IsDistinct}
use Rattle.std.proofs.lemmas.Bool.{cases_Bool}
use Rattle.std.proofs.lemmas.List.{map-append}
use Rattle.std.proofs.lemmas.Option.{slice_get-map}
use Rattle.cg_net.specs.Names.{is_known, net_name, with_name}
use Rattle.cg_net.proofs.DifferentNames.{known_at, same_net}
use Rattle.cg_net.proofs.Members.{one_place}
use Rattle.cg_net.proofs.NameLemmas.{with_name-unknown}
use Rattle.cg_net.proofs.TableLemmas.{All-at, among_first, mapped_at, take_next}

-- the name of a net is none of those of the nets before it
fresh_name : (names : List (List ℕ)) (order : List ℕ) (i net : ℕ) → AllPairs (λ name other. name ≢ other) names → All (λ x. x < length names) order → IsDistinct nat_eq order → slice_get order i ≡ Some net
    → is_known (map (net_name names) (take i order)) (net_name names net) ≡ false
fresh_name names order i net different within once at = elim (cases_Bool (is_known (map (net_name names) (take i order)) (net_name names net))) [
  | inl known ↦
      let found = known_at (map (net_name names) (take i order)) (net_name names net) known in
      let m = mapped_at (net_name names) (slice_get (take i order) found.0) (net_name names net) (sym (slice_get-map (net_name names) (take i order) found.0) ∙ found.1) in
      let there = among_first order i found.0 m.0 m.1 in
      let same : m.0 ≡ net = same_net names m.0 net different (All-at order (length names) found.0 m.0 there.1 within) (All-at order (length names) i net at within) m.2 in
      let place : found.0 ≡ i = one_place order found.0 i net once (there.1 ∙ ap (λ x. Some x) same) at in
      absurd (let none : ⊥ = omega (arith, there.0, place) in none)
  | inr unknown ↦ unknown
]

-- so it goes behind them
pub named_more : (names : List (List ℕ)) (order : List ℕ) (i net : ℕ) (name : List ℕ) (ordered next : List (List ℕ)) → AllPairs (λ n other. n ≢ other) names → All (λ x. x < length names) order → IsDistinct nat_eq order → slice_get order i ≡ Some net
    → slice_get names net ≡ Some name → ordered ≡ map (net_name names) (take i order) → next ≡ with_name ordered name → next ≡ map (net_name names) (take (i + 1) order)
named_more names order i net name ordered next different within once at named ordered_are next_is =
    let name_is : name ≡ net_name names net = sym (ap (λ o. unwrap_or o []) named) in
    next_is ∙ (ap (λ ns. with_name ns name) ordered_are ∙ (ap (with_name (map (net_name names) (take i order))) name_is
    ∙ (with_name-unknown (map (net_name names) (take i order)) (net_name names net) (fresh_name names order i net different within once at)
    ∙ (sym (map-append (net_name names) (take i order) (net ∷ [])) ∙ ap (map (net_name names)) (sym (take_next order i net at))))))
