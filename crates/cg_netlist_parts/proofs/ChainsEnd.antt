-- Chains of clock pins reach where the clock may come from, if at all, within as many steps as there are gating cells.
use Rattle.std.specs.Prelude.{◌≡◌, ℕ, zero, suc, ◌<◌, ◌≤◌, Bool, true, false, ◌||◌, ◌&&◌, List, [], ◌∷◌, length, slice_get, Some}
use Rattle.std.proofs.Common.{refl, ap, ◌∙◌, sym, inl, inr, arith}
use Rattle.std.specs.List.{AllByRecursion, list_any}
use Rattle.std.specs.Str.{bytes_eq}
use Rattle.std.proofs.lemmas.Bool.{and_from, and_parts, both_ways, cases_lt, false_from_ne_true, or_cases, or_left, or_right}
use Rattle.std.proofs.lemmas.List.{length-map}
use Rattle.cg_netlist_parts.proofs.Different.{Apart, no_more}
use Rattle.cg_netlist.proofs.Each.{each}
use Rattle.cg_netlist_parts.proofs.KnownNames.{itself, known_each, known_head, known_tail, same_word}
use Rattle.cg_netlist_parts.proofs.Least.{least, least_first, least_passes}
use Rattle.cg_netlist.specs.Circuit.{GatingCell}
use Rattle.cg_net.specs.Names.{NetName, is_known}
use Rattle.cg_netlist_parts.specs.Faults.{reaches}
use Rattle.cg_netlist_parts.specs.Part.{Part, gaters, is_gater_output}
use Rattle.cg_netlist.specs.Wiring.{driven_by_gaters}

-- what passes a test among elements
pub any_at : {X : Type 0} (p : X → Bool) (xs : List X) → list_any p xs ≡ true → (k : ℕ) × (x : X) × (slice_get xs k ≡ Some x) × (p x ≡ true)
any_at p [] any = absurd (both_ways false refl any)
any_at p (x ∷ xs) any = elim (or_cases (p x) (list_any p xs) any) [
  | inl here ↦ (0, x, refl, here)
  | inr later ↦ let more = any_at p xs later in (suc more.0, more.1, more.2, more.3)
]

pub at_any : {X : Type 0} (p : X → Bool) (xs : List X) (k : ℕ) (x : X) → slice_get xs k ≡ Some x → p x ≡ true → list_any p xs ≡ true
at_any p [] k x at is = absurd (cc)
at_any p (y ∷ ys) zero x at is = let same : y ≡ x = cc in or_left (p y) (list_any p ys) (ap p same ∙ is)
at_any p (y ∷ ys) (suc k) x at is = or_right (p y) (list_any p ys) (at_any p ys k x at is)

module _ (parts : List Part) where
  -- a step of a chain goes through a gating cell, and each gating cell is such a step
  pub step_at : (m : ℕ) (x : NetName) → reaches parts (suc m) x ≡ true → (k : ℕ) × (g : GatingCell NetName) × (slice_get (gaters parts) k ≡ Some g) × (x ≡ g.output) × (reaches parts m g.clock ≡ true)
  step_at m x is =
      let found = any_at (λ (g : GatingCell NetName). bytes_eq x g.output && reaches parts m g.clock) (gaters parts) is in
      let both = and_parts (bytes_eq x found.1.output) (reaches parts m found.1.clock) found.3 in
      (found.0, found.1, found.2, same_word x found.1.output both.0, both.1)

  pub at_step : (m k : ℕ) (x : NetName) (g : GatingCell NetName) → slice_get (gaters parts) k ≡ Some g → x ≡ g.output → reaches parts m g.clock ≡ true → reaches parts (suc m) x ≡ true
  at_step m k x g at same up =
      at_any (λ (h : GatingCell NetName). bytes_eq x h.output && reaches parts m h.clock) (gaters parts) k g at
      (and_from (bytes_eq x g.output) (reaches parts m g.clock) (ap (bytes_eq x) (sym same) ∙ itself x) up)

  gate_there : (gs : List (GatingCell NetName)) (k : ℕ) (g : GatingCell NetName) → slice_get gs k ≡ Some g → is_known (driven_by_gaters gs) g.output ≡ true
  gate_there [] k g at = absurd (cc)
  gate_there (h ∷ gs) zero g at = let same : h ≡ g = cc in ap (λ (i : GatingCell NetName). is_known (i.output ∷ driven_by_gaters gs) g.output) same ∙ known_head g.output (driven_by_gaters gs)
  gate_there (h ∷ gs) (suc k) g at = known_tail h.output g.output (driven_by_gaters gs) (gate_there gs k g at)

  -- as many different outputs of gating cells, each of which reaches within as many steps
  record Chain (n : ℕ) : Type 0 where
    nets : List NetName
    long : length nets ≡ n
    apart : Apart nets
    gates : AllByRecursion (λ y. is_gater_output parts y ≡ true) nets
    reached : AllByRecursion (λ y. (j : ℕ) × (j ≤ n) × (reaches parts j y ≡ true)) nets

  -- a net that reaches in n steps and no fewer has such a chain
  chain : (n : ℕ) (x : NetName) → reaches parts n x ≡ true → ((k : ℕ) → k < n → reaches parts k x ≡ false) → Chain n
  chain zero x is none = record { nets = []; long = refl; apart = tt; gates = tt; reached = tt }
  chain (suc n) x is none =
      let s = step_at n x is in
      let up = chain n s.1.clock s.4 (λ k lt. false_from_ne_true (reaches parts k s.1.clock) (λ before. both_ways (reaches parts (suc k) x) (none (suc k) (omega (arith, lt))) (at_step k s.0 x s.1 s.2 s.3 before))) in
      record {
        nets = x ∷ up.nets;
        long = ap suc up.long;
        apart = (
          false_from_ne_true (is_known up.nets x) (λ again.
              let early = known_each (λ y. (j : ℕ) × (j ≤ n) × (reaches parts j y ≡ true)) up.nets x up.reached again in
              both_ways (reaches parts early.0 x) (none early.0 (omega (arith, early.1))) early.2),
          up.apart,
        );
        gates = (ap (is_gater_output parts) s.3 ∙ gate_there (gaters parts) s.0 s.1 s.2, up.gates);
        reached = ((suc n, omega arith, is), each (λ y. (j : ℕ) × (j ≤ n) × (reaches parts j y ≡ true)) (λ y. (j : ℕ) × (j ≤ suc n) × (reaches parts j y ≡ true)) (λ y r. (r.0, omega (arith, r.1), r.2)) up.nets up.reached);
      }

  chain_short : (n : ℕ) → Chain n → n ≤ length (gaters parts)
  chain_short n way =
      let short : length way.nets ≤ length (driven_by_gaters (gaters parts)) = no_more way.nets (driven_by_gaters (gaters parts)) way.apart (λ y i. known_each (λ z. is_gater_output parts z ≡ true) way.nets y way.gates i) in
      omega (arith, short, way.long, length-map (gaters parts) (λ (g : GatingCell NetName). g.output))

  -- whether a chain reaches within n steps
  pub reaches_within : ℕ → NetName → Bool
  reaches_within zero x = reaches parts zero x
  reaches_within (suc n) x = reaches_within n x || reaches parts (suc n) x

  within_reaches : (n : ℕ) (x : NetName) → reaches_within n x ≡ true → (k : ℕ) × (reaches parts k x ≡ true)
  unfolding reaches_within
  within_reaches zero x is = (zero, is)
  within_reaches (suc n) x is = elim (or_cases (reaches_within n x) (reaches parts (suc n) x) is) [
    | inl before ↦ within_reaches n x before
    | inr here ↦ (suc n, here)
  ]

  reaches_before : (n k : ℕ) (x : NetName) → k ≤ n → reaches parts k x ≡ true → reaches_within n x ≡ true
  unfolding reaches_within
  reaches_before zero zero x le is = is
  reaches_before zero (suc k) x le is = absurd (omega (arith, le))
  reaches_before (suc n) k x le is = elim (cases_lt n k) [
    | inl lt ↦ let same : k ≡ suc n = omega (arith, lt, le) in or_right (reaches_within n x) (reaches parts (suc n) x) (ap (λ m. reaches parts m x) (sym same) ∙ is)
    | inr more ↦ or_left (reaches_within n x) (reaches parts (suc n) x) (reaches_before n k x more is)
  ]

  -- a chain that reaches does so in no more steps than there are gating cells
  pub short_chain : (n : ℕ) (x : NetName) → reaches parts n x ≡ true → (m : ℕ) × (m ≤ length (gaters parts)) × (reaches parts m x ≡ true)
  short_chain n x is =
      let least_is : reaches parts (least (λ k. reaches parts k x) n) x ≡ true = least_passes (λ k. reaches parts k x) n is in
      let short : least (λ k. reaches parts k x) n ≤ length (gaters parts) = chain_short (least (λ k. reaches parts k x) n) (chain (least (λ k. reaches parts k x) n) x least_is
      (λ k lt. false_from_ne_true (reaches parts k x) (λ early. let le : least (λ j. reaches parts j x) n ≤ k = least_first (λ j. reaches parts j x) n k early in let none : ⊥ = omega (arith, le, lt) in none))) in
      (least (λ k. reaches parts k x) n, short, least_is)

  pub chains_bounded : (n : ℕ) (x : NetName) → reaches parts n x ≡ true → reaches_within (length (gaters parts)) x ≡ true
  chains_bounded n x is = let b = short_chain n x is in reaches_before (length (gaters parts)) b.0 x b.1 b.2

  pub bounded_chains : (x : NetName) → reaches_within (length (gaters parts)) x ≡ true → (n : ℕ) × (reaches parts n x ≡ true)
  bounded_chains x is = within_reaches (length (gaters parts)) x is
