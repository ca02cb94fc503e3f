-- Parts without a fault: each gating cell is fewer steps from the clock than those behind it.
use Rattle.std.specs.Prelude.{[], ◌≡◌, ◌⊎◌, ℕ, zero, suc, ◌<◌, ◌≤◌, true, List, ◌∷◌, map, length, slice_get, slice_index, Some}
use Rattle.std.proofs.Common.{refl, ap, ◌∙◌, sym, subst, inl, inr, arith}
use Rattle.std.specs.List.{AllByRecursion}
use Rattle.std.specs.Option.{option_map}
use Rattle.std.specs.Str.{bytes_eq}
use Rattle.std.proofs.lemmas.Option.{slice_get-map}
use Rattle.cg_netlist_parts.proofs.ChainsEnd.{step_at}
use Rattle.cg_netlist_parts.proofs.GaterOutputs.{gate_at, not_root, one_gater}
use Rattle.cg_netlist_parts.proofs.KnownNames.{known_each, known_head, known_tail, word_at}
use Rattle.cg_netlist_parts.proofs.Least.{least, least_first, least_passes}
use Rattle.cg_netlist_parts.proofs.Mentioned.{gater_net_mentioned}
use Rattle.cg_netlist_parts.proofs.OrderedParts.{root_clock}
use Rattle.cg_netlist.specs.Circuit.{GatingCell}
use Rattle.cg_net.specs.Names.{NetName, is_known, name_place}
use Rattle.cg_netlist_parts.specs.Faults.{IsClockProper, IsFaultless, IsGaterProper, reaches}
use Rattle.cg_netlist_parts.specs.Part.{Part, clock_of, gaters, nets, roots, wired}
use Rattle.cg_netlist.specs.Wiring.{Wiring, driven_by_gaters, map_gater, order_of}
use Rattle.cg_net.proofs.TableLemmas.{mapped_at}

module _ (parts : List Part) (fine : IsFaultless parts) where
  abbrev w : Wiring NetName
  w = wired parts

  abbrev order : List NetName
  order = order_of bytes_eq w

  abbrev place : NetName → ℕ
  place = name_place order

  abbrev Reached : GatingCell NetName → Type 0
  Reached g = (n : ℕ) × (reaches parts n g.output ≡ true)

  pub steps : (g : GatingCell NetName) → Reached g → ℕ
  steps g is = least (λ n. reaches parts n g.output) is.0

  pub chains_of : (gs : List (GatingCell NetName)) → AllByRecursion Reached gs → List ℕ
  chains_of [] all = []
  chains_of (g ∷ gs) all = steps g all.0 ∷ chains_of gs all.1

  pub chains_long : (gs : List (GatingCell NetName)) (all : AllByRecursion Reached gs) → length (chains_of gs all) ≡ length gs
  unfolding chains_of
  chains_long [] all = refl
  chains_long (g ∷ gs) all = ap suc (chains_long gs all.1)

  pub chain_at : (gs : List (GatingCell NetName)) (all : AllByRecursion Reached gs) (k : ℕ) (g : GatingCell NetName) → slice_get gs k ≡ Some g → (is : Reached g) × (slice_index (chains_of gs all) k ≡ steps g is)
  unfolding chains_of
  chain_at [] all k g at = absurd (cc)
  chain_at (x ∷ gs) all zero g at = let same : x ≡ g = cc in subst (λ (h : GatingCell NetName). (is : Reached h) × (steps x all.0 ≡ steps h is)) same (all.0, refl)
  chain_at (x ∷ gs) all (suc k) g at = chain_at gs all.1 k g at

  pub gaters_reach : (gs : List (GatingCell NetName)) → ((x : NetName) → is_known (driven_by_gaters gs) x ≡ true → IsGaterProper parts x) → AllByRecursion Reached gs
  gaters_reach [] is = tt
  gaters_reach (g ∷ gs) is = ((let p = is g.output (known_head g.output (driven_by_gaters gs)) in (p.steps, p.reached)), gaters_reach gs (λ x i. is x (known_tail g.output x (driven_by_gaters gs) i)))

  pub gate_is : (x : NetName) → is_known (driven_by_gaters (gaters parts)) x ≡ true → IsGaterProper parts x
  gate_is x gate = (known_each (IsClockProper parts) (nets parts) x fine.proper (gater_net_mentioned parts x gate)).as_gater gate

  pub all_reach : AllByRecursion Reached (gaters parts)
  all_reach = gaters_reach (gaters parts) gate_is

  -- the clock pin of a gating cell with these many steps to a root
  abbrev Chained : ℕ → GatingCell NetName → Type 0
  Chained n g = (clock_of parts ≡ Some g.clock) ⊎ ((j : ℕ) × (h : GatingCell NetName) × (slice_get (gaters parts) j ≡ Some h) × (h.output ≡ g.clock) × (slice_index (chains_of (gaters parts) all_reach) j < n))

  pub chain_of : (n k : ℕ) (g : GatingCell NetName) → slice_get (gaters parts) k ≡ Some g → reaches parts n g.output ≡ true → Chained n g
  unfolding steps
  chain_of zero k g at is = absurd ((not_root parts fine.once) g.output (word_at (driven_by_gaters (gaters parts)) k g.output ((gate_at parts fine.once) (gaters parts) k g at)) is)
  chain_of (suc zero) k g at is =
      let s = (step_at parts) 0 g.output is in
      inl ((root_clock parts fine) g.clock (ap (λ (h : GatingCell NetName). is_known (roots parts) h.clock) ((one_gater parts fine.once) k s.0 g s.1 at s.2 s.3) ∙ s.4))
  chain_of (suc (suc m)) k g at is =
      let s = (step_at parts) (suc m) g.output is in
      let up : reaches parts (suc m) g.clock ≡ true = ap (λ (h : GatingCell NetName). reaches parts (suc m) h.clock) ((one_gater parts fine.once) k s.0 g s.1 at s.2 s.3) ∙ s.4 in
      let h = (step_at parts) m g.clock up in
      let c = chain_at (gaters parts) all_reach h.0 h.1 h.2 in
      let low : steps h.1 c.0 ≤ suc m = least_first (λ n. reaches parts n h.1.output) c.0.0 (suc m) (ap (reaches parts (suc m)) (sym h.3) ∙ up) in
      inr (h.0, h.1, h.2, sym h.3, omega (arith, low, c.1))

  abbrev numbers : List ℕ
  numbers = chains_of (gaters parts) all_reach

  pub chained : (k : ℕ) (gater : GatingCell ℕ) → slice_get (map (map_gater place) (gaters parts)) k ≡ Some gater
      → (option_map place (clock_of parts) ≡ Some gater.clock) ⊎ ((j : ℕ) × (h : GatingCell ℕ) × (slice_get (map (map_gater place) (gaters parts)) j ≡ Some h) × (h.output ≡ gater.clock) × (slice_index numbers j < slice_index numbers k))
  unfolding steps
  chained k gater at =
      let g = mapped_at (map_gater place) (slice_get (gaters parts) k) gater (sym (slice_get-map (map_gater place) (gaters parts) k) ∙ at) in
      let c = chain_at (gaters parts) all_reach k g.0 g.1 in
      elim (chain_of (steps g.0 c.0) k g.0 g.1 (least_passes (λ n. reaches parts n g.0.output) c.0.0 c.0.1)) [
        | inl clock ↦ inl (ap (option_map place) clock ∙ ap (λ (h : GatingCell ℕ). Some h.clock) g.2)
        | inr low ↦ inr (low.0, map_gater place low.1, slice_get-map (map_gater place) (gaters parts) low.0 ∙ ap (option_map (map_gater place)) low.2, ap place low.3 ∙ ap (λ (h : GatingCell ℕ). h.clock) g.2, omega (arith, low.4, c.1))
      ]
