-- The ranks of gating cells tell which chains of clock pins reach where the clock may come from.
use Rattle.std.specs.Prelude.{◌≡◌, ◌≢◌, ℕ, zero, suc, ◌+◌, ◌-◌, ◌<◌, ◌==◌, Bool, true, false, ◌||◌, List, [], ◌∷◌, map, length}
use Rattle.std.specs.Prelude.{slice_get, Option, None, Some, nat_eq, is_some}
use Rattle.std.proofs.Common.{refl, ap, ◌∙◌, sym, subst, inl, inr, arith, cond}
use Rattle.std.specs.List.{AllByRecursion, AllPairs, flat_map, position_from}
use Rattle.std.specs.Option.{option_map, option_map_or, option_to_list}
use Rattle.std.proofs.lemmas.Bool.{both_ways, eqb-true, eq-eqb, false_from_ne_true, or_left, or_right}
use Rattle.std.proofs.lemmas.List.{length-map}
use Rattle.std.proofs.lemmas.Option.{slice_get-map}
use Rattle.cg_netlist.proofs.RankLemmas.{ranked}
use Rattle.cg_netlist_parts.proofs.ChainsEnd.{at_step, short_chain, step_at}
use Rattle.cg_netlist_parts.proofs.GaterOutputs.{not_root, one_gater, pin_cases}
use Rattle.cg_netlist_parts.proofs.KnownNames.{known_head, known_left, known_tail}
use Rattle.cg_netlist_parts.proofs.OrderMapped.{gaters_driven_mapped}
use Rattle.cg_netlist_parts.proofs.ToldByNames.{known_as}
use Rattle.cg_netlist.specs.Circuit.{GatingCell, RegisterCell}
use Rattle.cg_net.specs.NetSets.{is_in}
use Rattle.cg_net.specs.Names.{NetName, is_known, net_name}
use Rattle.cg_netlist.specs.Ranks.{next_rank, rank_within}
use Rattle.cg_netlist_builder.specs.inner.Numbers.{GaterWithin, driving_gater, gate_above, gater_rank}
use Rattle.cg_netlist_parts.specs.Faults.{EachNet, IsDrivenOnce, reaches}
use Rattle.cg_netlist_parts.specs.Part.{Part, gaters, is_gater_output, registers, roots}
use Rattle.cg_netlist.specs.Wiring.{driven_by_gaters, map_gater}
use Rattle.cg_net.proofs.TableLemmas.{mapped_at}

-- the gating cell that drives a net, if one does
pub gated_none : (gs : List (GatingCell ℕ)) (a x : ℕ) → position_from (λ g. g.output == x) a gs ≡ None → is_in (driven_by_gaters gs) x ≡ false
gated_none [] a x none = refl
gated_none (g ∷ gs) a x none = go (g.output == x) refl none (λ rest. gated_none gs (a + 1) x rest)
  where
    go : (b : Bool) → (g.output == x) ≡ b → cond b (Some a) (position_from (λ h. h.output == x) (a + 1) gs) ≡ None → (position_from (λ h. h.output == x) (a + 1) gs ≡ None → is_in (driven_by_gaters gs) x ≡ false) → is_in (driven_by_gaters (g ∷ gs)) x ≡ false
    go true e none later = absurd (cc)
    go false e none later = ap (λ b. b || is_in (driven_by_gaters gs) x) (false_from_ne_true (nat_eq x g.output) (λ same. both_ways (g.output == x) e (eq-eqb g.output x (sym (eqb-true x g.output same))))) ∙ later none

pub gated_some : (gs : List (GatingCell ℕ)) (a x j : ℕ) → position_from (λ g. g.output == x) a gs ≡ Some j → (i : ℕ) × (g : GatingCell ℕ) × (j ≡ a + i) × (slice_get gs i ≡ Some g) × (g.output ≡ x)
gated_some [] a x j is = absurd (cc)
gated_some (g ∷ gs) a x j is = go (g.output == x) refl is (λ rest. gated_some gs (a + 1) x j rest)
  where
    go : (b : Bool) → (g.output == x) ≡ b → cond b (Some a) (position_from (λ h. h.output == x) (a + 1) gs) ≡ Some j
        → (position_from (λ h. h.output == x) (a + 1) gs ≡ Some j → (i : ℕ) × (h : GatingCell ℕ) × (j ≡ a + 1 + i) × (slice_get gs i ≡ Some h) × (h.output ≡ x))
        → (i : ℕ) × (h : GatingCell ℕ) × (j ≡ a + i) × (slice_get (g ∷ gs) i ≡ Some h) × (h.output ≡ x)
    go true e is later = let same : a ≡ j = cc in (0, g, omega (arith, same), refl, eqb-true g.output x e)
    go false e is later = let more = later is in (suc more.0, more.1, omega (arith, more.2), more.3, more.4)

-- the rank under one cell or none
under : (o : Option ℕ) (f : ℕ → Option ℕ) → is_some (next_rank (map f (option_to_list o))) ≡ option_map_or (λ j. is_some (f j)) o true
under None f = refl
under (Some j) f = go (f j)
  where
    go : (o : Option ℕ) → is_some (next_rank (o ∷ [])) ≡ is_some o
    go None = refl
    go (Some r) = refl

module _ (parts : List Part) (once : EachNet parts (IsDrivenOnce parts)) (names : List NetName) (different : AllPairs (λ name other. name ≢ other) names) (gs : List (GatingCell ℕ)) (within : AllByRecursion (GaterWithin (length names)) gs)
    (gaters_are : gaters parts ≡ map (map_gater (net_name names)) gs) where
  abbrev name : ℕ → NetName
  name = net_name names

  abbrev Is : ℕ → Type 0
  Is x = x < length names

  outputs_in : (ks : List (GatingCell ℕ)) → AllByRecursion (GaterWithin (length names)) ks → AllByRecursion Is (driven_by_gaters ks)
  outputs_in [] all = tt
  outputs_in (k ∷ ks) all = (all.0.output, outputs_in ks all.1)

  pub gated_as : (x : ℕ) → Is x → is_gater_output parts (name x) ≡ is_in (driven_by_gaters gs) x
  gated_as x lt = ap (λ ks. is_known (driven_by_gaters ks) (name x)) gaters_are ∙ (ap (λ xs. is_known xs (name x)) (gaters_driven_mapped name gs) ∙ known_as names different (driven_by_gaters gs) x (outputs_in gs within) lt)

  gater_in : (ks : List (GatingCell ℕ)) → AllByRecursion (GaterWithin (length names)) ks → (k : ℕ) (g : GatingCell ℕ) → slice_get ks k ≡ Some g → GaterWithin (length names) g
  gater_in [] all k g at = absurd (cc)
  gater_in (x ∷ ks) all zero g at = let same : x ≡ g = cc in subst (GaterWithin (length names)) same all.0
  gater_in (x ∷ ks) all (suc k) g at = gater_in ks all.1 k g at

  -- by name, and back
  named_at : (k : ℕ) (g : GatingCell ℕ) → slice_get gs k ≡ Some g → slice_get (gaters parts) k ≡ Some (map_gater name g)
  named_at k g at = ap (λ ks. slice_get ks k) gaters_are ∙ (slice_get-map (map_gater name) gs k ∙ ap (option_map (map_gater name)) at)

  number_at : (k : ℕ) (h : GatingCell NetName) → slice_get (gaters parts) k ≡ Some h → (g : GatingCell ℕ) × (slice_get gs k ≡ Some g) × (map_gater name g ≡ h)
  number_at k h at = mapped_at (map_gater name) (slice_get gs k) h (sym (slice_get-map (map_gater name) gs k) ∙ (ap (λ ks. slice_get ks k) (sym gaters_are) ∙ at))

  pin_there : (ks : List (GatingCell NetName)) (k : ℕ) (g : GatingCell NetName) → slice_get ks k ≡ Some g → is_known (map (λ (h : GatingCell NetName). h.clock) ks) g.clock ≡ true
  pin_there [] k g at = absurd (cc)
  pin_there (h ∷ ks) zero g at = let same : h ≡ g = cc in ap (λ (i : GatingCell NetName). is_known (i.clock ∷ map (λ (j : GatingCell NetName). j.clock) ks) g.clock) same ∙ known_head g.clock (map (λ (j : GatingCell NetName). j.clock) ks)
  pin_there (h ∷ ks) (suc k) g at = known_tail h.clock g.clock (map (λ (j : GatingCell NetName). j.clock) ks) (pin_there ks k g at)

  -- a clock pin that no gating cell drives is a root
  free_root : (k : ℕ) (g : GatingCell ℕ) → slice_get gs k ≡ Some g → is_in (driven_by_gaters gs) g.clock ≡ false → is_known (roots parts) (name g.clock) ≡ true
  free_root k g at free =
      elim (pin_cases parts (name g.clock) (known_left (map (λ (h : GatingCell NetName). h.clock) (gaters parts)) (flat_map (λ (r : RegisterCell NetName (Option NetName)). option_to_list r.clock) (registers parts)) (name g.clock) (pin_there (gaters parts) k (map_gater name g) (named_at k g at)))) [
        | inl root ↦ root
        | inr gate ↦ absurd (both_ways (is_in (driven_by_gaters gs) g.clock) free (sym (gated_as g.clock (gater_in gs within k g at).clock) ∙ gate))
      ]

  -- a gating cell with a rank reaches
  pub ranked_reaches : (m k : ℕ) (g : GatingCell ℕ) → slice_get gs k ≡ Some g → is_some (rank_within (gate_above gs) m k) ≡ true → (n : ℕ) × (reaches parts n (name g.output) ≡ true)
  ranked_reaches zero k g at ranked = absurd (both_ways false refl ranked)
  ranked_reaches (suc m) k g at ranked = go (driving_gater gs g.clock) refl (sym (under (driving_gater gs g.clock) (rank_within (gate_above gs) m)) ∙ (ap (λ o. is_some (next_rank (map (rank_within (gate_above gs) m) (option_map_or (λ h. option_to_list (driving_gater gs h.clock)) o [])))) (sym at) ∙ ranked))
      (λ j h j_at r. ranked_reaches m j h j_at r)
    where
      go : (o : Option ℕ) → driving_gater gs g.clock ≡ o → option_map_or (λ j. is_some (rank_within (gate_above gs) m j)) o true ≡ true
          → ((j : ℕ) (h : GatingCell ℕ) → slice_get gs j ≡ Some h → is_some (rank_within (gate_above gs) m j) ≡ true → (n : ℕ) × (reaches parts n (name h.output) ≡ true))
          → (n : ℕ) × (reaches parts n (name g.output) ≡ true)
      go None none is up = (1, at_step parts 0 k (name g.output) (map_gater name g) (named_at k g at) refl (free_root k g at (gated_none gs 0 g.clock none)))
      go (Some j) some is up =
          let found = gated_some gs 0 g.clock j some in
          let place : j ≡ found.0 = found.2 ∙ omega arith in
          let more = up found.0 found.1 found.3 (ap (λ i. is_some (rank_within (gate_above gs) m i)) (sym place) ∙ is) in
          (suc more.0, at_step parts more.0 k (name g.output) (map_gater name g) (named_at k g at) refl (ap (λ y. reaches parts more.0 (name y)) (sym found.4) ∙ more.1))

  -- one that reaches in n steps has a rank within n
  pub reached_ranked : (n k : ℕ) (g : GatingCell ℕ) → slice_get gs k ≡ Some g → reaches parts n (name g.output) ≡ true → is_some (rank_within (gate_above gs) n k) ≡ true
  reached_ranked zero k g at root = absurd (not_root parts once (name g.output) (gated_as g.output (gater_in gs within k g at).output ∙ output_in gs k g at) root)
    where
      output_in : (ks : List (GatingCell ℕ)) (i : ℕ) (h : GatingCell ℕ) → slice_get ks i ≡ Some h → is_in (driven_by_gaters ks) h.output ≡ true
      output_in [] i h h_at = absurd (cc)
      output_in (x ∷ ks) zero h h_at = let same : x ≡ h = cc in ap (λ (y : GatingCell ℕ). is_in (y.output ∷ driven_by_gaters ks) h.output) same ∙ or_left (nat_eq h.output h.output) (is_in (driven_by_gaters ks) h.output) (eq-eqb h.output h.output refl)
      output_in (x ∷ ks) (suc i) h h_at = or_right (nat_eq h.output x.output) (is_in (driven_by_gaters ks) h.output) (output_in ks i h h_at)
  reached_ranked (suc n) k g at is =
      let s = step_at parts n (name g.output) is in
      let same : s.1 ≡ map_gater name g = one_gater parts once s.0 k s.1 (map_gater name g) s.2 (named_at k g at) (sym s.3) in
      let up : reaches parts n (name g.clock) ≡ true = ap (λ (h : GatingCell NetName). reaches parts n h.clock) (sym same) ∙ s.4 in
      ap (λ o. is_some (next_rank (map (rank_within (gate_above gs) n) (option_map_or (λ h. option_to_list (driving_gater gs h.clock)) o [])))) at
      ∙ (under (driving_gater gs g.clock) (rank_within (gate_above gs) n) ∙ go (driving_gater gs g.clock) refl up (λ j h j_at h_up. reached_ranked n j h j_at h_up))
    where
      go : (o : Option ℕ) → driving_gater gs g.clock ≡ o → reaches parts n (name g.clock) ≡ true
          → ((j : ℕ) (h : GatingCell ℕ) → slice_get gs j ≡ Some h → reaches parts n (name h.output) ≡ true → is_some (rank_within (gate_above gs) n j) ≡ true)
          → option_map_or (λ j. is_some (rank_within (gate_above gs) n j)) o true ≡ true
      go None none up ranked = refl
      go (Some j) some up ranked =
          let found = gated_some gs 0 g.clock j some in
          let place : j ≡ found.0 = found.2 ∙ omega arith in
          ap (λ i. is_some (rank_within (gate_above gs) n i)) place ∙ ranked found.0 found.1 found.3 (ap (λ y. reaches parts n (name y)) found.4 ∙ up)

  -- ranks stay where more cells are passed
  rank_more : (m k : ℕ) → is_some (rank_within (gate_above gs) m k) ≡ true → is_some (rank_within (gate_above gs) (suc m) k) ≡ true
  rank_more zero k is = absurd (both_ways false refl is)
  rank_more (suc m) k is = go (slice_get gs k) is (λ j more. rank_more m j more)
    where
      go : (o : Option (GatingCell ℕ)) → is_some (next_rank (map (rank_within (gate_above gs) m) (option_map_or (λ h. option_to_list (driving_gater gs h.clock)) o []))) ≡ true
          → ((j : ℕ) → is_some (rank_within (gate_above gs) m j) ≡ true → is_some (rank_within (gate_above gs) (suc m) j) ≡ true)
          → is_some (next_rank (map (rank_within (gate_above gs) (suc m)) (option_map_or (λ h. option_to_list (driving_gater gs h.clock)) o []))) ≡ true
      go None is more = refl
      go (Some h) is more = under (driving_gater gs h.clock) (rank_within (gate_above gs) (suc m)) ∙ pass (driving_gater gs h.clock) (sym (under (driving_gater gs h.clock) (rank_within (gate_above gs) m)) ∙ is)
        where
          pass : (o : Option ℕ) → option_map_or (λ j. is_some (rank_within (gate_above gs) m j)) o true ≡ true → option_map_or (λ j. is_some (rank_within (gate_above gs) (suc m) j)) o true ≡ true
          pass None is = refl
          pass (Some j) is = more j is

  rank_on : (d m k : ℕ) → is_some (rank_within (gate_above gs) m k) ≡ true → is_some (rank_within (gate_above gs) (m + d) k) ≡ true
  rank_on zero m k is = let e : m + 0 ≡ m = omega arith in ap (λ i. is_some (rank_within (gate_above gs) i k)) e ∙ is
  rank_on (suc d) m k is = let e : m + suc d ≡ suc (m + d) = omega arith in ap (λ i. is_some (rank_within (gate_above gs) i k)) e ∙ rank_more (m + d) k (rank_on d m k is)

  -- so a gating cell has a rank exactly where it reaches
  pub reaches_ranked : (n k : ℕ) (g : GatingCell ℕ) → slice_get gs k ≡ Some g → reaches parts n (name g.output) ≡ true → is_some (gater_rank gs k) ≡ true
  reaches_ranked n k g at is =
      let b = short_chain parts n (name g.output) is in
      let long : length (gaters parts) ≡ length gs = ap length gaters_are ∙ length-map gs (map_gater name) in
      let e : b.0 + (length gs - b.0) ≡ length gs = omega (arith, b.1, long) in
      ap (λ i. is_some (rank_within (gate_above gs) i k)) (sym e) ∙ rank_on (length gs - b.0) b.0 k (reached_ranked b.0 k g at b.2)
