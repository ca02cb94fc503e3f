-- Where each net is driven once at most, the output of a gating cell is driven by that cell alone, and is no place where the
-- clock may come from.
use Rattle.std.specs.Prelude.{◌≡◌, ◌⊎◌, ℕ, zero, suc, ◌+◌, ◌<◌, true, not, List, [], ◌∷◌, ◌++◌, length, slice_get, Some}
use Rattle.std.proofs.Common.{ap, ◌∙◌, sym, inl, inr, arith}
use Rattle.std.specs.List.{filter}
use Rattle.std.specs.Option.{option_map}
use Rattle.std.proofs.lemmas.Bool.{both_ways, cases_Bool}
use Rattle.std.proofs.lemmas.Option.{slice_get-map, slice_get_within, same_Some}
use Rattle.cg_netlist_parts.proofs.ByKind.{filter_has, filter_known}
use Rattle.cg_netlist_parts.proofs.Counted.{one_place}
use Rattle.cg_netlist_parts.proofs.KnownNames.{known_cases, known_each, known_left, known_right, word_at}
use Rattle.cg_netlist_parts.proofs.Mentioned.{gater_net_mentioned}
use Rattle.cg_netlist_parts.proofs.NamePlaces.{place_at}
use Rattle.cg_netlist.specs.Circuit.{GatingCell}
use Rattle.cg_net.specs.Names.{NetName, is_known, name_place}
use Rattle.cg_netlist_parts.specs.Faults.{EachNet, IsDrivenOnce}
use Rattle.cg_netlist_parts.specs.Part.{Part, cells, clock_pins, clocks, drivers, gaters, inputs, nets, registers, roots}
use Rattle.cg_netlist.specs.Wiring.{driven_by_cells, driven_by_gaters, driven_by_registers}

module _ (parts : List Part) where
  -- a clock pin is a root, or a gating cell drives it
  pub pin_cases : (x : NetName) → is_known (clock_pins parts) x ≡ true → (is_known (roots parts) x ≡ true) ⊎ (is_known (driven_by_gaters (gaters parts)) x ≡ true)
  pin_cases x pin = elim (cases_Bool (is_known (driven_by_gaters (gaters parts)) x)) [
    | inl gate ↦ inr gate
    | inr none ↦ inl (known_right (clocks parts) (filter (λ net. not (is_known (driven_by_gaters (gaters parts)) net)) (clock_pins parts)) x (filter_known (λ net. not (is_known (driven_by_gaters (gaters parts)) net)) (clock_pins parts) x pin (ap not none)))
  ]

module _ (parts : List Part) (once : EachNet parts (IsDrivenOnce parts)) where
  abbrev declared : List NetName
  declared = filter (λ net. not (is_known (inputs parts) net)) (clocks parts)

  -- a word that stands in two lists has two places among both
  pub behind : (xs ys : List NetName) (j : ℕ) (x : NetName) → slice_get ys j ≡ Some x → slice_get (xs ++ ys) (length xs + j) ≡ Some x
  behind [] ys j x at = let e : 0 + j ≡ j = omega arith in ap (slice_get ys) e ∙ at
  behind (y ∷ xs) ys j x at = let e : length (y ∷ xs) + j ≡ suc (length xs + j) = omega arith in ap (slice_get (y ∷ (xs ++ ys))) e ∙ behind xs ys j x at

  pub before : (xs ys : List NetName) (i : ℕ) (x : NetName) → slice_get xs i ≡ Some x → slice_get (xs ++ ys) i ≡ Some x
  before [] ys i x at = absurd (cc)
  before (y ∷ xs) ys zero x at = at
  before (y ∷ xs) ys (suc i) x at = before xs ys i x at

  abbrev front : List NetName
  front = inputs parts ++ declared ++ driven_by_cells (cells parts)

  pub gater_place : (k : ℕ) (x : NetName) → slice_get (driven_by_gaters (gaters parts)) k ≡ Some x → slice_get (drivers parts) (length front + k) ≡ Some x
  gater_place k x at = before (front ++ driven_by_gaters (gaters parts)) (driven_by_registers (registers parts)) (length front + k) x (behind front (driven_by_gaters (gaters parts)) k x at)

  pub once_gated : (x : NetName) → is_known (driven_by_gaters (gaters parts)) x ≡ true → IsDrivenOnce parts x
  once_gated x gate = known_each (IsDrivenOnce parts) (nets parts) x once (gater_net_mentioned parts x gate)

  pub front_apart : (x : NetName) → is_known front x ≡ true → is_known (driven_by_gaters (gaters parts)) x ≡ true → ⊥
  front_apart x front_in gate =
      let i = name_place front x in
      let k = name_place (driven_by_gaters (gaters parts)) x in
      let at = place_at front x front_in in
      let within : name_place front x < length front = slice_get_within front (name_place front x) x at in
      let one : name_place front x ≡ length front + name_place (driven_by_gaters (gaters parts)) x =
      one_place (drivers parts) x (once_gated x gate) (name_place front x) (length front + name_place (driven_by_gaters (gaters parts)) x)
      (before (front ++ driven_by_gaters (gaters parts)) (driven_by_registers (registers parts)) (name_place front x) x (before front (driven_by_gaters (gaters parts)) (name_place front x) x at))
      (gater_place (name_place (driven_by_gaters (gaters parts)) x) x (place_at (driven_by_gaters (gaters parts)) x gate)) in
      omega (arith, within, one)

  -- a gating cell's output is no root
  pub not_root : (x : NetName) → is_known (driven_by_gaters (gaters parts)) x ≡ true → is_known (roots parts) x ≡ true → ⊥
  not_root x gate root = elim (known_cases (clocks parts) (filter (λ net. not (is_known (driven_by_gaters (gaters parts)) net)) (clock_pins parts)) x root) [
    | inl clock ↦ front_apart x (known_left (inputs parts ++ declared) (driven_by_cells (cells parts)) x (declared_front x clock)) gate
    | inr pin ↦ both_ways (not (is_known (driven_by_gaters (gaters parts)) x)) (ap not gate) (filter_has (λ net. not (is_known (driven_by_gaters (gaters parts)) net)) (clock_pins parts) x pin).1
  ]
    where
      declared_front : (y : NetName) → is_known (clocks parts) y ≡ true → is_known (inputs parts ++ declared) y ≡ true
      declared_front y is = elim (cases_Bool (is_known (inputs parts) y)) [
        | inl input ↦ known_left (inputs parts) declared y input
        | inr none ↦ known_right (inputs parts) declared y (filter_known (λ net. not (is_known (inputs parts) net)) (clocks parts) y is (ap not none))
      ]

  pub gate_at : (gs : List (GatingCell NetName)) (k : ℕ) (g : GatingCell NetName) → slice_get gs k ≡ Some g → slice_get (driven_by_gaters gs) k ≡ Some g.output
  gate_at gs k g at = slice_get-map (λ (h : GatingCell NetName). h.output) gs k ∙ ap (option_map (λ (h : GatingCell NetName). h.output)) at

  pub one_gater : (j k : ℕ) (g h : GatingCell NetName) → slice_get (gaters parts) j ≡ Some g → slice_get (gaters parts) k ≡ Some h → g.output ≡ h.output → g ≡ h
  one_gater j k g h j_at k_at same =
      let gate : is_known (driven_by_gaters (gaters parts)) g.output ≡ true = word_at (driven_by_gaters (gaters parts)) j g.output (gate_at (gaters parts) j g j_at) in
      let places : length front + j ≡ length front + k = one_place (drivers parts) g.output (once_gated g.output gate) (length front + j) (length front + k) (gater_place j g.output (gate_at (gaters parts) j g j_at)) (gater_place k g.output (gate_at (gaters parts) k h k_at ∙ ap (λ z. Some z) (sym same))) in
      let one : j ≡ k = omega (arith, places) in
      same_Some g h (sym j_at ∙ (ap (slice_get (gaters parts)) one ∙ k_at))
