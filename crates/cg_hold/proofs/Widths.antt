-- A register that stands on many data inputs and registers has wide hold claims.
use Rattle.std.proofs.Common.{◌≡◌, ℕ, ◌+◌, ◌<◌, ◌≤◌, Bool, true, false, ◌||◌, ◌&&◌, List, [], ◌∷◌, ◌++◌, map, length, length-append}
use Rattle.std.proofs.Common.{nat_eq, nat_lt, slice_get, Option, Some, None, refl, sym, ◌∙◌, ap, subst, arith, inl, inr}
use Rattle.std.specs.Cmp.{nat_eq_equiv}
use Rattle.std.specs.List.{filter, list_any, range_with_len}
use Rattle.std.specs.Option.{option_map_or}
use Rattle.std.proofs.lemmas.Bool.{eqb-true, lt-ltb, or_cases, or_left, or_right}
use Rattle.std.proofs.lemmas.List.{length-map}
use Rattle.std.proofs.lemmas.Map.Made.{length-le_from_is_member}
use Rattle.cg_claim.specs.Leaves.{Leaf, is_reached, leaves_at, sources}
use Rattle.cg_claim.specs.Question.{After, Before, Changed, Question, held_question}
use Rattle.cg_claim.specs.Reach.{after_states, before_nets, before_states, feeds, next_asks_own, origin_asks, registers_of, sides_ask}
use Rattle.cg_claim.specs.declared.leaf.LeafSource.{LeafSource}
use Rattle.cg_claim.specs.declared.leaf.LeafSource.TheVariants.{Input as InputOf, Register as RegisterOf}
use Rattle.cg_hold.proofs.Alone.{mapped_length, split_filter}
use Rattle.cg_machine.specs.Machine.{IsMachine, MachineData}
use Rattle.cg_net.specs.NetSets.{is_in}
use Rattle.cg_netlist.proofs.Filtered.{range_in, to_filter}
use Rattle.cg_netlist.specs.Circuit.{RegisterCell, data_inputs, shown_nets}
use Rattle.cg_netlist_cone.proofs.ConeEdge.{any_in, from_any}
use Rattle.cg_stage_groups.proofs.FrontShows.{feeds_within}
use Rattle.cg_stage_groups.specs.Support.{StandsOnMore}
use Rattle.cg_stage_list_laws.specs.HoldList.{hold_width}
use Rattle.cg_stage_list_laws.specs.Supports.{input_cone}
use Rattle.cg_unroll.proofs.HoldAlike.{in_cone}

module _ (m : MachineData) (good : IsMachine m) (r : ℕ) (below : r < length m.circuit.registers) where
  abbrev q : Question
  q = held_question r

  in_before : (y : ℕ) → is_in (input_cone m r) y ≡ true → is_in (before_nets m q) y ≡ true
  in_before y among = in_cone m good r (y, false) among

  fed_before : (k : ℕ) → feeds m (input_cone m r) k ≡ true → feeds m (before_nets m q) k ≡ true
  fed_before k fed = go (slice_get m.circuit.registers k) fed
    where
      go : (o : Option (RegisterCell ℕ ℕ)) → option_map_or (λ (c : RegisterCell ℕ ℕ). list_any (is_in (input_cone m r)) (shown_nets c)) o false ≡ true → option_map_or (λ (c : RegisterCell ℕ ℕ). list_any (is_in (before_nets m q)) (shown_nets c)) o false ≡ true
      go None h = h
      go (Some c) h = let y = from_any (is_in (input_cone m r)) (shown_nets c) h in any_in (is_in (before_nets m q)) (shown_nets c) y.0 y.1 (in_before y.0 y.2)

  -- such a register is a leaf
  state_before : (k : ℕ) → (nat_eq k r || feeds m (input_cone m r) k) ≡ true → before_states m q k ≡ true
  state_before k stands = elim (or_cases (nat_eq k r) (feeds m (input_cone m r) k) stands) [
    | inl same ↦
        or_right (feeds m (before_nets m q) k) (sides_ask m Before q.sides k || (after_states m q k && origin_asks m q k))
        (or_left (sides_ask m Before q.sides k) (after_states m q k && origin_asks m q k) (or_right (nat_eq k r && next_asks_own m r) (nat_eq k r) same))
    | inr fed ↦ or_left (feeds m (before_nets m q) k) (sides_ask m Before q.sides k || (after_states m q k && origin_asks m q k)) (fed_before k fed)
  ]

  there : (k : ℕ) → (nat_eq k r || feeds m (input_cone m r) k) ≡ true → is_in (registers_of m) k ≡ true
  there k stands =
      let e : 0 + k ≡ k = omega arith in
      subst (λ z. is_in (registers_of m) z ≡ true) e (range_in (length m.circuit.registers) 0 k (elim (or_cases (nat_eq k r) (feeds m (input_cone m r) k) stands) [
        | inl same ↦ let is : k ≡ r = eqb-true k r same in omega (arith, is, below)
        | inr fed ↦ feeds_within m (input_cone m r) k fed
      ]))

  -- how many leaves there are at least
  leaves_least : length (filter (is_in (before_nets m q)) (data_inputs m.circuit)) + length (filter (before_states m q) (registers_of m)) ≤ hold_width m r
  leaves_least =
      let first : List Leaf = leaves_at m q Before in
      let second : List Leaf = leaves_at m q After in
      let third : List Leaf = leaves_at m q Changed in
      let whole : hold_width m r ≡ length (first ++ second) + length third = length-append (first ++ second) third in
      let front : length (first ++ second) ≡ length first + length second = length-append first second in
      let mapped : length first ≡ length (filter (is_reached m q Before) (sources m)) = length-map (filter (is_reached m q Before) (sources m)) (λ (source : LeafSource). (let l : Leaf = record { copy = Before; source = source } in l)) in
      let parts : length (filter (is_reached m q Before) (sources m)) ≡ length (filter (is_reached m q Before) (map InputOf (data_inputs m.circuit)) ++ filter (is_reached m q Before) (map RegisterOf (registers_of m))) =
      ap length (split_filter (is_reached m q Before) (map InputOf (data_inputs m.circuit)) (map RegisterOf (registers_of m))) in
      let sum : length (filter (is_reached m q Before) (map InputOf (data_inputs m.circuit)) ++ filter (is_reached m q Before) (map RegisterOf (registers_of m)))
      ≡ length (filter (is_reached m q Before) (map InputOf (data_inputs m.circuit))) + length (filter (is_reached m q Before) (map RegisterOf (registers_of m))) =
      length-append (filter (is_reached m q Before) (map InputOf (data_inputs m.circuit))) (filter (is_reached m q Before) (map RegisterOf (registers_of m))) in
      let inputs : length (filter (is_reached m q Before) (map InputOf (data_inputs m.circuit))) ≡ length (filter (is_in (before_nets m q)) (data_inputs m.circuit)) = mapped_length (is_reached m q Before) InputOf (data_inputs m.circuit) in
      let states : length (filter (is_reached m q Before) (map RegisterOf (registers_of m))) ≡ length (filter (before_states m q) (registers_of m)) = mapped_length (is_reached m q Before) RegisterOf (registers_of m) in
      least (hold_width m r) (length first) (length second) (length third) _ _ _ _ _ _ whole front mapped parts sum inputs _ states
    where
      least : (w f n t p a b c d e : ℕ) → w ≡ p + t → p ≡ f + n → f ≡ a → a ≡ b → b ≡ c + d → c ≡ e → (g : ℕ) → d ≡ g → e + g ≤ w
      least w f n t p a b c d e h1 h0 h2 h3 h4 h5 g h6 = omega (arith, h1, h0, h2, h3, h4, h5, h6)

  pub wide_shown : (width : ℕ) → StandsOnMore m r width → nat_lt width (hold_width m r) ≡ true
  wide_shown width stands =
      let inputs = length-le_from_is_member nat_eq_equiv stands.inputs (filter (is_in (before_nets m q)) (data_inputs m.circuit)) stands.inputs_once
      (λ y among. let is = stands.inputs_are y among in to_filter (is_in (before_nets m q)) (data_inputs m.circuit) y is.1 (in_before y is.0)) in
      let states = length-le_from_is_member nat_eq_equiv stands.registers (filter (before_states m q) (registers_of m)) stands.registers_once
      (λ k among. let is = stands.registers_are k among in to_filter (before_states m q) (registers_of m) k (there k is) (state_before k is)) in
      lt-ltb width (hold_width m r) (omega (arith, inputs, states, leaves_least, stands.more))
