-- Where nets stand in net order: the outputs of gating cells side by side, and the nets of registers behind them.
use Rattle.std.proofs.Common.{◌≡◌, ◌⊎◌, ℕ, zero, suc, ◌+◌, ◌-◌, ◌<◌, ◌≤◌, true, not, List, ◌∷◌, ◌++◌, length, slice_get}
use Rattle.std.proofs.Common.{slice_index_or, None, Some, refl, ap, sym, ◌∙◌, subst, inl, inr, arith}
use Rattle.std.specs.List.{filter, range_with_len}
use Rattle.std.specs.Option.{option_to_list}
use Rattle.std.proofs.lemmas.Bool.{both_ways, false_from_ne_true}
use Rattle.std.proofs.lemmas.List.{length-append, length-map}
use Rattle.std.proofs.lemmas.Option.{slice_get_past}
use Rattle.cg_netlist.specs.Circuit.{Circuit, GatingCell, RegisterCell, cell_nets, clock_nets, gater_outputs, register_nets}
use Rattle.cg_net.specs.NetSets.{is_in}
use Rattle.cg_netlist.specs.Netlist.{IsNetlist}
use Rattle.cg_netlist.proofs.Driven.{in_range}
use Rattle.cg_netlist.proofs.Given.{clock_given, clock_no_gater, driver_within, from_option, gater_given, given_driver, in_option}
use Rattle.cg_net.proofs.Members.{is_in_cases, member_at}
use Rattle.cg_netlist.proofs.OrderLemmas.{length-range_with_len}
use Rattle.cg_netlist.proofs.NetOrder.{place_is}
use Rattle.cg_netlist.proofs.Values.{at_map, split_lists}
use Rattle.cg_machine.proofs.Lists.{all_at, below_or, get_front}
use Rattle.cg_extract.proofs.Kept.{order_is, order_long, order_once}
use Rattle.cg_extract.specs.Lifted.{kept_nets, number_of}
use Rattle.cg_machine.proofs.Cycles.{get_back}
use Rattle.cg_machine.proofs.WalkPlaces.{range_at}

range_append : (s x y : ℕ) → range_with_len s (x + y) ≡ range_with_len s x ++ range_with_len (s + x) y
range_append s zero y = ap (range_with_len s) (let z : 0 + y ≡ y = omega arith in z) ∙ ap (λ a. range_with_len a y) (let e : s ≡ s + 0 = omega arith in e)
range_append s (suc x) y = ap (range_with_len s) (let z : suc x + y ≡ suc (x + y) = omega arith in z) ∙ ap (λ l. s ∷ l) (range_append (s + 1) x y ∙ ap (λ a. range_with_len (s + 1) x ++ range_with_len a y) (let e : s + 1 + x ≡ s + suc x = omega arith in e))

first_of : (a k : ℕ) → 0 < k → slice_index_or (range_with_len a k) 0 0 ≡ a
first_of a zero some = absurd (omega arith)
first_of a (suc k) some = refl

first_none : (a k : ℕ) → k ≡ 0 → slice_index_or (range_with_len a k) 0 0 ≡ 0
first_none a zero none = refl
first_none a (suc k) none = absurd (omega (arith, none))

none_or_some : (k : ℕ) → (k ≡ 0) ⊎ (0 < k)
none_or_some zero = inl refl
none_or_some (suc k) = inr (omega arith)

module _ (c : Circuit) (whole : IsNetlist c) where
  abbrev front : List ℕ
  front = c.inputs ++ filter (λ net. not (is_in c.inputs net)) (option_to_list c.clock) ++ cell_nets c

  abbrev a : ℕ
  a = length front

  abbrev g : ℕ
  g = length c.gaters

  abbrev r : ℕ
  r = length (register_nets c)

  abbrev first : ℕ
  first = slice_index_or (gater_outputs c) 0 0

  gates_long : length (gater_outputs c) ≡ g
  gates_long = length-map c.gaters (λ (x : GatingCell ℕ). x.output)

  count : length c.names ≡ a + g + r
  count =
      let b = length-append (front ++ gater_outputs c) (register_nets c) in
      let d = length-append front (gater_outputs c) in
      let e : length (front ++ gater_outputs c ++ register_nets c) ≡ length c.names = ap length whole.in_order ∙ length-range_with_len (length c.names) 0 in
      omega (arith, b, d, e, gates_long)

  whole_is : front ++ gater_outputs c ++ register_nets c ≡ (range_with_len 0 a ++ range_with_len a g) ++ range_with_len (a + g) r
  whole_is = whole.in_order ∙ (ap (range_with_len 0) count ∙ (from_zero (a + g) r ∙ ap (λ xs. xs ++ range_with_len (a + g) r) (from_zero a g)))
    where
      from_zero : (x y : ℕ) → range_with_len 0 (x + y) ≡ range_with_len 0 x ++ range_with_len x y
      from_zero x y = range_append 0 x y ∙ ap (λ s. range_with_len 0 x ++ range_with_len s y) (let z : 0 + x ≡ x = omega arith in z)

  outer : (front ++ gater_outputs c ≡ range_with_len 0 a ++ range_with_len a g) × (register_nets c ≡ range_with_len (a + g) r)
  outer = split_lists (front ++ gater_outputs c) (range_with_len 0 a ++ range_with_len a g) (register_nets c) (range_with_len (a + g) r)
      (length-append front (gater_outputs c) ∙ (ap (λ k. a + k) gates_long ∙ sym (length-append (range_with_len 0 a) (range_with_len a g) ∙ (ap (λ k. k + length (range_with_len a g)) (length-range_with_len a 0) ∙ ap (λ k. a + k) (length-range_with_len g a))))) whole_is

  inner : (front ≡ range_with_len 0 a) × (gater_outputs c ≡ range_with_len a g)
  inner = split_lists front (range_with_len 0 a) (gater_outputs c) (range_with_len a g) (sym (length-range_with_len a 0)) outer.0

  kept_is : kept_nets c ≡ range_with_len 0 a ++ range_with_len (a + g) r
  kept_is = order_is c whole ∙ (ap (λ xs. xs ++ register_nets c) inner.0 ∙ ap (λ xs. range_with_len 0 a ++ xs) outer.1)

  -- the nets of the first places, and of those behind
  low_at : (i : ℕ) → i < a → slice_get (kept_nets c) i ≡ Some i
  low_at i below = ap (λ xs. slice_get xs i) kept_is ∙ (get_front (range_with_len 0 a) (range_with_len (a + g) r) i (let long = length-range_with_len a 0 in omega (arith, below, long)) ∙ (range_at a 0 i below ∙ ap (λ m. Some m) (let z : 0 + i ≡ i = omega arith in z)))

  high_at : (i : ℕ) → a ≤ i → i < a + r → slice_get (kept_nets c) i ≡ Some (i + g)
  high_at i past below =
      let long = length-range_with_len a 0 in
      ap (λ xs. slice_get xs i) kept_is
      ∙ (ap (slice_get (range_with_len 0 a ++ range_with_len (a + g) r)) (let e : i ≡ length (range_with_len 0 a) + (i - a) = omega (arith, past, long) in e)
      ∙ (get_back (range_with_len 0 a) (range_with_len (a + g) r) (i - a)
      ∙ (range_at r (a + g) (i - a) (omega (arith, past, below)) ∙ ap (λ m. Some m) (let e : a + g + (i - a) ≡ i + g = omega (arith, past) in e))))

  sides : (x : ℕ) → is_in (kept_nets c) x ≡ true → (x < a) ⊎ ((a + g ≤ x) × (x < a + g + r))
  sides x among = elim (is_in_cases (range_with_len 0 a) (range_with_len (a + g) r) x (sym (ap (λ xs. is_in xs x) kept_is) ∙ among)) [
    | inl low ↦ let range = in_range a 0 x low in inl (omega (arith, range.1))
    | inr high ↦ inr (in_range r (a + g) x high)
  ]

  number_below : (x : ℕ) → x < a → number_of c x ≡ x
  number_below x below = place_is (kept_nets c) x x (order_once c whole) (low_at x below)

  number_behind : (x : ℕ) → a + g ≤ x → x < a + g + r → number_of c x ≡ x - g
  number_behind x past below = place_is (kept_nets c) (x - g) x (order_once c whole) (high_at (x - g) (omega (arith, past)) (omega (arith, past, below)) ∙ ap (λ m. Some m) (let e : x - g + g ≡ x = omega (arith, past) in e))

  -- the first output of a gating cell
  first_some : 0 < g → first ≡ a
  first_some some = ap (λ xs. slice_index_or xs 0 0) inner.1 ∙ first_of a g some

  first_zero : g ≡ 0 → first ≡ 0
  first_zero none = ap (λ xs. slice_index_or xs 0 0) inner.1 ∙ first_none a g none

  -- the number of a net that is kept
  pub number_low : (x : ℕ) → is_in (kept_nets c) x ≡ true → x < slice_index_or (gater_outputs c) 0 0 → number_of c x ≡ x
  number_low x among below = elim (none_or_some g) [
    | inl none ↦ let z = first_zero none in absurd (omega (arith, z, below))
    | inr some ↦ let z = first_some some in number_below x (omega (arith, z, below))
  ]

  pub number_high : (x : ℕ) → is_in (kept_nets c) x ≡ true → slice_index_or (gater_outputs c) 0 0 ≤ x → (length c.gaters ≤ x) × (number_of c x ≡ x - length c.gaters)
  number_high x among past = elim (none_or_some g) [
    | inl none ↦ (
      omega (arith, none),
      elim (sides x among) [
        | inl low ↦ number_below x low ∙ (let e : x ≡ x - g = omega (arith, none) in e)
        | inr high ↦ number_behind x high.0 high.1
      ],
    )
    | inr some ↦ let z = first_some some in elim (sides x among) [
      | inl low ↦ absurd (omega (arith, z, past, low))
      | inr high ↦ (omega (arith, high.0), number_behind x high.0 high.1)
    ]
  ]

  -- the net of a number
  pub origin_low : (i : ℕ) → i < slice_index_or (gater_outputs c) 0 0 → (slice_get (kept_nets c) i ≡ Some i) × (i < length c.names)
  origin_low i below = elim (none_or_some g) [
    | inl none ↦ let z = first_zero none in absurd (omega (arith, z, below))
    | inr some ↦ let z = first_some some in (low_at i (omega (arith, z, below)), omega (arith, z, below, count))
  ]

  pub origin_high : (i : ℕ) → slice_index_or (gater_outputs c) 0 0 ≤ i → i + length c.gaters < length c.names → slice_get (kept_nets c) i ≡ Some (i + length c.gaters)
  origin_high i past below = elim (below_or a i) [
    | inl low ↦ elim (none_or_some g) [
      | inl none ↦ low_at i low ∙ ap (λ m. Some m) (let e : i ≡ i + g = omega (arith, none) in e)
      | inr some ↦ let z = first_some some in absurd (omega (arith, z, past, low))
    ]
    | inr high ↦ high_at i high (omega (arith, below, count))
  ]

  pub origin_none : (i : ℕ) → length c.names ≤ i + length c.gaters → slice_get (kept_nets c) i ≡ None
  origin_none i past = slice_get_past (kept_nets c) i (let long = order_long c whole in omega (arith, past, long))

  -- a clock pin is on a gating cell's output where it is not on the clock
  pub pin_on_gater : (k : ℕ) (gater : GatingCell ℕ) → slice_get c.gaters k ≡ Some gater → not (is_in (option_to_list c.clock) gater.clock) ≡ is_in (gater_outputs c) gater.clock
  pin_on_gater k gater at = elim (whole.well_formed.chained.chained k gater at) [
    | inl clk ↦ ap not (from_option c.clock gater.clock clk) ∙ sym (clock_no_gater c whole.well_formed.driven gater.clock clk)
    | inr lower ↦
        let gate : is_in (gater_outputs c) gater.clock ≡ true = subst (λ x. is_in (gater_outputs c) x ≡ true) lower.3 (member_at (gater_outputs c) lower.0 lower.1.output (at_map (λ (x : GatingCell ℕ). x.output) c.gaters lower.0 lower.1 lower.2)) in
        ap not (false_from_ne_true (is_in (option_to_list c.clock) gater.clock) (λ clk. both_ways (is_in (gater_outputs c) gater.clock) (clock_no_gater c whole.well_formed.driven gater.clock (in_option c.clock gater.clock clk)) gate)) ∙ sym gate
  ]

  -- the clock net of a register is a net
  pub clock_within : (k : ℕ) (register : RegisterCell ℕ ℕ) → slice_get c.registers k ≡ Some register → register.clock < length c.names
  clock_within k register at =
      let driven = whole.well_formed.driven in
      elim (is_in_cases (option_to_list c.clock) (gater_outputs c) register.clock (all_at (λ (x : RegisterCell ℕ ℕ). is_in (clock_nets c) x.clock ≡ true) c.registers k register whole.well_formed.clocked at)) [
        | inl clk ↦ driver_within c driven register.clock (given_driver c register.clock (clock_given c register.clock (in_option c.clock register.clock clk)))
        | inr gate ↦ driver_within c driven register.clock (given_driver c register.clock (gater_given c register.clock gate))
      ]
