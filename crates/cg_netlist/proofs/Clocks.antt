-- The clock nets at a moment: their bits follow from the clock and from the latches a moment ago, whatever the enables are.
use Rattle.std.proofs.Common.{◌≡◌, ℕ, zero, suc, ◌<◌, Bool, true, false, ◌&&◌, if◌then◌else◌, List, [], ◌∷◌, map, length, slice_get}
use Rattle.std.proofs.Common.{slice_index, slice_index_or, Option, None, Some, refl, ap, sym, ◌∙◌, subst, inl, inr, arith}
use Rattle.std.specs.List.{All, list_any}
use Rattle.std.specs.Option.{option_map, option_map_or, option_to_list}
use Rattle.std.proofs.lemmas.List.{length-map}
use Rattle.std.proofs.lemmas.Option.{slice_get-map, slice_get_within, get_or_from_slice_get}
use Rattle.cg_netlist.specs.Circuit.{Circuit, GatingCell, asked_nets, clock_nets, gater_outputs}
use Rattle.cg_net.specs.NetSets.{is_in}
use Rattle.cg_netlist.specs.WellFormed.{IsWellFormed}
use Rattle.cg_netlist.specs.Moment.{Settles, bit, zip_with}
use Rattle.cg_netlist.specs.History.{next_latch, gater_bit}
use Rattle.cg_net.proofs.Members.{is_in_cases, is_in_left, is_in_right, member_at, place_of_member}
use Rattle.cg_netlist.proofs.Given.{in_option, from_option, gater_given, given_within, distinct_gaters, clock_no_gater}
use Rattle.cg_netlist.proofs.Solve.{place_of, place_of-None, place_of-Some, place_of-at, solved, fixed, greatest, greatest_bounds}
use Rattle.cg_netlist.proofs.Values.{at_map, under_map, element_at, same_places, value_at, bit_shown, length-zip_with, zip_with_at}

held : (p b e : Bool) → ((if p then b else e) && p) ≡ (b && p)
held true b e = refl
held false true true = refl
held false true false = refl
held false false true = refl
held false false false = refl

-- a gating cell's output is the latch of a moment ago and the clock pin
pub held_gaters : (nets : List Bool) (gaters : List (GatingCell ℕ)) (before : List Bool) → zip_with (gater_bit nets) gaters (zip_with (next_latch nets) gaters before) ≡ zip_with (gater_bit nets) gaters before
held_gaters nets [] before = refl
held_gaters nets (a ∷ gaters) [] = refl
held_gaters nets (a ∷ gaters) (b ∷ before) =
    let first : ((if bit nets a.clock then b else list_any (bit nets) (asked_nets a)) && bit nets a.clock) ≡ (b && bit nets a.clock) = held (bit nets a.clock) b (list_any (bit nets) (asked_nets a)) in
    let rest : zip_with (gater_bit nets) gaters (zip_with (next_latch nets) gaters before) ≡ zip_with (gater_bit nets) gaters before = held_gaters nets gaters before in
    ap (λ g. g ∷ zip_with (gater_bit nets) gaters (zip_with (next_latch nets) gaters before)) first ∙ ap (λ gs. (b && bit nets a.clock) ∷ gs) rest

-- the clock nets have bits that follow from the clock's and from the latches' bits before
pub record Clocked (c : Circuit) (clock : Bool) (before nets : List Bool) : Type 0 where
  pub on_clock : (net : ℕ) → c.clock ≡ Some net → bit nets net ≡ clock
  pub gater_outputs_on : (k : ℕ) (a : GatingCell ℕ) (b : Bool) → slice_get c.gaters k ≡ Some a → slice_get before k ≡ Some b → bit nets a.output ≡ (b && bit nets a.clock)

module _ (c : Circuit) (good : IsWellFormed c) where
  abbrev gate_at : (k : ℕ) (a : GatingCell ℕ) → slice_get c.gaters k ≡ Some a → slice_get (gater_outputs c) k ≡ Some a.output
  gate_at k a at = at_map (λ gater. gater.output) c.gaters k a at

  -- the gating cell that drives a net
  abbrev gater_of : (k x : ℕ) → slice_get (gater_outputs c) k ≡ Some x → (a : GatingCell ℕ) × (slice_get c.gaters k ≡ Some a) × (a.output ≡ x)
  gater_of k x at = under_map (λ gater. gater.output) c.gaters k x at

  -- the clock pin of a gating cell is on a clock net
  pub pin_clocked : (k : ℕ) (a : GatingCell ℕ) → slice_get c.gaters k ≡ Some a → is_in (clock_nets c) a.clock ≡ true
  pin_clocked k a at = elim (good.chained.chained k a at) [
    | inl clk ↦ is_in_left (option_to_list c.clock) (gater_outputs c) a.clock (from_option c.clock a.clock clk)
    | inr before ↦ subst (λ x. is_in (clock_nets c) x ≡ true) before.3 (is_in_right (option_to_list c.clock) (gater_outputs c) before.1.output (member_at (gater_outputs c) before.0 before.1.output (gate_at before.0 before.1 before.2)))
  ]

  abbrev gater_outputs_within : (n : ℕ) → n ≡ length c.names → All (λ x. x < n) (gater_outputs c)
  gater_outputs_within n is = given_within c good.driven n (gater_outputs c) is (gater_given c)

  -- nets that settle with these gates are so
  pub clocked_from : (clock : Bool) (inputs state before nets : List Bool) → Settles c clock inputs state (zip_with (gater_bit nets) c.gaters before) nets → Clocked c clock before nets
  clocked_from clock inputs state before nets settles = record {
    on_clock = λ net is. bit_shown nets net clock (settles.shows_clock net is);
    gater_outputs_on = λ k a b at was. bit_shown nets a.output (b && bit nets a.clock)
        (sym (value_at nets (gater_outputs c) k a.output (gater_outputs_within (length nets) settles.long) (gate_at k a at)) ∙ (ap (λ bits. slice_get bits k) settles.shows_gaters ∙ zip_with_at (gater_bit nets) c.gaters before k a b at was));
  }

  module _ (clock : Bool) (before vs ws : List Bool) (long : length before ≡ length c.gaters) (here : Clocked c clock before vs) (there : Clocked c clock before ws) where
    -- outputs of gating cells of numbers below n
    same_gate : (n k : ℕ) (a : GatingCell ℕ) → slice_index good.numbers k < n → slice_get c.gaters k ≡ Some a → bit vs a.output ≡ bit ws a.output
    same_gate zero k a low at = absurd (omega arith)
    same_gate (suc n) k a low at =
        let b : (b : Bool) × (slice_get before k ≡ Some b) = element_at before k (omega (arith, slice_get_within c.gaters k a at)) in
        let pin : bit vs a.clock ≡ bit ws a.clock = elim (good.chained.chained k a at) [
          | inl clk ↦ here.on_clock a.clock clk ∙ sym (there.on_clock a.clock clk)
          | inr lower ↦ subst (λ x. bit vs x ≡ bit ws x) lower.3 (same_gate n lower.0 lower.1 (let below : slice_index good.numbers lower.0 < slice_index good.numbers k = lower.4 in omega arith) lower.2)
        ] in
        here.gater_outputs_on k a b.0 at b.1 ∙ (ap (λ p. b.0 && p) pin ∙ sym (there.gater_outputs_on k a b.0 at b.1))

    -- the clock nets have the same bits
    pub same_clock_nets : (x : ℕ) → is_in (clock_nets c) x ≡ true → bit vs x ≡ bit ws x
    same_clock_nets x among = elim (is_in_cases (option_to_list c.clock) (gater_outputs c) x among) [
      | inl clk ↦ let is : c.clock ≡ Some x = in_option c.clock x clk in here.on_clock x is ∙ sym (there.on_clock x is)
      | inr gate ↦
          let place : (k : ℕ) × (slice_get (gater_outputs c) k ≡ Some x) = place_of_member (gater_outputs c) x gate in
          let gater : (a : GatingCell ℕ) × (slice_get c.gaters place.0 ≡ Some a) × (a.output ≡ x) = gater_of place.0 x place.1 in
          subst (λ y. bit vs y ≡ bit ws y) gater.2 (same_gate (suc (slice_index good.numbers place.0)) place.0 gater.0 (omega arith) gater.1)
    ]

  module _ (clock : Bool) (before : List Bool) (long : length before ≡ length c.gaters) where
    pin_rank : Option ℕ → ℕ
    pin_rank None = 0
    pin_rank (Some k) = suc (slice_index good.numbers k)

    -- one step: a gating cell's output is the latch before and the pin, and another net counts as the clock
    pin_at : Option ℕ → (ℕ → Bool) → Bool
    pin_at None f = clock
    pin_at (Some k) f = option_map_or (λ gater. slice_index_or before k false && f gater.clock) (slice_get c.gaters k) clock

    step : (ℕ → Bool) → ℕ → Bool
    step f x = pin_at (place_of (gater_outputs c) x) f

    rank : ℕ → ℕ
    rank x = pin_rank (place_of (gater_outputs c) x)

    pin_at-gater : (k : ℕ) (a : GatingCell ℕ) (f : ℕ → Bool) → slice_get c.gaters k ≡ Some a → pin_at (Some k) f ≡ (slice_index_or before k false && f a.clock)
    unfolding pin_at
    pin_at-gater k a f at = ap (λ o. option_map_or (λ gater. slice_index_or before k false && f gater.clock) o clock) at

    -- the clock is no output of a gating cell
    clock_place : (x : ℕ) → c.clock ≡ Some x → place_of (gater_outputs c) x ≡ None
    clock_place x is = place_of-None (gater_outputs c) x (clock_no_gater c good.driven x is)

    pin_lower : (k : ℕ) (a : GatingCell ℕ) → slice_get c.gaters k ≡ Some a → rank a.clock < suc (slice_index good.numbers k)
    unfolding rank pin_rank
    pin_lower k a at = elim (good.chained.chained k a at) [
      | inl clk ↦ let low : pin_rank (place_of (gater_outputs c) a.clock) ≡ 0 = ap pin_rank (clock_place a.clock clk) in omega arith
      | inr lower ↦
          let low : pin_rank (place_of (gater_outputs c) a.clock) ≡ suc (slice_index good.numbers lower.0) = ap (λ x. pin_rank (place_of (gater_outputs c) x)) (sym lower.3) ∙ ap pin_rank (place_of-at (gater_outputs c) lower.0 lower.1.output (distinct_gaters c good.driven) (gate_at lower.0 lower.1 lower.2)) in
          let below : slice_index good.numbers lower.0 < slice_index good.numbers k = lower.4 in
          omega arith
    ]

    asks : (f g : ℕ → Bool) (x : ℕ) → ((y : ℕ) → rank y < rank x → f y ≡ g y) → step f x ≡ step g x
    unfolding step rank pin_at pin_rank
    asks f g x lower = go (place_of (gater_outputs c) x) refl
      where
        go : (o : Option ℕ) → place_of (gater_outputs c) x ≡ o → pin_at o f ≡ pin_at o g
        go None is = refl
        go (Some k) is =
            let a : (a : GatingCell ℕ) × (slice_get c.gaters k ≡ Some a) × (a.output ≡ x) = gater_of k x (place_of-Some (gater_outputs c) k x is) in
            let below : rank a.0.clock < rank x = subst (λ n. rank a.0.clock < n) (sym (ap pin_rank is)) (pin_lower k a.0 a.1) in
            pin_at-gater k a.0 f a.1 ∙ (ap (λ p. slice_index_or before k false && p) (lower a.0.clock below) ∙ sym (pin_at-gater k a.0 g a.1))

    fuel : ℕ
    fuel = suc (suc (greatest good.numbers))

    rank_below : (x : ℕ) → rank x < fuel
    unfolding fuel rank pin_rank
    rank_below x = go (place_of (gater_outputs c) x)
      where
        go : (o : Option ℕ) → pin_rank o < suc (suc (greatest good.numbers))
        go None = omega arith
        go (Some k) = omega (arith, greatest_bounds good.numbers k)

    -- the bits of the clock nets
    pub pins : ℕ → Bool
    pins = solved step fuel

    pins_step : (x : ℕ) → pins x ≡ step pins x
    unfolding pins
    pins_step x = fixed step rank asks fuel x (rank_below x)

    pub pins_clock : (x : ℕ) → c.clock ≡ Some x → pins x ≡ clock
    unfolding step pin_at
    pins_clock x is = pins_step x ∙ ap (λ o. pin_at o pins) (clock_place x is)

    pub pins_gater : (k : ℕ) (a : GatingCell ℕ) (b : Bool) → slice_get c.gaters k ≡ Some a → slice_get before k ≡ Some b → pins a.output ≡ (b && pins a.clock)
    unfolding step
    pins_gater k a b at was =
        pins_step a.output
        ∙ (ap (λ o. pin_at o pins) (place_of-at (gater_outputs c) k a.output (distinct_gaters c good.driven) (gate_at k a at))
        ∙ (pin_at-gater k a pins at
        ∙ ap (λ l. l && pins a.clock) (get_or_from_slice_get before k b false was)))

    module _ (inputs state nets : List Bool) (settles : Settles c clock inputs state (map pins (gater_outputs c)) nets) where
      -- nets that settle with these pins show them at all clock nets
      pub pins_shown : (x : ℕ) → is_in (clock_nets c) x ≡ true → bit nets x ≡ pins x
      pins_shown x among = elim (is_in_cases (option_to_list c.clock) (gater_outputs c) x among) [
        | inl clk ↦ let is : c.clock ≡ Some x = in_option c.clock x clk in bit_shown nets x clock (settles.shows_clock x is) ∙ sym (pins_clock x is)
        | inr gate ↦
            let place : (k : ℕ) × (slice_get (gater_outputs c) k ≡ Some x) = place_of_member (gater_outputs c) x gate in
            bit_shown nets x (pins x) (sym (value_at nets (gater_outputs c) place.0 x (gater_outputs_within (length nets) settles.long) place.1) ∙ (ap (λ bits. slice_get bits place.0) settles.shows_gaters ∙ (slice_get-map pins (gater_outputs c) place.0 ∙ ap (λ o. option_map pins o) place.1)))
      ]

      -- and then a gating cell's output is the latch before and the pin
      gater_pin_shown : (k : ℕ) → k < length c.gaters → slice_get (map pins (gater_outputs c)) k ≡ slice_get (zip_with (gater_bit nets) c.gaters before) k
      gater_pin_shown k within =
          let a : (a : GatingCell ℕ) × (slice_get c.gaters k ≡ Some a) = element_at c.gaters k within in
          let b : (b : Bool) × (slice_get before k ≡ Some b) = element_at before k (omega (arith, long)) in
          let left : slice_get (map pins (gater_outputs c)) k ≡ Some (pins a.0.output) = slice_get-map pins (gater_outputs c) k ∙ ap (option_map pins) (gate_at k a.0 a.1) in
          let right : slice_get (zip_with (gater_bit nets) c.gaters before) k ≡ Some (b.0 && bit nets a.0.clock) = zip_with_at (gater_bit nets) c.gaters before k a.0 b.0 a.1 b.1 in
          let same : pins a.0.output ≡ (b.0 && bit nets a.0.clock) = pins_gater k a.0 b.0 a.1 b.1 ∙ ap (λ p. b.0 && p) (sym (pins_shown a.0.clock (pin_clocked k a.0 a.1))) in
          left ∙ (ap (λ p. Some p) same ∙ sym right)

      pub pins_are_gaters : map pins (gater_outputs c) ≡ zip_with (gater_bit nets) c.gaters before
      pins_are_gaters =
          let count : length (map pins (gater_outputs c)) ≡ length c.gaters = length-map (gater_outputs c) pins ∙ length-map c.gaters (λ gater. gater.output) in
          same_places (map pins (gater_outputs c)) (zip_with (gater_bit nets) c.gaters before)
          (count ∙ sym (length-zip_with (gater_bit nets) c.gaters before (sym long)))
          (λ k below. gater_pin_shown k (omega (arith, count)))
