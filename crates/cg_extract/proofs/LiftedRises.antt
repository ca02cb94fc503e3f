-- What clock nets do from one moment to the next: the output of a gating cell rises where the clock rises and the and of the
-- enables on its chain was 1 a moment before. A latch behind a gated clock follows its enable wherever that clock stays low.
use Rattle.std.proofs.Common.{[], ◌≡◌, ℕ, Bool, true, false, not, ◌||◌, ◌&&◌, if◌then◌else◌, cond, List, ◌∷◌, length, slice_get}
use Rattle.std.proofs.Common.{nat_eq, unwrap_or, Option, None, Some, refl, ap, sym, ◌∙◌, subst, inl, inr, arith}
use Rattle.std.specs.List.{list_any}
use Rattle.std.specs.Option.{option_to_list}
use Rattle.std.proofs.lemmas.Bool.{both_ways, eq-eqb, eqb-true, or_left}
use Rattle.std.proofs.lemmas.Option.{same_Some, slice_get_within, unwrap_or-slice_get}
use Rattle.cg_netlist.specs.Circuit.{Circuit, GatingCell, RegisterCell, asked_nets, clock_nets, data_inputs, gater_outputs, used_nets}
use Rattle.cg_net.specs.NetSets.{is_in}
use Rattle.cg_netlist.specs.History.{Moment, MomentFollows, Tick, gater_bit, latches_before, next_latch, rises}
use Rattle.cg_netlist.specs.Moment.{Settles, bit, zip_with}
use Rattle.cg_netlist.proofs.Clocks.{Clocked, clocked_from}
use Rattle.cg_netlist.proofs.Given.{clock_no_gater, in_option}
use Rattle.cg_net.proofs.Members.{is_in_cases}
use Rattle.cg_netlist.proofs.Values.{element_at, length-zip_with, zip_with_at}
use Rattle.cg_machine.proofs.Lists.{all_at}
use Rattle.cg_machine.specs.Machine.{load, values}
use Rattle.cg_netlist.proofs.Used.{asked_is_used}
use Rattle.cg_extract.proofs.Lifts.{AreLifted, IsLifted, enable_gater, lifting_lifts, taken_found}
use Rattle.cg_extract.proofs.LiftedMachine.{gater_taken}
use Rattle.cg_extract.proofs.LiftedMoments.{is_inputs, is_state, shown}
use Rattle.cg_extract.specs.Lifted.{CanExtract, HasNoTests, enable_under, lifted, lifting, number_of}
use Rattle.std.proofs.Math.Bool.{and-false}

-- a gating cell whose clock pin stays as it was, and one whose clock pin was low
same_gate : (a b lp lq : Bool) → b ≡ a → (b ≡ true → lq ≡ lp) → (lq && b) ≡ (lp && a)
same_gate true b lp lq is held = ap (λ z. lq && z) is ∙ ap (λ l. l && true) (held is)
same_gate false b lp lq is held = ap (λ z. lq && z) is ∙ (and-false lq ∙ sym (and-false lp))

risen_gater : (b lq enable : Bool) → (b ≡ true → lq ≡ enable) → (lq && b) ≡ (b && enable)
risen_gater true true enable held = held refl
risen_gater true false enable held = held refl
risen_gater false lq enable held = and-false lq

-- a clock net at two moments running
rise_bit : (a z was now loads : Bool) → (a ≡ false → was ≡ false) → (z ≡ false → now ≡ false) → (a ≡ true → z ≡ true → now ≡ was) → (a ≡ false → z ≡ true → now ≡ loads) → (not was && now) ≡ ((not a && z) && loads)
rise_bit true true was now loads low low_now stays rises = ap (λ b. not was && b) (stays refl refl) ∙ go was
  where
    go : (b : Bool) → (not b && b) ≡ false
    go true = refl
    go false = refl
rise_bit true false was now loads low low_now stays rises = ap (λ b. not was && b) (low_now refl) ∙ and-false (not was)
rise_bit false false was now loads low low_now stays rises = ap (λ b. not was && b) (low_now refl) ∙ and-false (not was)
rise_bit false true was now loads low low_now stays rises = ap (λ b. not b && now) (low refl) ∙ rises refl refl

module _ (c : Circuit) (prefix : List ℕ) (can : CanExtract c prefix) (untested : HasNoTests c) where
  abbrev whole : Rattle.cg_netlist.specs.Netlist.IsNetlist c
  whole = can.netlist

  -- what a moment tells
  pub record Tells (tick : Tick) (p : Moment) : Type 0 where
    pub settles : Settles c tick.clock tick.inputs p.state (zip_with (gater_bit p.nets) c.gaters p.latches) p.nets
    pub latches_long : length p.latches ≡ length c.gaters
    pub state_long : length p.state ≡ length c.registers
    pub inputs_long : length tick.inputs ≡ length (data_inputs c)
    -- a latch follows its enable where its clock pin is low
    pub follows : (k : ℕ) (g : GatingCell ℕ) (l : Bool) → slice_get c.gaters k ≡ Some g → slice_get p.latches k ≡ Some l → bit p.nets g.clock ≡ false → l ≡ bit p.nets g.enable

  or_nothing : (b : Bool) → (b || false) ≡ b
  or_nothing true = refl
  or_nothing false = refl

  -- without a test pin a latch follows the enable alone
  asks_enable : (nets : List Bool) (g : GatingCell ℕ) → g.test ≡ None → list_any (bit nets) (asked_nets g) ≡ bit nets g.enable
  asks_enable nets g none = ap (λ o. list_any (bit nets) (g.enable ∷ option_to_list o)) none ∙ or_nothing (bit nets g.enable)

  module _ (start : List Bool) (before : Option Moment) (tick : Tick) (now : Moment) (moves : MomentFollows c start before tick now) (latched : length (latches_before c before) ≡ length c.gaters) where
    latch_at : (k : ℕ) (g : GatingCell ℕ) (l : Bool) → slice_get c.gaters k ≡ Some g → slice_get now.latches k ≡ Some l → (old : Bool) × (slice_get (latches_before c before) k ≡ Some old) × (l ≡ next_latch now.nets g old)
    latch_at k g l at is =
        let old = element_at (latches_before c before) k (let within = slice_get_within c.gaters k g at in omega (arith, latched, within)) in
        let made : slice_get now.latches k ≡ Some (next_latch now.nets g old.0) = ap (λ ls. slice_get ls k) moves.latches ∙ zip_with_at (next_latch now.nets) c.gaters (latches_before c before) k g old.0 at old.1 in
        (old.0, old.1, same_Some l (next_latch now.nets g old.0) (sym is ∙ made))

    -- where its clock pin is high a latch keeps what it had
    pub keeps : (k : ℕ) (g : GatingCell ℕ) (l old : Bool) → slice_get c.gaters k ≡ Some g → slice_get now.latches k ≡ Some l → slice_get (latches_before c before) k ≡ Some old → bit now.nets g.clock ≡ true → l ≡ old
    keeps k g l old at is was high =
        let found = latch_at k g l at is in
        found.2 ∙ (ap (λ b. if b then found.0 else list_any (bit now.nets) (asked_nets g)) high ∙ same_Some found.0 old (sym found.1 ∙ was))

    pub tells : length tick.inputs ≡ length (data_inputs c) → length now.state ≡ length c.registers → Tells tick now
    tells ticked state_long = record {
      settles = moves.nets;
      latches_long = ap length moves.latches ∙ length-zip_with (next_latch now.nets) c.gaters (latches_before c before) (sym latched);
      state_long = state_long;
      inputs_long = ticked;
      follows = λ k g l at is low.
          let found = latch_at k g l at is in
          found.2 ∙ (ap (λ b. if b then found.0 else list_any (bit now.nets) (asked_nets g)) low ∙ asks_enable now.nets g (all_at (λ (g : GatingCell ℕ). g.test ≡ None) c.gaters k g untested at));
    }

  -- the clock nets at a moment
  clocks : (tick : Tick) (p : Moment) → Tells tick p → Clocked c tick.clock p.latches p.nets
  clocks tick p is = clocked_from c whole.well_formed tick.clock tick.inputs p.state p.latches p.nets is.settles

  -- two moments running
  module _ (start : List Bool) (kp k : Tick) (p q : Moment) (before : Tells kp p) (moves : MomentFollows c start (Some p) k q) (now : Tells k q) where
    abbrev vs : List Bool
    vs = values (lifted c prefix) p.state kp.inputs

    -- what a clock net does, under the enable that stands for it
    pub record Moves (net : ℕ) (enable : Option ℕ) : Type 0 where
      pub low : kp.clock ≡ false → bit p.nets net ≡ false
      pub low_now : k.clock ≡ false → bit q.nets net ≡ false
      pub stays : kp.clock ≡ true → k.clock ≡ true → bit q.nets net ≡ bit p.nets net
      pub rises : kp.clock ≡ false → k.clock ≡ true → bit q.nets net ≡ load (values (lifted c prefix) p.state kp.inputs) enable

    -- the clock
    clock_moves : (net : ℕ) → c.clock ≡ Some net → Moves net None
    clock_moves net is =
        let was = (clocks kp p before).on_clock net is in
        let here = (clocks k q now).on_clock net is in
        record {
          low = λ low. was ∙ low;
          low_now = λ low. here ∙ low;
          stays = λ high high_now. here ∙ (high_now ∙ sym (was ∙ high));
          rises = λ low high. here ∙ high;
        }

    -- a gating cell, whose clock pin does so
    gater_moves : (j : ℕ) (g : GatingCell ℕ) (o : Option ℕ) (e : ℕ) → slice_get c.gaters j ≡ Some g → Moves g.clock o → bit vs e ≡ (load vs o && bit vs (number_of c g.enable)) → Moves g.output (Some e)
    gater_moves j g o e at pin shows =
        let within = slice_get_within c.gaters j g at in
        let lp = element_at p.latches j (omega (arith, within, before.latches_long)) in
        let lq = element_at q.latches j (omega (arith, within, now.latches_long)) in
        let was : bit p.nets g.output ≡ (lp.0 && bit p.nets g.clock) = (clocks kp p before).gater_outputs_on j g lp.0 at lp.1 in
        let here : bit q.nets g.output ≡ (lq.0 && bit q.nets g.clock) = (clocks k q now).gater_outputs_on j g lq.0 at lq.1 in
        let held : bit q.nets g.clock ≡ true → lq.0 ≡ lp.0 = λ high. keeps start (Some p) k q moves before.latches_long j g lq.0 lp.0 at lq.1 lp.1 high in
        let used : is_in (used_nets c) g.enable ≡ true = asked_is_used c j g.enable g at (or_left (nat_eq g.enable g.enable) (is_in (option_to_list g.test) g.enable) (eq-eqb g.enable g.enable refl)) in
        let enable : bit vs (number_of c g.enable) ≡ bit p.nets g.enable =
        shown_bit (number_of c g.enable) g.enable (shown c prefix can kp.clock kp.inputs p.state (zip_with (gater_bit p.nets) c.gaters p.latches) p.nets before.settles before.state_long before.inputs_long g.enable used) in
        record {
          low = λ low. was ∙ (ap (λ b. lp.0 && b) (pin.low low) ∙ and-false lp.0);
          low_now = λ low. here ∙ (ap (λ b. lq.0 && b) (pin.low_now low) ∙ and-false lq.0);
          stays = λ high high_now. here ∙ (same_gate (bit p.nets g.clock) (bit q.nets g.clock) lp.0 lq.0 (pin.stays high high_now) held ∙ sym was);
          rises = λ low high.
              here ∙ (risen_gater (bit q.nets g.clock) lq.0 (bit p.nets g.enable) (λ up. held up ∙ before.follows j g lp.0 at lp.1 (pin.low low))
              ∙ (ap (λ b. b && bit p.nets g.enable) (pin.rises low high) ∙ (ap (λ b. load vs o && b) (sym enable) ∙ sym shows)));
        }
      where
        shown_bit : (y x : ℕ) → slice_get vs y ≡ slice_get p.nets x → bit vs y ≡ bit p.nets x
        shown_bit y x same = sym (unwrap_or-slice_get vs y false) ∙ (ap (λ (o : Option Bool). unwrap_or o false) same ∙ unwrap_or-slice_get p.nets x false)

    -- each gating cell that was taken
    taken_moves : (entries : List (ℕ × ℕ)) → AreLifted c (lifting c prefix).machine entries → (net e : ℕ) → enable_under entries net ≡ Some e → Moves net (Some e)
    taken_moves [] all net e under = absurd (cc)
    taken_moves (entry ∷ entries) all net e under = go (nat_eq net entry.0) refl under (taken_moves entries all.1)
      where
        no_enable : (net : ℕ) → c.clock ≡ Some net → (o : Option ℕ) → enable_under entries net ≡ o → o ≡ None
        no_enable net clk None is = refl
        no_enable net clk (Some e) is = absurd (both_ways (is_in (gater_outputs c) net) (clock_no_gater c whole.well_formed.driven net clk) (enable_gater c (lifting c prefix).machine entries net e all.1 is))

        pin_moves : (is : IsLifted c (lifting c prefix).machine entries entry) → ((net e : ℕ) → enable_under entries net ≡ Some e → Moves net (Some e)) → Moves is.gater.clock (enable_under entries is.gater.clock)
        pin_moves is rest = elim (is.pin) [
          | inl clk ↦ subst (Moves is.gater.clock) (sym (no_enable is.gater.clock clk (enable_under entries is.gater.clock) refl)) (clock_moves is.gater.clock clk)
          | inr parent ↦ subst (Moves is.gater.clock) (sym parent.1) (rest is.gater.clock parent.0 parent.1)
        ]

        go : (b : Bool) → nat_eq net entry.0 ≡ b → cond b (Some entry.1) (enable_under entries net) ≡ Some e → ((net e : ℕ) → enable_under entries net ≡ Some e → Moves net (Some e)) → Moves net (Some e)
        go true here is rest =
            let one = all.0 in
            let same : one.gater.output ≡ net = one.output ∙ sym (eqb-true net entry.0 here) in
            let shows = one.shows p.state kp.inputs (is_state c prefix can kp.clock kp.inputs p.state (zip_with (gater_bit p.nets) c.gaters p.latches) p.nets before.settles before.state_long before.inputs_long)
            (is_inputs c prefix can kp.clock kp.inputs p.state (zip_with (gater_bit p.nets) c.gaters p.latches) p.nets before.settles before.state_long before.inputs_long) in
            subst (λ y. Moves y (Some e)) same (subst (λ y. Moves one.gater.output (Some y)) (same_Some entry.1 e is)
            (gater_moves one.number one.gater (enable_under entries one.gater.clock) entry.1 one.at (pin_moves one rest) shows))
        go false here is rest = rest net e is

    -- every clock net
    net_moves : (net : ℕ) → is_in (clock_nets c) net ≡ true → Moves net (enable_under (lifting c prefix).enables net)
    net_moves net among =
        let is = lifting_lifts c prefix can in
        elim (is_in_cases (option_to_list c.clock) (gater_outputs c) net among) [
          | inl clk ↦
              let here = in_option c.clock net clk in
              subst (Moves net) (sym (none here (enable_under (lifting c prefix).enables net) refl)) (clock_moves net here)
          | inr gate ↦
              let found = taken_found (lifting c prefix).enables net (gater_taken c prefix can net gate) in
              subst (Moves net) (sym found.1) (taken_moves (lifting c prefix).enables is.all net found.0 found.1)
        ]
      where
        none : c.clock ≡ Some net → (o : Option ℕ) → enable_under (lifting c prefix).enables net ≡ o → o ≡ None
        none clk None is = refl
        none clk (Some e) is = absurd (both_ways (is_in (gater_outputs c) net) (clock_no_gater c whole.well_formed.driven net clk) (enable_gater c (lifting c prefix).machine (lifting c prefix).enables net e (lifting_lifts c prefix can).all is))

    -- a register rises where the clock rises and it is loaded
    pub register_rises : (r : ℕ) (cell : RegisterCell ℕ ℕ) → slice_get c.registers r ≡ Some cell
        → rises p.nets q.nets cell ≡ ((not kp.clock && k.clock) && load (values (lifted c prefix) p.state kp.inputs) (enable_under (lifting c prefix).enables cell.clock))
    register_rises r cell at =
        let pin = net_moves cell.clock (all_at (λ (r : RegisterCell ℕ ℕ). is_in (clock_nets c) r.clock ≡ true) c.registers r cell whole.well_formed.clocked at) in
        rise_bit kp.clock k.clock (bit p.nets cell.clock) (bit q.nets cell.clock) (load vs (enable_under (lifting c prefix).enables cell.clock)) pin.low pin.low_now pin.stays pin.rises
