-- A moment of the netlist is one of the netlist without its gating cells, and shows what the lifted machine's nets show.
use Rattle.std.proofs.Common.{[], ◌≡◌, ◌≢◌, ℕ, ◌<◌, Bool, true, false, List, ◌∷◌, ◌++◌, map, length, slice_get}
use Rattle.std.proofs.Common.{Some, nat_eq, refl, ap, sym, ◌∙◌, subst, arith}
use Rattle.std.specs.List.{cons_option}
use Rattle.std.specs.Option.{option_map, option_to_list}
use Rattle.std.proofs.lemmas.Bool.{both_ways, eq-eqb, or_left, or_right}
use Rattle.std.proofs.lemmas.List.{length-map}
use Rattle.std.proofs.lemmas.Option.{slice_get-get_or, slice_get-map}
use Rattle.cg_netlist.specs.Circuit.{Circuit, LogicCell, RegisterCell, data_inputs, gater_outputs, register_nets, used_nets}
use Rattle.cg_net.specs.NetSets.{is_in}
use Rattle.cg_netlist.specs.Moment.{Settles, bit, function_value, register_bits, shown_bits, values_at}
use Rattle.cg_netlist.specs.Wiring.{map_cell, map_register}
use Rattle.cg_net.specs.Names.{net_name}
use Rattle.cg_netlist.proofs.ClockFree.{lowers}
use Rattle.cg_netlist.proofs.Given.{from_option}
use Rattle.cg_net.proofs.Members.{is_in_left}
use Rattle.cg_netlist.proofs.NetOrder.{registers_renumbered}
use Rattle.cg_netlist.proofs.NetsOf.{nets_only}
use Rattle.cg_net.proofs.TableLemmas.{mapped_at}
use Rattle.cg_netlist.proofs.Used.{input_is_used}
use Rattle.cg_machine.specs.Machine.{IsInputs, IsState, values, walk_of}
use Rattle.std.proofs.lemmas.List.{take_all}
use Rattle.cg_extract.proofs.Bare.{bare_formed, bare_machine, data_is, number_within}
use Rattle.cg_extract.proofs.Kept.{cell_kept, clock_kept, data_kept, kept_within, placed, register_kept, same_number}
use Rattle.cg_extract.proofs.Kept.{shown_on_clock, used_kept}
use Rattle.cg_extract.proofs.LiftedMachine.{start_count}
use Rattle.cg_extract.proofs.Lifts.{lifting_lifts, start}
use Rattle.cg_extract.specs.Lifted.{CanExtract, bare, kept_nets, lifted, number_of, on_clock, ungated}
use Rattle.cg_netlist.proofs.OrderedHistories.{shown_bits_same}

-- what registers show does not depend on their numbers, nor on their clocks
bits_same : (c : Circuit) (f : ℕ → ℕ) (rs : List (RegisterCell ℕ ℕ)) (s : List Bool) → register_bits (map (map_register f) (map (on_clock c) rs)) s ≡ register_bits rs s
bits_same c f [] s = refl
bits_same c f (r ∷ rs) [] = refl
bits_same c f (r ∷ rs) (b ∷ s) = ap (λ l. l ++ register_bits (map (map_register f) (map (on_clock c) rs)) s) (shown_bits_same f r.outputs b) ∙ ap (λ l. shown_bits r b ++ l) (bits_same c f rs s)

-- the bits of the nets that are kept
abbrev pub moved : Circuit → List Bool → List Bool
moved c nets = map (bit nets) (kept_nets c)

module _ (c : Circuit) (prefix : List ℕ) (can : CanExtract c prefix) where
  abbrev f : ℕ → ℕ
  f = number_of c

  abbrev whole : Rattle.cg_netlist.specs.Netlist.IsNetlist c
  whole = can.netlist

  moved_get : (nets : List Bool) → length nets ≡ length c.names → (x : ℕ) → is_in (kept_nets c) x ≡ true → slice_get (moved c nets) (f x) ≡ slice_get nets x
  moved_get nets long x among =
      slice_get-map (bit nets) (kept_nets c) (f x) ∙ (ap (option_map (bit nets)) (placed c whole x among)
      ∙ sym (slice_get-get_or nets x false (let below = kept_within c whole x among in omega (arith, below, long))))

  moved_values : (nets : List Bool) → length nets ≡ length c.names → (xs : List ℕ) → ((x : ℕ) → is_in xs x ≡ true → is_in (kept_nets c) x ≡ true) → values_at (moved c nets) (map f xs) ≡ values_at nets xs
  moved_values nets long [] kept = refl
  moved_values nets long (x ∷ xs) kept =
      ap (λ o. cons_option o (values_at (moved c nets) (map f xs))) (moved_get nets long x (kept x (or_left (nat_eq x x) (is_in xs x) (eq-eqb x x refl))))
      ∙ ap (cons_option (slice_get nets x)) (moved_values nets long xs (λ y among. kept y (or_right (nat_eq y x) (is_in xs y) among)))

  moved_settles : (clock : Bool) (inputs state gates nets : List Bool) → Settles c clock inputs state gates nets → Settles (bare c) clock inputs state [] (moved c nets)
  moved_settles clock inputs state gates nets there = record {
    long = length-map (kept_nets c) (bit nets) ∙ sym (length-map (kept_nets c) (net_name c.names));
    shows_clock = λ net is.
        let old = mapped_at f c.clock net is in
        ap (slice_get (moved c nets)) (sym old.2) ∙ (moved_get nets there.long old.0 (clock_kept c whole old.0 old.1) ∙ there.shows_clock old.0 old.1);
    shows_inputs = ap (values_at (moved c nets)) (data_is c whole) ∙ (moved_values nets there.long (data_inputs c) (data_kept c whole) ∙ there.shows_inputs);
    shows_gaters = refl;
    shows_state =
        ap (values_at (moved c nets)) (registers_renumbered f (ungated c).registers ∙ ap (map f) (shown_on_clock c c.registers))
        ∙ (moved_values nets there.long (register_nets c) (register_kept c whole) ∙ (there.shows_state ∙ sym (bits_same c f c.registers state)));
    holds = λ k cell at.
        let old = mapped_at (map_cell f) (slice_get c.cells k) cell (sym (slice_get-map (map_cell f) c.cells k) ∙ at) in
        subst (λ (d : LogicCell ℕ). slice_get (moved c nets) d.output ≡ Some (function_value d.function (values_at (moved c nets) d.inputs))) old.2
        (moved_get nets there.long old.0.output (cell_kept c whole k old.0 old.1)
        ∙ (there.holds k old.0 old.1
        ∙ ap (λ bits. Some (function_value old.0.function bits)) (sym (moved_values nets there.long old.0.inputs (λ x among. used_kept c whole x (input_is_used c k x old.0 old.1 among))))));
  }

  -- a net that is used has the bit that the machine shows
  module _ (clock : Bool) (inputs state gates nets : List Bool) (there : Settles c clock inputs state gates nets) (state_long : length state ≡ length c.registers) (inputs_long : length inputs ≡ length (data_inputs c)) where
    pub is_state : IsState (lifted c prefix) state
    is_state = state_long ∙ sym ((lifting_lifts c prefix can).count ∙ start_count c prefix can)

    pub is_inputs : IsInputs (lifted c prefix) inputs
    is_inputs = inputs_long ∙ sym (ap length ((lifting_lifts c prefix can).extends.inputs ∙ data_is c whole) ∙ length-map (data_inputs c) f)

    start_inputs : IsInputs (start c prefix can) inputs
    start_inputs = inputs_long ∙ sym (ap length (data_is c whole) ∙ length-map (data_inputs c) f)

    start_state : length state ≡ length (bare c).registers
    start_state = state_long ∙ sym (start_count c prefix can)

    -- the bits of the machine's nets in the cycle, from those of the netlist that is left while the clock is low
    from_low : (low : List Bool) → Settles (bare c) false inputs state [] low → (y : ℕ) → y < length (bare c).names → slice_get (values (lifted c prefix) state inputs) y ≡ slice_get low y
    from_low low settles y below =
        let machine = bare_machine c prefix can in
        let old_values : values (start c prefix can) state inputs ≡ low = nets_only (bare c) machine.well_formed.driven (walk_of (start c prefix can)) machine.walk false inputs state [] low settles in
        let old_state : Rattle.cg_machine.specs.Extends.old (start c prefix can) state ≡ state = take_all (length (bare c).registers) state (omega (arith, start_state)) in
        (lifting_lifts c prefix can).extends.fronts state inputs is_state start_inputs y below
        ∙ (ap (λ s. slice_get (values (start c prefix can) s inputs) y) old_state ∙ ap (λ vs. slice_get vs y) old_values)

    pub shown : (x : ℕ) → is_in (used_nets c) x ≡ true → slice_get (values (lifted c prefix) state inputs) (number_of c x) ≡ slice_get nets x
    shown x among =
        let kept = used_kept c whole x among in
        let low = lowers (bare c) (bare_formed c whole) inputs state [] (moved c nets) clock (moved_settles clock inputs state gates nets there) in
        let apart : (bare c).clock ≢ Some (f x) = λ clk.
        let old = mapped_at f c.clock (f x) clk in
        let same : old.0 ≡ x = same_number c whole old.0 x (clock_kept c whole old.0 old.1) kept old.2 in
        both_ways (is_in (used_nets c) old.0) (whole.well_formed.apart old.0 (is_in_left (option_to_list c.clock) (gater_outputs c) old.0 (from_option c.clock old.0 old.1))) (ap (is_in (used_nets c)) same ∙ among) in
        from_low low.low low.settles (f x) (number_within c whole x kept) ∙ (low.apart (f x) apart ∙ moved_get nets there.long x kept)

    pub shown_values : (xs : List ℕ) → ((x : ℕ) → is_in xs x ≡ true → is_in (used_nets c) x ≡ true) → values_at (values (lifted c prefix) state inputs) (map (number_of c) xs) ≡ values_at nets xs
    shown_values [] used = refl
    shown_values (x ∷ xs) used =
        ap (λ o. cons_option o (values_at (values (lifted c prefix) state inputs) (map f xs))) (shown x (used x (or_left (nat_eq x x) (is_in xs x) (eq-eqb x x refl))))
        ∙ ap (cons_option (slice_get nets x)) (shown_values xs (λ y among. used y (or_right (nat_eq y x) (is_in xs y) among)))

  -- while the clock is low each net that is kept has that bit, the clock too
  pub shown_kept : (inputs state gates nets : List Bool) → Settles c false inputs state gates nets → length state ≡ length c.registers → length inputs ≡ length (data_inputs c)
      → (x : ℕ) → is_in (kept_nets c) x ≡ true → slice_get (values (lifted c prefix) state inputs) (number_of c x) ≡ slice_get nets x
  shown_kept inputs state gates nets there state_long inputs_long x among =
      from_low false inputs state gates nets there state_long inputs_long (moved c nets) (moved_settles false inputs state gates nets there) (number_of c x) (number_within c whole x among) ∙ moved_get nets there.long x among
