-- What is put at the nets of a machine, one part after another, are the bits of its nets in a cycle.
use Rattle.std.proofs.Common.{◌≡◌, ℕ, suc, ◌+◌, ◌-◌, ◌<◌, ◌≤◌, Bool, true, false, not, if◌then◌else◌, max, List, [], ◌∷◌}
use Rattle.std.proofs.Common.{◌++◌, drop, get_or, length, map, slice_get, Option, None, Some, refl, ap, sym, ◌∙◌}
use Rattle.std.proofs.Common.{subst, arith, append_assoc, length-append}
use Rattle.std.specs.List.{All, cons_option, flat_map, range_with_len}
use Rattle.std.specs.Option.{option_flatten, option_to_list}
use Rattle.std.proofs.Math.Seq.{take-append_seam}
use Rattle.std.proofs.lemmas.List.{append-nil, length-map}
use Rattle.std.proofs.lemmas.List.Elements.{All-get_or}
use Rattle.std.proofs.lemmas.Option.{get_or_from_slice_get, slice_get-get_or, slice_get_within, unwrap_or-slice_get}
use Rattle.cg_netlist.specs.Circuit.{Circuit, GatingCell, LogicCell, RegisterCell, data_inputs, given_nets}
use Rattle.cg_net.specs.NetSets.{is_in}
use Rattle.cg_netlist.specs.Circuit.{register_nets, shown_nets, used_nets}
use Rattle.cg_netlist.specs.History.{next_value}
use Rattle.cg_netlist.specs.Moment.{Settles, bit, register_bits, shown_bits, values_at}
use Rattle.cg_netlist.specs.Netlist.{widest_of}
use Rattle.cg_netlist.specs.Nets.{put_cells, walk_order, walked}
use Rattle.cg_netlist.proofs.CellFits.{walk_within}
use Rattle.cg_netlist.proofs.DriverTable.{cell_net_within}
use Rattle.cg_netlist.proofs.Given.{driver_within, given_driver, given_within}
use Rattle.cg_net.proofs.Members.{All-member, is_in_left, is_in_right, member_at}
use Rattle.cg_netlist.proofs.RegisterNext.{register_inputs_within}
use Rattle.cg_netlist.proofs.Used.{input_is_used}
use Rattle.cg_netlist.proofs.Values.{at_map, values_at-append}
use Rattle.cg_netlist.proofs.WalkLawsHold.{walk_leaves_moment}
use Rattle.cg_machine.specs.Gates.{AddedGate, gate_cell}
use Rattle.cg_machine.specs.Machine.{IsInputs, IsMachine, IsState, MachineData, delay_cell, enable_of, load, next, next_of}
use Rattle.cg_machine.specs.Machine.{values, walk_of}
use Rattle.cg_machine.specs.inner.Kept.{delay_of, kept}
use Rattle.cg_machine.specs.inner.Putting.{put_bits}
use Rattle.cg_machine.proofs.PutBits.{length-put_bits, put_bits-append, put_cells-append, put_shows}
use Rattle.cg_machine.proofs.PutBits.{values_at_back, values_at_front, widest_of-append}
use Rattle.cg_machine.proofs.Settled.{settled}

pub get_back : {X : Type 0} (xs ys : List X) (k : ℕ) → slice_get (xs ++ ys) (length xs + k) ≡ slice_get ys k
get_back [] ys k = let z : 0 + k ≡ k = omega arith in ap (slice_get ys) z
get_back (x ∷ xs) ys k = let s : suc (length xs) + k ≡ suc (length xs + k) = omega arith in ap (slice_get (x ∷ (xs ++ ys))) s ∙ get_back xs ys k

module _ (c : Circuit) where
  delay_nets : (ds : List (ℕ × ℕ)) → flat_map shown_nets (map (delay_of c) ds) ≡ map (λ (d : ℕ × ℕ). d.1) ds
  delay_nets [] = refl
  delay_nets (d ∷ ds) = ap (λ l. d.1 ∷ l) (delay_nets ds)

  nets_split : (rs : List (RegisterCell ℕ ℕ)) (ds : List (ℕ × ℕ)) → flat_map shown_nets (rs ++ map (delay_of c) ds) ≡ flat_map shown_nets rs ++ map (λ (d : ℕ × ℕ). d.1) ds
  nets_split [] ds = delay_nets ds
  nets_split (r ∷ rs) ds = ap (λ l. shown_nets r ++ l) (nets_split rs ds) ∙ sym (append_assoc (shown_nets r) (flat_map shown_nets rs) (map (λ (d : ℕ × ℕ). d.1) ds))

  delay_bits : (ds : List (ℕ × ℕ)) (state : List Bool) → length state ≡ length ds → register_bits (map (delay_of c) ds) state ≡ state
  delay_bits [] [] long = refl
  delay_bits [] (b ∷ state) long = absurd (omega arith)
  delay_bits (d ∷ ds) [] long = absurd (omega arith)
  delay_bits (d ∷ ds) (b ∷ state) long = ap (λ l. b ∷ l) (delay_bits ds state (omega arith))

  bits_split : (rs : List (RegisterCell ℕ ℕ)) (ds : List (ℕ × ℕ)) (state : List Bool) → length state ≡ length rs + length ds → register_bits (rs ++ map (delay_of c) ds) state ≡ register_bits rs state ++ drop (length rs) state
  bits_split [] ds state long = delay_bits ds state (omega arith)
  bits_split (r ∷ rs) ds [] long = absurd (omega arith)
  bits_split (r ∷ rs) ds (b ∷ state) long = ap (λ l. shown_bits r b ++ l) (bits_split rs ds state (omega arith)) ∙ sym (append_assoc (shown_bits r b) (register_bits rs state) (drop (length rs) state))

module _ (c : Circuit) (prefix : List ℕ) (es : List (Option ℕ)) (gs : List AddedGate) (ds : List (ℕ × ℕ)) where
  abbrev m : MachineData
  m = kept c prefix es gs ds

  abbrev first_nets : List ℕ
  first_nets = data_inputs c ++ option_to_list c.clock

  abbrev state_nets : List ℕ
  state_nets = register_nets c ++ map (λ (d : ℕ × ℕ). d.1) ds

  cells_in_order : walk_of m ≡ walked c.cells ++ map gate_cell gs
  cells_in_order =
      let gates : List (LogicCell ℕ) = map gate_cell gs in
      let whole : List (LogicCell ℕ) = c.cells ++ gates in
      let count : length whole - length c.cells ≡ length gates = omega (arith, length-append c.cells gates) in
      ap (λ own. values_at whole (walk_order own ++ range_with_len (length c.cells) (length whole - length c.cells))) (take-append_seam c.cells gates)
      ∙ (ap (λ n. values_at whole (walk_order c.cells ++ range_with_len (length c.cells) n)) count
      ∙ (values_at-append whole (walk_order c.cells) (range_with_len (length c.cells) (length gates))
      ∙ (ap (λ l. l ++ values_at whole (range_with_len (length c.cells) (length gates))) (values_at_front c.cells gates (walk_order c.cells) (walk_within c.cells))
      ∙ ap (λ l. walked c.cells ++ l) (values_at_back c.cells gates))))

  pub widest_kept : widest_of m.circuit.cells ≡ max (widest_of c.cells) (widest_of (map gate_cell gs))
  widest_kept = widest_of-append c.cells (map gate_cell gs)

  module _ (good : IsMachine m) where
    given_is : given_nets m.circuit ≡ first_nets ++ state_nets
    given_is =
        ap (λ gates. first_nets ++ map (λ (g : GatingCell ℕ). g.output) gates ++ register_nets m.circuit) good.no_gaters
        ∙ (ap (λ l. l ++ register_nets m.circuit) (append-nil first_nets) ∙ ap (λ l. first_nets ++ l) (nets_split c c.registers ds))

    is_given : (x : ℕ) → is_in (first_nets ++ state_nets) x ≡ true → is_in (given_nets m.circuit) x ≡ true
    is_given x among = subst (λ l. is_in l x ≡ true) (sym given_is) among

    pub inputs_below : (n : ℕ) → n ≡ length m.circuit.names → All (λ net. net < n) (data_inputs c)
    inputs_below n is = given_within m.circuit good.well_formed.driven n (data_inputs c) is (λ x among. is_given x (is_in_left first_nets state_nets x (is_in_left (data_inputs c) (option_to_list c.clock) x among)))

    pub clock_below : (n : ℕ) → n ≡ length m.circuit.names → All (λ net. net < n) (option_to_list c.clock)
    clock_below n is = given_within m.circuit good.well_formed.driven n (option_to_list c.clock) is (λ x among. is_given x (is_in_left first_nets state_nets x (is_in_right (data_inputs c) (option_to_list c.clock) x among)))

    pub delays_below : (n : ℕ) → n ≡ length m.circuit.names → All (λ (d : ℕ × ℕ). d.1 < n) ds
    delays_below n is = λ k d below.
        let nets : List ℕ = map (λ (x : ℕ × ℕ). x.1) ds in
        let at : slice_get nets k ≡ Some (get_or ds k d).1 = at_map (λ (x : ℕ × ℕ). x.1) ds k (get_or ds k d) (slice_get-get_or ds k d below) in
        let small = driver_within m.circuit good.well_formed.driven (get_or ds k d).1 (given_driver m.circuit (get_or ds k d).1 (is_given (get_or ds k d).1 (is_in_right first_nets state_nets (get_or ds k d).1 (is_in_right (register_nets c) nets (get_or ds k d).1 (member_at nets k (get_or ds k d).1 at))))) in
        omega (arith, small, is)

    -- an added gate as a logic cell of the machine
    gate_at : (k : ℕ) (d : AddedGate) → k < length gs → slice_get m.circuit.cells (length c.cells + k) ≡ Some (gate_cell (get_or gs k d))
    gate_at k d below = get_back c.cells (map gate_cell gs) k ∙ (Rattle.std.proofs.lemmas.Option.slice_get-map gate_cell gs k ∙ ap (Rattle.std.specs.Option.option_map gate_cell) (slice_get-get_or gs k d below))

    pub gate_inputs_below : (n : ℕ) → n ≡ length m.circuit.names → All (λ (g : AddedGate). All (λ net. net < n) g.inputs) gs
    gate_inputs_below n is = λ k d below. Rattle.cg_net.proofs.Members.All-from_members (λ net. net < n) (get_or gs k d).inputs (λ net among.
        let small = All-member (λ x. x < length m.circuit.names) (used_nets m.circuit) net good.well_formed.used (input_is_used m.circuit (length c.cells + k) net (gate_cell (get_or gs k d)) (gate_at k d below) among) in
        omega (arith, small, is))

    pub gate_outputs_below : (n : ℕ) → n ≡ length m.circuit.names → All (λ (g : AddedGate). g.output < n) gs
    gate_outputs_below n is = λ k d below. let small = cell_net_within m.circuit good.well_formed.driven (length c.cells + k) (gate_cell (get_or gs k d)) (gate_at k d below) in omega (arith, small, is)

    module _ (state inputs : List Bool) (is_state : IsState m state) (is_inputs : IsInputs m inputs) where
      settles : Settles m.circuit false inputs state [] (values m state inputs)
      settles = settled m good state inputs is_state is_inputs

      abbrev lows : List Bool
      lows = map (λ _. false) (option_to_list c.clock)

      clock_shown : (o : Option ℕ) → c.clock ≡ o → values_at (values m state inputs) (option_to_list o) ≡ map (λ _. false) (option_to_list o)
      clock_shown None is = refl
      clock_shown (Some clk) is = ap (λ b. cons_option b []) (settles.shows_clock clk is)

      state_long : length state ≡ length c.registers + length ds
      state_long = is_state ∙ (length-append c.registers (map (delay_of c) ds) ∙ ap (λ n. length c.registers + n) (length-map ds (delay_of c)))

      all_shown : values_at (values m state inputs) (first_nets ++ state_nets) ≡ (inputs ++ lows) ++ (register_bits c.registers state ++ drop (length c.registers) state)
      all_shown =
          let vs : List Bool = values m state inputs in
          values_at-append vs first_nets state_nets
          ∙ (ap (λ l. l ++ values_at vs state_nets) (values_at-append vs (data_inputs c) (option_to_list c.clock) ∙ (ap (λ l. l ++ values_at vs (option_to_list c.clock)) settles.shows_inputs ∙ ap (λ l. inputs ++ l) (clock_shown c.clock refl)))
          ∙ ap (λ l. (inputs ++ lows) ++ l) (ap (values_at vs) (sym (nets_split c c.registers ds)) ∙ (settles.shows_state ∙ bits_split c c.registers ds state state_long)))

      -- each part puts as many bits as it has nets
      registers_long : length (register_bits c.registers state) ≡ length (register_nets c)
      registers_long = count c.registers state (omega (arith, state_long))
        where
          count : (rs : List (RegisterCell ℕ ℕ)) (s : List Bool) → length rs ≤ length s → length (register_bits rs s) ≡ length (flat_map shown_nets rs)
          count [] s long = refl
          count (r ∷ rs) [] long = absurd (omega arith)
          count (r ∷ rs) (b ∷ s) long =
              omega (arith, length-append (shown_bits r b) (register_bits rs s), length-append (shown_nets r) (flat_map shown_nets rs), length-map r.outputs (λ output. output.0), length-map r.outputs (λ output. if output.1 then not b else b), count rs s (omega arith))

      pub evaluated : (v0 v1 v2 v3 v4 v5 v6 : List Bool) → length v0 ≡ length m.circuit.names → v1 ≡ put_bits (data_inputs c) inputs v0 → v2 ≡ put_bits (option_to_list c.clock) lows v1
          → v3 ≡ put_bits (register_nets c) (register_bits c.registers state) v2 → v4 ≡ put_bits (map (λ (d : ℕ × ℕ). d.1) ds) (drop (length c.registers) state) v3
          → v5 ≡ put_cells (walked c.cells) v4 → v6 ≡ put_cells (map gate_cell gs) v5 → v6 ≡ values m state inputs
      evaluated v0 v1 v2 v3 v4 v5 v6 long e1 e2 e3 e4 e5 e6 =
          let vs : List Bool = values m state inputs in
          let firsts : List Bool = inputs ++ lows in
          let seconds : List Bool = register_bits c.registers state ++ drop (length c.registers) state in
          let two : v2 ≡ put_bits first_nets firsts v0 = e2 ∙ (ap (put_bits (option_to_list c.clock) lows) e1 ∙ sym (put_bits-append (data_inputs c) (option_to_list c.clock) inputs lows v0 is_inputs)) in
          let four : v4 ≡ put_bits state_nets seconds v2 = e4 ∙ (ap (put_bits (map (λ (d : ℕ × ℕ). d.1) ds) (drop (length c.registers) state)) e3 ∙ sym (put_bits-append (register_nets c) (map (λ (d : ℕ × ℕ). d.1) ds) (register_bits c.registers state) (drop (length c.registers) state) v2 registers_long)) in
          let firsts_long : length firsts ≡ length first_nets = length-append inputs lows ∙ (ap (λ n. n + length lows) is_inputs ∙ (ap (λ n. length (data_inputs c) + n) (length-map (option_to_list c.clock) (λ _. false)) ∙ sym (length-append (data_inputs c) (option_to_list c.clock)))) in
          let all : v4 ≡ put_bits (first_nets ++ state_nets) (firsts ++ seconds) v0 = four ∙ (ap (put_bits state_nets seconds) two ∙ sym (put_bits-append first_nets state_nets firsts seconds v0 firsts_long)) in
          let v4_long : length v4 ≡ length m.circuit.names = ap length all ∙ (length-put_bits (first_nets ++ state_nets) (firsts ++ seconds) v0 ∙ long) in
          let shows : (x : ℕ) → is_in (given_nets m.circuit) x ≡ true → slice_get v4 x ≡ slice_get vs x = λ x among.
          ap (λ v. slice_get v x) all
          ∙ put_shows (first_nets ++ state_nets) (firsts ++ seconds) v0 vs all_shown (λ y inside. let small = driver_within m.circuit good.well_formed.driven y (given_driver m.circuit y (is_given y inside)) in omega (arith, small, settles.long)) (long ∙ sym settles.long) x (subst (λ l. is_in l x ≡ true) given_is among) in
          e6
          ∙ (ap (put_cells (map gate_cell gs)) e5
          ∙ (sym (put_cells-append (walked c.cells) (map gate_cell gs) v4)
          ∙ (ap (λ w. put_cells w v4) (sym cells_in_order)
          ∙ walk_leaves_moment m.circuit (walk_of m) false inputs state [] vs v4 good.well_formed good.walk settles v4_long shows)))

-- the next bit of a delay register, and of another one that is loaded
module _ (m : MachineData) (good : IsMachine m) (nets state : List Bool) (long : length nets ≡ length m.circuit.names) (r : ℕ) where
  pub delay_net_below : (cell : RegisterCell ℕ ℕ) (net : ℕ) → slice_get m.circuit.registers r ≡ Some cell → slice_get cell.inputs 0 ≡ Some net → net < length nets
  delay_net_below cell net at first =
      subst (λ n. n < length nets) (get_or_from_slice_get cell.inputs 0 net net first)
      (All-get_or (λ n. n < length nets) cell.inputs 0 net (slice_get_within cell.inputs 0 net first) (register_inputs_within m.circuit good.well_formed r cell at (length nets) (omega (arith, long))))

  pub delay_next : (clock net output : ℕ) → m.own_registers ≤ r → slice_get m.circuit.registers r ≡ Some (delay_cell clock net output) → get_or nets net false ≡ next m nets state r
  delay_next clock net output added at =
      let free : enable_of m r ≡ None = (good.delays r (delay_cell clock net output) added at).free in
      let below : net < length nets = delay_net_below (delay_cell clock net output) net at refl in
      let shown : slice_get nets net ≡ Some (get_or nets net false) = slice_get-get_or nets net false below in
      sym (ap (λ o. get_or (cons_option o []) 0 false) shown)
      ∙ (ap (λ e. next_of (Some (delay_cell clock net output)) e nets (bit state r)) (sym free)
      ∙ ap (λ (o : Option (RegisterCell ℕ ℕ)). next_of o (enable_of m r) nets (bit state r)) (sym at))

  pub loaded_next : (cell : RegisterCell ℕ ℕ) (v : Bool) → slice_get m.circuit.registers r ≡ Some cell → load nets (enable_of m r) ≡ true → v ≡ next_value cell.kind (values_at nets cell.inputs) (bit state r) → v ≡ next m nets state r
  loaded_next cell v at loaded is =
      is
      ∙ (ap (λ b. if b then next_value cell.kind (values_at nets cell.inputs) (bit state r) else bit state r) (sym loaded)
      ∙ ap (λ (o : Option (RegisterCell ℕ ℕ)). next_of o (enable_of m r) nets (bit state r)) (sym at))
