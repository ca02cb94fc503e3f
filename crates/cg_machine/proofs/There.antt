-- A gate or a delay register that is added is there, found again or appended.
use Rattle.std.proofs.Common.{◌≡◌, ℕ, ◌<◌, Bool, true, false, if◌then◌else◌, List, [], ◌∷◌, ◌++◌, length, slice_get, slice_index_or}
use Rattle.std.proofs.Common.{IsSome, Option, None, Some, unwrap_or, nat_eq, nat_lt, refl, sym, ◌∙◌, ap, subst, arith}
use Rattle.std.specs.List.{All}
use Rattle.std.specs.Option.{option_or, option_to_list}
use Rattle.std.proofs.lemmas.Bool.{both_ways, eq-eqb, ltb-true, or_left}
use Rattle.std.proofs.lemmas.Grind.{flat_map-append}
use Rattle.std.proofs.lemmas.List.{length-take-le, take_all}
use Rattle.std.proofs.lemmas.Option.{unwrap_or-slice_get, same_Some, slice_get_within}
use Rattle.cg_limit.specs.declared.TheConstants.{MOST_NETS, MOST_REGISTERS}
use Rattle.cg_cell.specs.Cover.{cover_value}
use Rattle.cg_cell.specs.declared.fit.FitKind.{FitKind}
use Rattle.cg_limit.specs.declared.Limit.{Limit}
use Rattle.cg_limit.specs.declared.Limit.TheVariants.{Nets, Registers}
use Rattle.cg_netlist.specs.Circuit.{Circuit, LogicCell, RegisterCell, cell_nets, data_inputs, gater_outputs, given_nets}
use Rattle.cg_net.specs.NetSets.{is_in}
use Rattle.cg_netlist.specs.Circuit.{register_nets, shown_nets}
use Rattle.cg_netlist.specs.History.{next_value}
use Rattle.cg_netlist.specs.Moment.{Settles, bit, register_bits, values_at}
use Rattle.cg_netlist.specs.WellFormed.{IsDriven}
use Rattle.cg_netlist.proofs.Given.{clock_given, distinct_given, driver_within, from_option, given_driver, given_no_cell}
use Rattle.cg_netlist.proofs.Given.{register_given}
use Rattle.cg_net.proofs.Members.{All-from_members, distinct_apart, is_in_left, is_in_right, member_at}
use Rattle.cg_netlist.proofs.Used.{in_flat, input_is_used}
use Rattle.cg_netlist.proofs.Values.{at_map, bit_shown, length-values_at, split_lists, values_at-append}
use Rattle.cg_machine.specs.Added.{add_delay, add_gate, delay_limit, find_delay, find_gate, first_output, gate_limit, next_delay}
use Rattle.cg_machine.specs.Added.{next_gate, nets_limit, or_push, push_delay, push_gate, registers_limit, unless_found}
use Rattle.cg_machine.specs.Extends.{Extends, GateFits, HasDelay, HasGate, old}
use Rattle.cg_machine.specs.Gates.{AddedGate, gate_cell, gate_cover}
use Rattle.cg_machine.specs.Machine.{IsDelay, IsInputs, IsMachine, IsNet, IsState, MachineData, enable_of, next, next_of, step}
use Rattle.cg_machine.specs.Machine.{values}
use Rattle.cg_machine.proofs.Bits.{each_bit}
use Rattle.cg_machine.proofs.Extended.{extends_self}
use Rattle.cg_machine.proofs.FewValues.{values_one}
use Rattle.cg_machine.proofs.Found.{FoundDelay, FoundGate, found_delay, found_gate}
use Rattle.cg_machine.proofs.Fronts.{bits_push, fronts_are, shows_bit}
use Rattle.cg_machine.proofs.Grown.{delay_pushed, enable_front, enable_last, gate_pushed, more_long, more_registers, used_below}
use Rattle.cg_machine.proofs.Lists.{get_front}
use Rattle.cg_machine.proofs.Settled.{settled}
use Rattle.cg_netlist.proofs.Settle.{length-register_bits}
use Rattle.cg_netlist.proofs.SearchSteps.{get_last}

-- no limit is passed
has_room : (m : MachineData) → nets_limit m ≡ None → length m.circuit.names < MOST_NETS
has_room m none = go (nat_lt (length m.circuit.names) MOST_NETS) refl none
  where
    go : (b : Bool) → nat_lt (length m.circuit.names) MOST_NETS ≡ b → (if b then None else Some Nets) ≡ None → length m.circuit.names < MOST_NETS
    go true is h = ltb-true (length m.circuit.names) MOST_NETS is
    go false is h = absurd (cc)

has_space : (m : MachineData) → registers_limit m ≡ None → length m.circuit.registers < MOST_REGISTERS
has_space m none = go (nat_lt (length m.circuit.registers) MOST_REGISTERS) refl none
  where
    go : (b : Bool) → nat_lt (length m.circuit.registers) MOST_REGISTERS ≡ b → (if b then None else Some Registers) ≡ None → length m.circuit.registers < MOST_REGISTERS
    go true is h = ltb-true (length m.circuit.registers) MOST_REGISTERS is
    go false is h = absurd (cc)

pub first_none : (a b : Option Limit) → option_or a b ≡ None → a ≡ None
first_none None b h = refl
first_none (Some l) b h = absurd (cc)

pub second_none : (a b : Option Limit) → option_or a b ≡ None → b ≡ None
second_none None b h = h
second_none (Some l) b h = absurd (cc)

pub same_bits : (vs s : List Bool) (y k : ℕ) → slice_get vs y ≡ slice_get s k → bit vs y ≡ bit s k
same_bits vs s y k same = sym (unwrap_or-slice_get vs y false) ∙ (ap (λ o. unwrap_or o false) same ∙ unwrap_or-slice_get s k false)

-- the clock is no output of a register
pub clock_no_register : (c : Circuit) → IsDriven c → (x : ℕ) → c.clock ≡ Some x → is_in (register_nets c) x ≡ false
clock_no_register c driven x is = distinct_apart (data_inputs c ++ option_to_list c.clock ++ gater_outputs c) (register_nets c) (distinct_given c driven) x
    (is_in_left (data_inputs c ++ option_to_list c.clock) (gater_outputs c) x (is_in_right (data_inputs c) (option_to_list c.clock) x (from_option c.clock x is)))

-- what a machine with a gate keeps
module _ (m : MachineData) (good : IsMachine m) (kind : FitKind) (inputs : List ℕ) (fits : GateFits m kind inputs) (room : length m.circuit.names < MOST_NETS) where
  pub gate_extends : Extends m (push_gate m kind inputs)
  gate_extends =
      let n : MachineData = push_gate m kind inputs in
      let g : LogicCell ℕ = gate_cell (next_gate m kind inputs) in
      record {
        own = refl;
        clock = refl;
        inputs = refl;
        outputs = refl;
        names = omega (arith, more_long m good);
        count = omega arith;
        registers = λ r below. refl;
        enables = λ r below. refl;
        fronts = fronts_are m n good (gate_pushed m good kind inputs fits room) (omega (arith, more_long m good)) refl refl
            (λ k cell at. get_front m.circuit.cells (g ∷ []) k (slice_get_within m.circuit.cells k cell at) ∙ at)
            (λ k cell y at among. used_below m good y (input_is_used m.circuit k y cell at among))
            (λ vs t wide long shows. shows ∙ ap (register_bits m.circuit.registers) (sym (take_all (length m.circuit.registers) t (omega (arith, long)))));
      }

-- what a machine with a delay register keeps
module _ (m : MachineData) (good : IsMachine m) (net clock : ℕ) (is_net : IsNet m net) (is : m.circuit.clock ≡ Some clock) (room : length m.circuit.names < MOST_NETS) (space : length m.circuit.registers < MOST_REGISTERS) where
  abbrev v : MachineData
  v = push_delay m net

  pushed_nets : register_nets v.circuit ≡ register_nets m.circuit ++ length m.circuit.names ∷ []
  pushed_nets = flat_map-append shown_nets m.circuit.registers (next_delay m net ∷ [])

  states : (vs t : List Bool) → length vs ≡ length v.circuit.names → IsState v t → values_at vs (register_nets v.circuit) ≡ register_bits v.circuit.registers t → values_at vs (register_nets m.circuit) ≡ register_bits m.circuit.registers (old m t)
  states vs t wide long shows =
      let rs : List (RegisterCell ℕ ℕ) = m.circuit.registers in
      let more = bits_push rs (next_delay m net) t (omega (arith, long, more_registers m good net clock is_net is room space)) in
      let below : All (λ x. x < length vs) (register_nets m.circuit) = All-from_members (λ x. x < length vs) (register_nets m.circuit) (λ x among. let b = driver_within m.circuit good.well_formed.driven x (given_driver m.circuit x (register_given m.circuit x among)) in omega (arith, b, wide, more_long m good)) in
      let count : length (values_at vs (register_nets m.circuit)) ≡ length (register_bits rs (old m t)) =
      length-values_at vs (register_nets m.circuit) below ∙ sym (length-register_bits rs (old m t) (length-take-le (length rs) t (omega (arith, long, more_registers m good net clock is_net is room space)))) in
      (split_lists (values_at vs (register_nets m.circuit)) (register_bits rs (old m t)) (values_at vs (length m.circuit.names ∷ [])) more.0 count
      (sym (values_at-append vs (register_nets m.circuit) (length m.circuit.names ∷ [])) ∙ (ap (values_at vs) (sym pushed_nets) ∙ (shows ∙ more.1)))).0

  pub delay_extends : Extends m (push_delay m net)
  delay_extends = record {
    own = refl;
    clock = refl;
    inputs = refl;
    outputs = refl;
    names = omega (arith, more_long m good);
    count = omega (arith, more_registers m good net clock is_net is room space);
    registers = λ r below. get_front m.circuit.registers (next_delay m net ∷ []) r below;
    enables = enable_front m good net clock is_net is room space;
    fronts = fronts_are m v good (delay_pushed m good net clock is_net is room space) (omega (arith, more_long m good)) refl refl
        (λ k cell at. at)
        (λ k cell y at among. used_below m good y (input_is_used m.circuit k y cell at among))
        states;
  }

-- a gate among a machine's cells has its function of its inputs, and its net is no clock
module _ (m : MachineData) (good : IsMachine m) (gate : AddedGate) (k : ℕ) (at : slice_get m.circuit.cells k ≡ Some (gate_cell gate)) where
  cell_net : is_in (cell_nets m.circuit) gate.output ≡ true
  cell_net = member_at (cell_nets m.circuit) k gate.output (at_map (λ (d : LogicCell ℕ). d.output) m.circuit.cells k (gate_cell gate) at)

  pub gate_net : IsNet m gate.output
  gate_net = record {
    below = driver_within m.circuit good.well_formed.driven gate.output (is_in_right (given_nets m.circuit) (cell_nets m.circuit) gate.output cell_net);
    apart = λ clock. both_ways (is_in (cell_nets m.circuit) gate.output) (given_no_cell m.circuit good.well_formed.driven gate.output (clock_given m.circuit gate.output clock)) cell_net;
  }

  pub gate_shows : (s x : List Bool) → IsState m s → IsInputs m x → bit (values m s x) gate.output ≡ cover_value (gate_cover gate.kind) (values_at (values m s x) gate.inputs)
  gate_shows s x long ins =
      bit_shown (values m s x) gate.output (cover_value (gate_cover gate.kind) (values_at (values m s x) gate.inputs)) ((settled m good s x long ins).holds k (gate_cell gate) at)

pub gate_there : (m : MachineData) (kind : FitKind) (inputs : List ℕ) → IsMachine m → GateFits m kind inputs → gate_limit m kind inputs ≡ None → HasGate m kind inputs (add_gate m kind inputs)
gate_there m kind inputs good fits room = go (find_gate m kind inputs) refl room
  where
    go : (o : Option ℕ) → find_gate m kind inputs ≡ o → unless_found o (nets_limit m) ≡ None → HasGate m kind inputs (or_push m (push_gate m kind inputs) o)
    go None is there =
        let n : MachineData = push_gate m kind inputs in
        let good_n : IsMachine n = gate_pushed m good kind inputs fits (has_room m there) in
        let g : AddedGate = next_gate m kind inputs in
        let at : slice_get n.circuit.cells (length m.circuit.cells) ≡ Some (gate_cell g) = get_last m.circuit.cells (gate_cell g) in
        record {
          good = good_n;
          extends = gate_extends m good kind inputs fits (has_room m there);
          is_net = gate_net n good_n g (length m.circuit.cells) at;
          registers = refl;
          shows = gate_shows n good_n g (length m.circuit.cells) at;
        }
    go (Some net) is there =
        let f : FoundGate m kind inputs net = found_gate m good kind inputs net is in
        record {
          good = good;
          extends = extends_self m;
          is_net = subst (IsNet m) f.gives (gate_net m good f.gate f.place f.at);
          registers = refl;
          shows = λ s x long ins. ap (bit (values m s x)) (sym f.gives) ∙ (gate_shows m good f.gate f.place f.at s x long ins
              ∙ (ap (λ kind. cover_value (gate_cover kind) (values_at (values m s x) f.gate.inputs)) f.is_kind ∙ ap (λ nets. cover_value (gate_cover kind) (values_at (values m s x) nets)) f.takes));
        }

-- a delay register takes the bit of its net, and shows its own bit
module _ (m : MachineData) (good : IsMachine m) (k : ℕ) (cell : RegisterCell ℕ ℕ) (at : slice_get m.circuit.registers k ≡ Some cell) (d : IsDelay m k cell) where
  shown_there : is_in (register_nets m.circuit) d.output ≡ true
  shown_there = in_flat shown_nets m.circuit.registers k cell d.output at (ap (λ (c : RegisterCell ℕ ℕ). is_in (shown_nets c) d.output) d.is ∙ or_left (nat_eq d.output d.output) false (eq-eqb d.output d.output refl))

  pub delay_net : IsNet m d.output
  delay_net = record {
    below = driver_within m.circuit good.well_formed.driven d.output (given_driver m.circuit d.output (register_given m.circuit d.output shown_there));
    apart = λ clock. both_ways (is_in (register_nets m.circuit) d.output) (clock_no_register m.circuit good.well_formed.driven d.output clock) shown_there;
  }

  pub delay_shows : (s x : List Bool) → IsState m s → IsInputs m x → bit (values m s x) d.output ≡ bit s k
  delay_shows s x long ins =
      let st : Settles m.circuit false x s [] (values m s x) = settled m good s x long ins in
      same_bits (values m s x) s d.output k (shows_bit (values m s x) m.circuit.registers s long (λ z among. let b = driver_within m.circuit good.well_formed.driven z (given_driver m.circuit z (register_given m.circuit z among)) in omega (arith, b, st.long)) st.shows_state k cell d.output at (ap (λ (c : RegisterCell ℕ ℕ). c.outputs) d.is))

  pub delay_takes : d.net < length m.circuit.names → (s x : List Bool) → IsState m s → IsInputs m x → bit (step m s x) k ≡ bit (values m s x) d.net
  delay_takes within s x long ins =
      let st : Settles m.circuit false x s [] (values m s x) = settled m good s x long ins in
      each_bit m (next m (values m s x) s) k (slice_get_within m.circuit.registers k cell at)
      ∙ (ap (λ (o : Option (RegisterCell ℕ ℕ)). next_of o (enable_of m k) (values m s x) (bit s k)) at
      ∙ (ap (λ o. next_of (Some cell) o (values m s x) (bit s k)) d.free
      ∙ (ap (λ (c : RegisterCell ℕ ℕ). next_value c.kind (values_at (values m s x) c.inputs) (bit s k)) d.is
      ∙ ap (λ l. slice_index_or l 0 false) (values_one (values m s x) d.net (omega (arith, within, st.long))))))

pub delay_there : (m : MachineData) (net clock : ℕ) → IsMachine m → IsNet m net → m.circuit.clock ≡ Some clock → delay_limit m net ≡ None → HasDelay m net (add_delay m net)
delay_there m net clock good is_net is room = go (find_delay m net) refl room
  where
    go : (o : Option ℕ) → find_delay m net ≡ o → unless_found o (option_or (nets_limit m) (registers_limit m)) ≡ None → HasDelay m net (or_push m (push_delay m net) o)
    go None none there =
        let n : MachineData = push_delay m net in
        let names : length m.circuit.names < MOST_NETS = has_room m (first_none (nets_limit m) (registers_limit m) there) in
        let space : length m.circuit.registers < MOST_REGISTERS = has_space m (second_none (nets_limit m) (registers_limit m) there) in
        let good_n : IsMachine n = delay_pushed m good net clock is_net is names space in
        let e : Extends m n = delay_extends m good net clock is_net is names space in
        let k : ℕ = length m.circuit.registers in
        let cell : RegisterCell ℕ ℕ = next_delay m net in
        let at : slice_get n.circuit.registers k ≡ Some cell = get_last m.circuit.registers cell in
        let d : IsDelay n k cell = record { net = net; output = length m.circuit.names; is = refl; clock = is ∙ ap Some (sym (ap (λ o. unwrap_or o 0) is)); free = enable_last m good net clock is_net is names space } in
        record {
          good = good_n;
          extends = e;
          is_net = delay_net n good_n k cell at d;
          register = k;
          added = good.own_registers;
          below = slice_get_within n.circuit.registers k cell at;
          shows = delay_shows n good_n k cell at d;
          takes = delay_takes n good_n k cell at d (let b = is_net.below in omega (arith, b, e.names));
        }
    go (Some output) found there =
        let f : FoundDelay m net output = found_delay m net output found in
        let d : IsDelay m f.place f.cell = good.delays f.place f.cell f.added f.at in
        let takes : d.net ≡ net = head_same d.net net (sym (ap (λ (c : RegisterCell ℕ ℕ). c.inputs) d.is) ∙ f.takes) in
        let gives : d.output ≡ output = same_Some d.output output (sym (ap (λ (c : RegisterCell ℕ ℕ). first_output c.outputs) d.is) ∙ f.gives) in
        record {
          good = good;
          extends = extends_self m;
          is_net = subst (IsNet m) gives (delay_net m good f.place f.cell f.at d);
          register = f.place;
          added = f.added;
          below = slice_get_within m.circuit.registers f.place f.cell f.at;
          shows = λ s x long ins. ap (bit (values m s x)) (sym gives) ∙ delay_shows m good f.place f.cell f.at d s x long ins;
          takes = λ s x long ins. delay_takes m good f.place f.cell f.at d (let b = is_net.below in omega (arith, b, takes)) s x long ins ∙ ap (bit (values m s x)) takes;
        }
      where
        head_same : (a b : ℕ) → a ∷ [] ≡ b ∷ [] → a ≡ b
        head_same a b h = cc

-- the same, as a call finds it
pub gate_found : (m : MachineData) (kind : FitKind) (inputs : List ℕ) → IsMachine m → GateFits m kind inputs → (net : ℕ) → find_gate m kind inputs ≡ Some net → HasGate m kind inputs (record { machine = m; net = net })
gate_found m kind inputs good fits net is =
    subst (HasGate m kind inputs) (ap (or_push m (push_gate m kind inputs)) is) (gate_there m kind inputs good fits (ap (λ o. unless_found o (nets_limit m)) is))

pub gate_new : (m : MachineData) (kind : FitKind) (inputs : List ℕ) → IsMachine m → GateFits m kind inputs → find_gate m kind inputs ≡ None → nets_limit m ≡ None → (n : MachineData) (net : ℕ) → n ≡ push_gate m kind inputs → net ≡ length m.circuit.names → HasGate m kind inputs (record { machine = n; net = net })
gate_new m kind inputs good fits none room n net is number =
    let added : add_gate m kind inputs ≡ record { machine = n; net = net } = ap (or_push m (push_gate m kind inputs)) none ∙ (λ i. record { machine = sym is i; net = sym number i }) in
    subst (HasGate m kind inputs) added (gate_there m kind inputs good fits (ap (λ o. unless_found o (nets_limit m)) none ∙ room))

pub some_clock : (o : Option ℕ) → IsSome o → (x : ℕ) × (o ≡ Some x)
some_clock None some = absurd (both_ways false refl some)
some_clock (Some x) some = (x, refl)

pub delay_found : (m : MachineData) (net : ℕ) → IsMachine m → IsNet m net → IsSome m.circuit.clock → (output : ℕ) → find_delay m net ≡ Some output → HasDelay m net (record { machine = m; net = output })
delay_found m net good is_net clock output is =
    let some = some_clock m.circuit.clock clock in
    subst (HasDelay m net) (ap (or_push m (push_delay m net)) is) (delay_there m net some.0 good is_net some.1 (ap (λ o. unless_found o (option_or (nets_limit m) (registers_limit m))) is))

pub delay_new : (m : MachineData) (net : ℕ) → IsMachine m → IsNet m net → IsSome m.circuit.clock → find_delay m net ≡ None → nets_limit m ≡ None → registers_limit m ≡ None → (n : MachineData) (output : ℕ) → n ≡ push_delay m net → output ≡ length m.circuit.names → HasDelay m net (record { machine = n; net = output })
delay_new m net good is_net clock none room space n output is number =
    let some = some_clock m.circuit.clock clock in
    let added : add_delay m net ≡ record { machine = n; net = output } = ap (or_push m (push_delay m net)) none ∙ (λ i. record { machine = sym is i; net = sym number i }) in
    subst (HasDelay m net) added (delay_there m net some.0 good is_net some.1 (ap (λ o. unless_found o (option_or (nets_limit m) (registers_limit m))) none ∙ (ap (λ o. option_or o (registers_limit m)) room ∙ space)))
