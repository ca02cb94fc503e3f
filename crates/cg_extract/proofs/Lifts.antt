-- Gating cells are taken one after another: the machine stays a machine, and the net beside each shows the and of the enables on
-- its chain.
use Rattle.std.proofs.Common.{◌≡◌, ◌⊎◌, ℕ, suc, ◌+◌, ◌<◌, ◌≤◌, Bool, true, false, ◌&&◌, cond, List, [], ◌∷◌, length, map, slice_get}
use Rattle.std.proofs.Common.{nat_eq, Option, None, Some, refl, ap, sym, ◌∙◌, subst, inl, inr, arith}
use Rattle.std.specs.Option.{option_to_list}
use Rattle.std.proofs.lemmas.Bool.{both_ways, eq-eqb, eqb-true, lt-ltb, or_cases, or_left}
use Rattle.std.proofs.lemmas.List.{length-append, take_all}
use Rattle.std.proofs.lemmas.Option.{same_Some}
use Rattle.cg_limit.specs.declared.TheConstants.{MOST_NETS}
use Rattle.cg_cell.specs.Cover.{cover_value}
use Rattle.cg_cell.specs.declared.fit.FitKind.TheVariants.{And2}
use Rattle.cg_limit.specs.declared.Limit.{Limit}
use Rattle.cg_limit.specs.declared.Limit.TheVariants.{Nets}
use Rattle.cg_netlist.specs.Circuit.{Circuit, GatingCell, gater_outputs, used_nets}
use Rattle.cg_net.specs.NetSets.{is_in}
use Rattle.cg_netlist.specs.Moment.{bit}
use Rattle.cg_netlist.specs.WellFormed.{IsWellFormed}
use Rattle.cg_netlist.proofs.Given.{from_option}
use Rattle.cg_net.proofs.Members.{is_in_left, member_at}
use Rattle.cg_net.proofs.TableLemmas.{mapped_at}
use Rattle.cg_netlist.proofs.Used.{asked_is_used}
use Rattle.cg_netlist.proofs.Values.{at_map}
use Rattle.cg_machine.specs.Added.{add_gate, find_gate, nets_limit, next_name, or_push, push_gate, unless_found}
use Rattle.cg_machine.specs.Extends.{Extends, GateFits, HasGate}
use Rattle.cg_machine.specs.Gates.{and_cover}
use Rattle.cg_machine.specs.Machine.{IsInputs, IsMachine, IsNet, IsState, MachineData, load, values}
use Rattle.cg_machine.specs.Start.{machine_of}
use Rattle.cg_machine.proofs.Bits.{same_bit}
use Rattle.cg_machine.proofs.Extended.{extends_self, extends_then, net_kept}
use Rattle.cg_machine.proofs.Lists.{in_one}
use Rattle.cg_machine.proofs.Settled.{settled}
use Rattle.cg_machine.proofs.There.{gate_there}
use Rattle.cg_extract.proofs.Bare.{bare_long, bare_machine, number_within}
use Rattle.cg_extract.proofs.Depths.{Ready, depths_few, ready}
use Rattle.cg_extract.proofs.Kept.{clock_kept, same_number, used_kept}
use Rattle.cg_extract.specs.Lifted.{CanExtract, Lifting, bare, by_depth, chained, enable_under, lift_each, lift_one, lifting}
use Rattle.cg_extract.specs.Lifted.{number_of, unlifted, with_entry}
use Rattle.cg_machine.proofs.FewValues.{values_two}
use Rattle.cg_machine.proofs.GateValues.{and_value}

-- the nets beside which enables stand
abbrev pub taken : List (ℕ × ℕ) → List ℕ
taken entries = map (λ entry. entry.0) entries

pub taken_found : (entries : List (ℕ × ℕ)) (net : ℕ) → is_in (taken entries) net ≡ true → (e : ℕ) × (enable_under entries net ≡ Some e)
taken_found [] net among = absurd (both_ways false refl among)
taken_found (entry ∷ entries) net among = go (nat_eq net entry.0) refl (or_cases (nat_eq net entry.0) (is_in (taken entries) net) among) (taken_found entries net)
  where
    go : (b : Bool) → nat_eq net entry.0 ≡ b → (nat_eq net entry.0 ≡ true) ⊎ (is_in (taken entries) net ≡ true) → (is_in (taken entries) net ≡ true → (e : ℕ) × (enable_under entries net ≡ Some e)) → (e : ℕ) × (enable_under (entry ∷ entries) net ≡ Some e)
    go true is which rest = (entry.1, ap (λ b. cond b (Some entry.1) (enable_under entries net)) is)
    go false is which rest = elim which [
      | inl here ↦ absurd (both_ways (nat_eq net entry.0) is here)
      | inr later ↦ let found = rest later in (found.0, ap (λ b. cond b (Some entry.1) (enable_under entries net)) is ∙ found.1)
    ]

-- nets of a machine show in a machine with more gates what they show in it
pub same_front : (m n : MachineData) → Extends m n → length n.circuit.registers ≡ length m.circuit.registers → (s x : List Bool) → IsState n s → IsInputs n x → (y : ℕ) → y < length m.circuit.names → bit (values n s x) y ≡ bit (values m s x) y
same_front m n e count s x long ins y below =
    same_bit (values n s x) (values m s x) y (e.fronts s x long (ins ∙ ap length e.inputs) y below
    ∙ ap (λ t. slice_get (values m t x) y) (take_all (length m.circuit.registers) s (omega (arith, long, count))))

module _ (c : Circuit) where
  -- what stands in an entry, before which others were taken
  pub record IsLifted (m : MachineData) (before : List (ℕ × ℕ)) (entry : ℕ × ℕ) : Type 0 where
    pub number : ℕ
    pub gater : GatingCell ℕ
    pub at : slice_get c.gaters number ≡ Some gater
    pub output : gater.output ≡ entry.0
    pub pin : (c.clock ≡ Some gater.clock) ⊎ ((e : ℕ) × (enable_under before gater.clock ≡ Some e))
    pub is_net : IsNet m entry.1
    pub shows : (s x : List Bool) → IsState m s → IsInputs m x → bit (values m s x) entry.1 ≡ (load (values m s x) (enable_under before gater.clock) && bit (values m s x) (number_of c gater.enable))

  abbrev pub AreLifted : MachineData → List (ℕ × ℕ) → Type 0
  AreLifted m [] = Unit {0}
  AreLifted m (entry ∷ entries) = IsLifted m entries entry × AreLifted m entries

  pub enable_net : (m : MachineData) (entries : List (ℕ × ℕ)) (net e : ℕ) → AreLifted m entries → enable_under entries net ≡ Some e → IsNet m e
  enable_net m [] net e all is = absurd (cc)
  enable_net m (entry ∷ entries) net e all is = go (nat_eq net entry.0) is (enable_net m entries net e all.1)
    where
      go : (b : Bool) → cond b (Some entry.1) (enable_under entries net) ≡ Some e → (enable_under entries net ≡ Some e → IsNet m e) → IsNet m e
      go true is rest = subst (IsNet m) (same_Some entry.1 e is) all.0.is_net
      go false is rest = rest is

  -- an enable stands beside the output of a gating cell alone
  pub enable_gater : (m : MachineData) (entries : List (ℕ × ℕ)) (net e : ℕ) → AreLifted m entries → enable_under entries net ≡ Some e → is_in (gater_outputs c) net ≡ true
  enable_gater m [] net e all is = absurd (cc)
  enable_gater m (entry ∷ entries) net e all is = go (nat_eq net entry.0) refl is (enable_gater m entries net e all.1)
    where
      go : (b : Bool) → nat_eq net entry.0 ≡ b → cond b (Some entry.1) (enable_under entries net) ≡ Some e → (enable_under entries net ≡ Some e → is_in (gater_outputs c) net ≡ true) → is_in (gater_outputs c) net ≡ true
      go true here is rest =
          let same : all.0.gater.output ≡ net = all.0.output ∙ sym (eqb-true net entry.0 here) in
          subst (λ y. is_in (gater_outputs c) y ≡ true) same (member_at (gater_outputs c) all.0.number all.0.gater.output (at_map (λ (g : GatingCell ℕ). g.output) c.gaters all.0.number all.0.gater all.0.at))
      go false here is rest = rest is

  -- all of it stays where gates are added
  module _ (m n : MachineData) (e : Extends m n) (count : length n.circuit.registers ≡ length m.circuit.registers) (own : (k : ℕ) (g : GatingCell ℕ) → slice_get c.gaters k ≡ Some g → number_of c g.enable < length m.circuit.names) where
    load_kept : (s x : List Bool) → IsState n s → IsInputs n x → (o : Option ℕ) → ((y : ℕ) → o ≡ Some y → IsNet m y) → load (values n s x) o ≡ load (values m s x) o
    load_kept s x long ins None net = refl
    load_kept s x long ins (Some y) net = same_front m n e count s x long ins y (net y refl).below

    still_lifted : (entries : List (ℕ × ℕ)) (entry : ℕ × ℕ) → IsLifted m entries entry → AreLifted m entries → IsLifted n entries entry
    still_lifted entries entry is all = record {
      number = is.number;
      gater = is.gater;
      at = is.at;
      output = is.output;
      pin = is.pin;
      is_net = net_kept m n e entry.1 is.is_net;
      shows = λ s x long ins.
          same_front m n e count s x long ins entry.1 is.is_net.below
          ∙ (is.shows s x (long ∙ count) (ins ∙ ap length e.inputs)
          ∙ (ap (λ b. b && bit (values m s x) (number_of c is.gater.enable)) (sym (load_kept s x long ins (enable_under entries is.gater.clock) (λ y under. enable_net m entries is.gater.clock y all under)))
          ∙ ap (λ b. load (values n s x) (enable_under entries is.gater.clock) && b) (sym (same_front m n e count s x long ins (number_of c is.gater.enable) (own is.number is.gater is.at)))));
    }

    pub all_still_lifted : (entries : List (ℕ × ℕ)) → AreLifted m entries → AreLifted n entries
    all_still_lifted [] all = tt
    all_still_lifted (entry ∷ entries) all = (still_lifted entries entry all.0 all.1, all_still_lifted entries all.1)

module _ (c : Circuit) (prefix : List ℕ) (can : CanExtract c prefix) where
  abbrev good : IsWellFormed c
  good = can.netlist.well_formed

  abbrev pub start : MachineData
  start = machine_of (bare c) prefix

  -- what lifting keeps
  pub record Lifts (l : Lifting) : Type 0 where
    pub machine : IsMachine l.machine
    pub extends : Extends start l.machine
    pub count : length l.machine.circuit.registers ≡ length start.circuit.registers
    pub room : length l.machine.circuit.names ≤ length (bare c).names + length l.enables
    pub all : AreLifted c l.machine l.enables

  -- the enable net of a gating cell
  enable_used : (k : ℕ) (g : GatingCell ℕ) → slice_get c.gaters k ≡ Some g → is_in (used_nets c) g.enable ≡ true
  enable_used k g at = asked_is_used c k g.enable g at (or_left (nat_eq g.enable g.enable) (is_in (option_to_list g.test) g.enable) (eq-eqb g.enable g.enable refl))

  pub enable_is_net : (k : ℕ) (g : GatingCell ℕ) → slice_get c.gaters k ≡ Some g → IsNet start (number_of c g.enable)
  enable_is_net k g at = record {
    below = number_within c can.netlist g.enable (used_kept c can.netlist g.enable (enable_used k g at));
    apart = λ clk.
        let old = mapped_at (number_of c) c.clock (number_of c g.enable) clk in
        let same : old.0 ≡ g.enable = same_number c can.netlist old.0 g.enable (clock_kept c can.netlist old.0 old.1) (used_kept c can.netlist g.enable (enable_used k g at)) old.2 in
        both_ways (is_in (used_nets c) old.0) (good.apart old.0 (is_in_left (option_to_list c.clock) (gater_outputs c) old.0 (from_option c.clock old.0 old.1))) (ap (is_in (used_nets c)) same ∙ enable_used k g at);
  }

  -- adding a gate takes at most one net, and where there is room it meets no limit
  grown : (m : MachineData) (inputs : List ℕ) (o : Option ℕ) → length (or_push m (push_gate m And2 inputs) o).machine.circuit.names ≤ suc (length m.circuit.names)
  grown m inputs None = let a = length-append m.circuit.names (next_name m ∷ []) in omega (arith, a)
  grown m inputs (Some net) = omega arith

  unlimited : (o : Option ℕ) (limit : Option Limit) → limit ≡ None → unless_found o limit ≡ None
  unlimited None limit is = is
  unlimited (Some net) limit is = refl

  has_room : (m : MachineData) → length m.circuit.names < MOST_NETS → nets_limit m ≡ None
  has_room m small = ap (λ b. cond b None (Some Nets)) (lt-ltb (length m.circuit.names) MOST_NETS small)

  module _ (l : Lifting) (g : GatingCell ℕ) (k : ℕ) (at : slice_get c.gaters k ≡ Some g) (pin : (c.clock ≡ Some g.clock) ⊎ (is_in (taken l.enables) g.clock ≡ true)) (is : Lifts l) (few : length l.enables < length c.gaters) where
    abbrev m : MachineData
    m = l.machine

    abbrev own : ℕ
    own = number_of c g.enable

    own_net : IsNet m own
    own_net = net_kept start m is.extends own (enable_is_net k g at)

    own_below : (j : ℕ) (h : GatingCell ℕ) → slice_get c.gaters j ≡ Some h → number_of c h.enable < length m.circuit.names
    own_below j h there = (net_kept start m is.extends (number_of c h.enable) (enable_is_net j h there)).below

    module _ (e : ℕ) (under : enable_under l.enables g.clock ≡ Some e) where
      parent_net : IsNet m e
      parent_net = enable_net c m l.enables g.clock e is.all under

      fits : GateFits m And2 (e ∷ own ∷ [])
      fits = record {
        count = refl;
        nets = λ net among. elim (or_cases (nat_eq net e) (is_in (own ∷ []) net) among) [
          | inl here ↦ subst (IsNet m) (sym (eqb-true net e here)) parent_net
          | inr later ↦ subst (IsNet m) (sym (in_one net own later)) own_net
        ];
      }

      room : length m.circuit.names < MOST_NETS
      room = omega (arith, is.room, few, bare_long c can.netlist, can.netlist.nets)

      has : HasGate m And2 (e ∷ own ∷ []) (add_gate m And2 (e ∷ own ∷ []))
      has = gate_there m And2 (e ∷ own ∷ []) is.machine fits (unlimited (find_gate m And2 (e ∷ own ∷ [])) (nets_limit m) (has_room m room))

      abbrev n : MachineData
      n = (add_gate m And2 (e ∷ own ∷ [])).machine

      chained_lifts : Lifts (with_entry l.enables g.output (add_gate m And2 (e ∷ own ∷ [])))
      chained_lifts = record {
        machine = has.good;
        extends = extends_then start m n is.extends has.extends;
        count = has.registers ∙ is.count;
        room = omega (arith, is.room, grown m (e ∷ own ∷ []) (find_gate m And2 (e ∷ own ∷ [])));
        all = (
          record {
            number = k;
            gater = g;
            at = at;
            output = refl;
            pin = inr (e, under);
            is_net = has.is_net;
            shows = λ s x long ins.
                let vs = values n s x in
                let wide = (settled n has.good s x long ins).long in
                has.shows s x long ins
                ∙ (ap (cover_value and_cover) (values_two vs e own (omega (arith, wide, (net_kept m n has.extends e parent_net).below)) (omega (arith, wide, (net_kept m n has.extends own own_net).below)))
                ∙ (and_value (bit vs e) (bit vs own) ∙ sym (ap (λ o. load vs o && bit vs own) under)));
          },
          all_still_lifted c m n has.extends has.registers own_below l.enables is.all,
        );
      }

    pub one_lifts : Lifts (lift_one c l g)
    one_lifts = go (enable_under l.enables g.clock) refl
      where
        go : (o : Option ℕ) → enable_under l.enables g.clock ≡ o → Lifts (with_entry l.enables g.output (chained m o own))
        go None under = record {
          machine = is.machine;
          extends = is.extends;
          count = is.count;
          room = omega (arith, is.room);
          all = (
            record {
              number = k;
              gater = g;
              at = at;
              output = refl;
              pin = elim pin [
                | inl clk ↦ inl clk
                | inr before ↦ let found = taken_found l.enables g.clock before in absurd (let z : None ≡ Some found.0 = sym under ∙ found.1 in cc)
              ];
              is_net = own_net;
              shows = λ s x long ins. sym (ap (λ o. load (values m s x) o && bit (values m s x) own) under);
            },
            is.all,
          );
        }
        go (Some e) under = chained_lifts e under

  lift_all : (l : Lifting) (gs : List (GatingCell ℕ)) → Lifts l → Ready c (taken l.enables) gs → length l.enables + length gs ≤ length c.gaters → Lifts (lift_each c l gs)
  lift_all l [] is ready few = is
  lift_all l (g ∷ gs) is ready few = lift_all (lift_one c l g) gs (one_lifts l g ready.0.0 ready.0.1 ready.1 is (omega (arith, few))) ready.2 (omega (arith, few))

  pub start_lifts : Lifts (unlifted c prefix)
  start_lifts = record { machine = bare_machine c prefix can; extends = extends_self start; count = refl; room = omega arith; all = tt }

  pub lifting_lifts : Lifts (lifting c prefix)
  lifting_lifts = lift_all (unlifted c prefix) (by_depth c) start_lifts (ready c good) (let a = depths_few c in omega (arith, a))
