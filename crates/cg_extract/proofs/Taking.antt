-- Gating cells that are taken one after another, with a table of their enables.
use Rattle.std.proofs.Common.{◌≡◌, ℕ, suc, ◌+◌, ◌-◌, ◌<◌, ◌≤◌, true, cond, List, [], ◌∷◌, ◌++◌, length, take, drop, replicate, set}
use Rattle.std.proofs.Common.{slice_get, nat_eq, Option, None, Some, refl, ap, sym, ◌∙◌, subst, inl, inr, arith, append_assoc}
use Rattle.std.specs.List.{cons_option}
use Rattle.std.specs.Option.{option_flatten}
use Rattle.std.proofs.Math.Seq.{set-append_seam}
use Rattle.std.proofs.lemmas.Bool.{both_ways, cases_Bool, eq-eqb, eqb-true}
use Rattle.std.proofs.lemmas.List.{append-nil, drop_all, length-map, length-replicate, length-set, length-take-le, map-append}
use Rattle.std.proofs.lemmas.List.{take-append-drop, take_all}
use Rattle.std.proofs.lemmas.Option.{slice_get_within}
use Rattle.cg_netlist.specs.Chains.{chain, chain_cell, gater_order}
use Rattle.cg_netlist.specs.Circuit.{Circuit, GatingCell, RegisterCell, gater_outputs}
use Rattle.cg_net.specs.NetSets.{is_in}
use Rattle.cg_netlist.specs.Moment.{values_at}
use Rattle.cg_netlist.proofs.CellFits.{walk_within}
use Rattle.cg_netlist.proofs.Clocks.{pin_clocked}
use Rattle.cg_netlist.proofs.DriverTable.{gater_net_within}
use Rattle.cg_netlist.proofs.Given.{clock_given, driver_within, gater_given, given_driver, in_option}
use Rattle.cg_net.proofs.Members.{is_in_cases, member_at}
use Rattle.cg_net.proofs.TableLemmas.{slice_get-set_other, slice_get-set_same, take_next}
use Rattle.cg_netlist.proofs.Used.{asked_is_used}
use Rattle.cg_netlist.proofs.Values.{element_at, values_at-append}
use Rattle.cg_netlist.proofs.Walks.{drop_at}
use Rattle.cg_machine.proofs.Extended.{net_kept}
use Rattle.cg_machine.proofs.Started.{none_anywhere}
use Rattle.cg_machine.specs.Added.{Added, find_gate, or_push, push_gate}
use Rattle.cg_cell.specs.declared.fit.FitKind.TheVariants.{And2}
use Rattle.cg_machine.specs.Machine.{IsNet, MachineData}
use Rattle.cg_machine.specs.Run.{with_enables}
use Rattle.cg_machine.specs.Start.{machine_of}
use Rattle.std.specs.Option.{option_to_list}
use Rattle.cg_extract.proofs.Bare.{bare_long}
use Rattle.cg_extract.proofs.Depths.{Ready, depths_few, ready}
use Rattle.cg_extract.proofs.Kept.{used_kept}
use Rattle.cg_extract.proofs.LiftedMachine.{start_count}
use Rattle.cg_extract.proofs.Lifts.{Lifts, enable_is_net, enable_net, one_lifts, start, start_lifts, taken}
use Rattle.cg_extract.specs.Lifted.{CanExtract, Lifting, bare, by_depth, chained, enable_under, kept_nets, lift_each, lift_one}
use Rattle.cg_extract.specs.Lifted.{lifting, number_of, unlifted}
use Rattle.cg_extract.specs.inner.Taking.{CanTake, IsEnableTable, IsSoFar, IsTaken, entry_at, given, table_enables, taken_into}
use Rattle.cg_extract.specs.inner.Taking.{taken_so_far}

each_append : (c : Circuit) (l : Lifting) (xs ys : List (GatingCell ℕ)) → lift_each c l (xs ++ ys) ≡ lift_each c (lift_each c l xs) ys
each_append c l [] ys = refl
each_append c l (x ∷ xs) ys = each_append c (lift_one c l x) xs ys

-- no machine's enables change while gating cells are taken
same_enables : (m : MachineData) (o : Option ℕ) (own : ℕ) → (chained m o own).machine.enables ≡ m.enables
same_enables m None own = refl
same_enables m (Some e) own = go (find_gate m And2 (e ∷ own ∷ []))
  where
    go : (o : Option ℕ) → (or_push m (push_gate m And2 (e ∷ own ∷ [])) o).machine.enables ≡ m.enables
    go None = refl
    go (Some net) = refl

each_free : (c : Circuit) (l : Lifting) (gs : List (GatingCell ℕ)) → (lift_each c l gs).machine.enables ≡ l.machine.enables
each_free c l [] = refl
each_free c l (g ∷ gs) = each_free c (lift_one c l g) gs ∙ same_enables l.machine (enable_under l.enables g.clock) (number_of c g.enable)

-- what adding a gate leaves of the prefix
same_prefix : (m : MachineData) (o : Option ℕ) (own : ℕ) → (chained m o own).machine.prefix ≡ m.prefix
same_prefix m None own = refl
same_prefix m (Some e) own = go (find_gate m And2 (e ∷ own ∷ []))
  where
    go : (o : Option ℕ) → (or_push m (push_gate m And2 (e ∷ own ∷ [])) o).machine.prefix ≡ m.prefix
    go None = refl
    go (Some net) = refl

module _ (c : Circuit) (prefix : List ℕ) (can : CanExtract c prefix) where
  abbrev order : List ℕ
  order = gater_order c.gaters

  -- some are taken, and the others stay ready
  front_lifts : (l : Lifting) (gs rest : List (GatingCell ℕ)) → Lifts c prefix can l → Ready c (taken l.enables) (gs ++ rest) → length l.enables + length (gs ++ rest) ≤ length c.gaters
      → Lifts c prefix can (lift_each c l gs) × Ready c (taken (lift_each c l gs).enables) rest × (length (lift_each c l gs).enables + length rest ≤ length c.gaters)
  front_lifts l [] rest is ready few = (is, ready, few)
  front_lifts l (g ∷ gs) rest is ready few = front_lifts (lift_one c l g) gs rest (one_lifts c prefix can l g ready.0.0 ready.0.1 ready.1 is (omega (arith, few))) ready.2 (omega (arith, few))

  -- at a place in the order
  order_gater : (i k : ℕ) → slice_get order i ≡ Some k → (g : GatingCell ℕ) × (slice_get c.gaters k ≡ Some g)
  order_gater i k at =
      let below = walk_within (chain c.gaters) k (member_at order i k at) in
      let long = length-map c.gaters chain_cell in
      element_at c.gaters k (omega (arith, below, long))

  split : (i k : ℕ) (g : GatingCell ℕ) → slice_get order i ≡ Some k → slice_get c.gaters k ≡ Some g → by_depth c ≡ values_at c.gaters (take i order) ++ g ∷ values_at c.gaters (drop (i + 1) order)
  split i k g at is =
      ap (values_at c.gaters) (sym (take-append-drop i order) ∙ ap (λ ks. take i order ++ ks) (drop_at order i k at))
      ∙ (values_at-append c.gaters (take i order) (k ∷ drop (i + 1) order)
      ∙ ap (λ o. values_at c.gaters (take i order) ++ cons_option o (values_at c.gaters (drop (i + 1) order))) is)

  at_place : (i k : ℕ) (g : GatingCell ℕ) → slice_get order i ≡ Some k → slice_get c.gaters k ≡ Some g
      → Lifts c prefix can (taken_so_far c prefix (take i order)) × Ready c (taken (taken_so_far c prefix (take i order)).enables) (g ∷ values_at c.gaters (drop (i + 1) order))
      × (length (taken_so_far c prefix (take i order)).enables + length (g ∷ values_at c.gaters (drop (i + 1) order)) ≤ length c.gaters)
  at_place i k g at is =
      let parts = split i k g at is in
      front_lifts (unlifted c prefix) (values_at c.gaters (take i order)) (g ∷ values_at c.gaters (drop (i + 1) order)) (start_lifts c prefix can)
      (subst (Ready c []) parts (ready c can.netlist.well_formed)) (let few = depths_few c in let same = ap length parts in omega (arith, few, same))

  pin_within : (k : ℕ) (g : GatingCell ℕ) → slice_get c.gaters k ≡ Some g → g.clock < length c.names
  pin_within k g at =
      let driven = can.netlist.well_formed.driven in
      elim (is_in_cases (option_to_list c.clock) (gater_outputs c) g.clock (pin_clocked c can.netlist.well_formed k g at)) [
        | inl clk ↦ driver_within c driven g.clock (given_driver c g.clock (clock_given c g.clock (in_option c.clock g.clock clk)))
        | inr gate ↦ driver_within c driven g.clock (given_driver c g.clock (gater_given c g.clock gate))
      ]

  pub can_take : (i k : ℕ) (m : MachineData) (table : List (Option ℕ)) → slice_get order i ≡ Some k → IsSoFar c prefix (take i order) m table → CanTake c m table k
  can_take i k m table at so_far =
      let g = order_gater i k at in
      let l = taken_so_far c prefix (take i order) in
      let there = at_place i k g.0 at g.1 in
      let lifts = there.0 in
      let pin = pin_within k g.0 g.1 in
      let out = gater_net_within c can.netlist.well_formed.driven k g.0 g.1 in
      let own = net_kept (start c prefix can) l.machine lifts.extends (number_of c g.0.enable) (enable_is_net c prefix can k g.0 g.1) in
      record {
        gater = g.0;
        at = g.1;
        kept = enable_kept k g.0 g.1;
        own = subst (λ n. IsNet n (number_of c g.0.enable)) (sym so_far.machine) own;
        pin = omega (arith, pin, so_far.entries.long);
        output = omega (arith, out, so_far.entries.long);
        parent = λ e is. subst (λ n. IsNet n e) (sym so_far.machine) (enable_net c l.machine l.enables g.0.clock e lifts.all (sym (so_far.entries.tells g.0.clock pin) ∙ is));
        room = (let long = bare_long c can.netlist in let same = ap (λ (n : MachineData). length n.circuit.names) so_far.machine in omega (arith, lifts.room, there.2, long, same, can.netlist.nets));
      }
    where
      enable_kept : (k : ℕ) (g : GatingCell ℕ) → slice_get c.gaters k ≡ Some g → is_in (kept_nets c) g.enable ≡ true
      enable_kept k g at = used_kept c can.netlist g.enable (asked_is_used c k g.enable g at (member_at (g.enable ∷ option_to_list g.test) 0 g.enable refl))

  -- one more
  table_more : (entries : List (ℕ × ℕ)) (table : List (Option ℕ)) (out net : ℕ) → out < length table → IsEnableTable c entries table → IsEnableTable c ((out, net) ∷ entries) (set table out (Some net))
  table_more entries table out net within is = record {
    long = length-set table out (Some net) ∙ is.long;
    tells = λ x below. elim (cases_Bool (nat_eq x out)) [
      | inl here ↦
          let same : x ≡ out = eqb-true x out here in
          ap option_flatten (ap (slice_get (set table out (Some net))) same ∙ slice_get-set_same table out (Some net) within) ∙ sym (ap (λ b. cond b (Some net) (enable_under entries x)) here)
      | inr other ↦
          ap option_flatten (slice_get-set_other table out x (Some net) (λ same. both_ways (nat_eq x out) other (eq-eqb x out same))) ∙ (is.tells x below ∙ sym (ap (λ b. cond b (Some net) (enable_under entries x)) other))
    ];
  }

  pub taken_more : (i k : ℕ) (m n : MachineData) (table new : List (Option ℕ)) → slice_get order i ≡ Some k → IsSoFar c prefix (take i order) m table → IsTaken c m table k n new → IsSoFar c prefix (take (i + 1) order) n new
  taken_more i k m n table new at so_far is =
      let l = taken_so_far c prefix (take i order) in
      let g = is.gater in
      let own = number_of c g.enable in
      let out = gater_net_within c can.netlist.well_formed.driven k g is.at in
      let under : entry_at table g.clock ≡ enable_under l.enables g.clock = so_far.entries.tells g.clock (pin_within k g is.at) in
      let added : taken_into c m table g ≡ chained l.machine (enable_under l.enables g.clock) own = ap (λ d. chained d (entry_at table g.clock) own) so_far.machine ∙ ap (λ o. chained l.machine o own) under in
      let next : lift_one c l g ≡ taken_so_far c prefix (take (i + 1) order) =
      sym (each_append c (unlifted c prefix) (values_at c.gaters (take i order)) (g ∷ [])
      ∙ refl) ∙ ap (lift_each c (unlifted c prefix)) (sym (ap (values_at c.gaters) (take_next order i k at) ∙ (values_at-append c.gaters (take i order) (k ∷ []) ∙ ap (λ o. values_at c.gaters (take i order) ++ cons_option o []) is.at))) in
      record {
        machine = is.made ∙ (ap (λ (a : Added). a.machine) added ∙ ap (λ (l : Lifting). l.machine) next);
        entries = subst (λ (l : Lifting). IsEnableTable c l.enables new) next
            (subst (IsEnableTable c ((g.output, (chained l.machine (enable_under l.enables g.clock) own).net) ∷ l.enables)) (sym (is.put ∙ ap (λ (a : Added). set table g.output (Some a.net)) added))
            (table_more l.enables table g.output (chained l.machine (enable_under l.enables g.clock) own).net (omega (arith, out, so_far.entries.long)) so_far.entries));
      }

  -- before all, and after all
  pub none_taken : (m : MachineData) (table : List (Option ℕ)) → m ≡ machine_of (bare c) prefix → table ≡ replicate (length c.names) None → IsSoFar c prefix [] m table
  none_taken m table is empty = record {
    machine = is;
    entries = record { long = ap length empty ∙ length-replicate (length c.names) None; tells = λ net below. ap (λ t. entry_at t net) empty ∙ none_anywhere (length c.names) net };
  }

  pub all_taken : (i : ℕ) (m : MachineData) (table : List (Option ℕ)) → length order ≤ i → IsSoFar c prefix (take i order) m table → (m ≡ (lifting c prefix).machine) × IsEnableTable c (lifting c prefix).enables table
  all_taken i m table past so_far =
      let whole : take i order ≡ order = take_all i order past in
      (so_far.machine ∙ ap (λ ks. (taken_so_far c prefix ks).machine) whole, subst (λ ks. IsEnableTable c (taken_so_far c prefix ks).enables table) whole so_far.entries)

  -- no register has an enable yet
  pub lifting_free : (lifting c prefix).machine.enables ≡ replicate (length c.registers) None
  lifting_free = each_free c (unlifted c prefix) (by_depth c) ∙ ap (λ k. replicate k None) (start_count c prefix can)

-- registers get their enables one after another
pub given_next : (xs rest : List (Option ℕ)) (k : ℕ) (o : Option ℕ) → length xs ≡ k → given (xs ++ None ∷ rest) k o ≡ xs ++ o ∷ rest
given_next xs rest k None long = refl
given_next xs rest k (Some e) long = ap (λ j. set (xs ++ None ∷ rest) j (Some e)) (sym long) ∙ set-append_seam xs None rest (Some e)

-- the enables after the first k registers were given theirs
abbrev pub enables_so_far : List (Option ℕ) → List (RegisterCell ℕ ℕ) → ℕ → List (Option ℕ)
enables_so_far table registers k = table_enables table (take k registers) ++ replicate (length registers - k) None

pub enables_more : (table : List (Option ℕ)) (registers : List (RegisterCell ℕ ℕ)) (k : ℕ) (r : RegisterCell ℕ ℕ) → slice_get registers k ≡ Some r
    → given (enables_so_far table registers k) k (entry_at table r.clock) ≡ enables_so_far table registers (k + 1)
enables_more table registers k r at =
    let within = slice_get_within registers k r at in
    let left : length registers - k ≡ suc (length registers - (k + 1)) = omega (arith, within) in
    let front : length (table_enables table (take k registers)) ≡ k = length-map (take k registers) (λ (r : RegisterCell ℕ ℕ). entry_at table r.clock) ∙ length-take-le k registers (omega (arith, within)) in
    ap (λ j. given (table_enables table (take k registers) ++ replicate j None) k (entry_at table r.clock)) left
    ∙ (given_next (table_enables table (take k registers)) (replicate (length registers - (k + 1)) None) k (entry_at table r.clock) front
    ∙ (sym (append_assoc (table_enables table (take k registers)) (entry_at table r.clock ∷ []) (replicate (length registers - (k + 1)) None))
    ∙ ap (λ xs. xs ++ replicate (length registers - (k + 1)) None) (sym (ap (table_enables table) (take_next registers k r at) ∙ map-append (λ (r : RegisterCell ℕ ℕ). entry_at table r.clock) (take k registers) (r ∷ [])))))

pub enables_all : (table : List (Option ℕ)) (registers : List (RegisterCell ℕ ℕ)) (k : ℕ) → length registers ≤ k → enables_so_far table registers k ≡ table_enables table registers
enables_all table registers k past =
    ap (λ rs. table_enables table rs ++ replicate (length registers - k) None) (take_all k registers past)
    ∙ (ap (λ j. table_enables table registers ++ replicate j None) (let none : length registers - k ≡ 0 = omega (arith, past) in none) ∙ append-nil (table_enables table registers))

-- a net is one whatever the enables are
pub net_enabled : (m : MachineData) (enables : List (Option ℕ)) (net : ℕ) → IsNet m net → IsNet (with_enables m enables) net
net_enabled m enables net is = record { below = is.below; apart = is.apart }

-- a list that was written over in place
pub written : {X : Type 0} (len : ℕ) (new items : List X) → length new ≡ length items → len ≡ length items → take len (new ++ drop (length new) items) ≡ new
written len new items same is =
    ap (λ rest. take len (new ++ rest)) (drop_all (length new) items (omega (arith, same)))
    ∙ (ap (take len) (append-nil new) ∙ take_all len new (omega (arith, same, is)))
