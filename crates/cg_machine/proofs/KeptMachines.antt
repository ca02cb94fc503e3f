-- What is kept goes on to make a machine: at the start, and after each addition.
use Rattle.std.proofs.Common.{◌≡◌, ℕ, ◌+◌, ◌<◌, false, List, [], ◌∷◌, ◌++◌, length, replicate, slice_set, nat_eq, IsSome, Option}
use Rattle.std.proofs.Common.{None, Some, OnErr, OnOk, Result, Ok, Err, is_ok, if◌then◌else◌, slice_get, take, unwrap_or, refl, ap}
use Rattle.std.proofs.Common.{sym, ◌∙◌, subst, arith}
use Rattle.std.specs.List.{find}
use Rattle.std.specs.Option.{option_map}
use Rattle.std.proofs.lemmas.Option.{none-some}
use Rattle.std.proofs.lemmas.List.{length-append, length-replicate, length-set, take_all}
use Rattle.std.proofs.Math.Seq.{take-append_seam}
use Rattle.cg_limit.specs.declared.TheConstants.{MOST_NETS, MOST_REGISTERS}
use Rattle.cg_cell.specs.declared.fit.FitKind.{FitKind}
use Rattle.cg_netlist.specs.Circuit.{Circuit}
use Rattle.cg_machine.specs.Added.{find_delay, next_gate, next_name, next_net, push_delay, push_gate, set_enable}
use Rattle.cg_machine.specs.Extends.{GateFits}
use Rattle.cg_machine.specs.Gates.{AddedGate, gate_cell}
use Rattle.cg_machine.proofs.AddedDrivers.{added_cell, added_register}
use Rattle.cg_netlist.specs.declared.driver.Driver.{Driver}
use Rattle.cg_netlist.specs.declared.driver.Driver.TheVariants.{Cell, Register}
use Rattle.cg_machine.specs.inner.Kept.{AreAdded, IsKept, kept}
use Rattle.cg_machine.specs.Machine.{IsMachine, IsNet, MachineData}
use Rattle.cg_machine.specs.Start.{CanStart, machine_of}
use Rattle.cg_machine.proofs.Grown.{delay_pushed, enable_set, gate_pushed}
use Rattle.cg_machine.proofs.Keeping.{kept_delay, kept_enable, kept_find, kept_gate, kept_start, names_count}
use Rattle.cg_machine.proofs.Started.{start_is_machine}
use Rattle.cg_machine.proofs.There.{some_clock}

module _ (c : Circuit) (name prefix : List ℕ) (es : List (Option ℕ)) (gs : List AddedGate) (ds : List (ℕ × ℕ)) (ts : List Driver) (named : name ≡ prefix) (none : es ≡ replicate (length c.registers) None) (no_gates : gs ≡ []) (no_delays : ds ≡ []) (no_drivers : ts ≡ []) where
  pub start_view : kept c name es gs ds ≡ machine_of c prefix
  start_view =
      ap (λ n. kept c n es gs ds) named ∙ (ap (λ g. kept c prefix es g ds) no_gates ∙ (ap (λ d. kept c prefix es [] d) no_delays ∙ kept_start c prefix es none))

  pub start_kept : CanStart c prefix → IsKept c name es gs ds ts
  start_kept can = record {
    netlist = can.netlist;
    enables_long = ap length none ∙ length-replicate (length c.registers) None;
    machine = subst IsMachine (sym start_view) (start_is_machine c prefix can);
    added = record {
      long = omega (arith, ap length no_drivers, ap (λ (m : MachineData). length m.circuit.names) start_view);
      each = λ k d at. absurd (none-some d (ap (λ l. slice_get l k) (sym no_drivers) ∙ at));
    };
  }

none_under : {A B : Type 0} (f : A → B) (o : Option A) → option_map f o ≡ None → o ≡ None
none_under f None none = refl
none_under f (Some a) none = absurd (cc)

module _ (c : Circuit) (prefix : List ℕ) (es : List (Option ℕ)) (gs : List AddedGate) (ds : List (ℕ × ℕ)) (ts : List Driver) (keeps : IsKept c prefix es gs ds ts) (now : MachineData) (is : kept c prefix es gs ds ≡ now) where
  abbrev m : MachineData
  m = kept c prefix es gs ds

  -- there is a driver for each addition
  table_long : length ts ≡ length gs + length ds
  table_long = omega (arith, keeps.added.long, names_count c prefix es gs ds)

  -- the table that was not taken a driver into
  pub same_table : {E : Type 0} (r : Result (Unit {0}) E) (d : Driver) (new : List Driver) → new ≡ (if is_ok r then ts ++ d ∷ [] else ts) → OnErr r (IsKept c prefix es gs ds new)
  same_table (Ok x) d new is = tt
  same_table (Err e) d new is = subst (IsKept c prefix es gs ds) (sym is) keeps

  pub now_machine : IsMachine now
  now_machine = subst IsMachine is keeps.machine

  -- one more gate
  module _ (kind : FitKind) (inputs : List ℕ) (output : ℕ) (fits : GateFits now kind inputs) (room : length now.circuit.names < MOST_NETS) (next : output ≡ length now.circuit.names) where
    abbrev gate : AddedGate
    gate = record { kind = kind; inputs = inputs; output = output }

    gate_is : gate ≡ next_gate m kind inputs
    gate_is =
        let number : output ≡ length m.circuit.names = next ∙ ap (λ (n : MachineData). length n.circuit.names) (sym is) in
        λ i. record { kind = kind; inputs = inputs; output = number i }

    more_gates : kept c prefix es (gs ++ gate ∷ []) ds ≡ push_gate m kind inputs
    more_gates = ap (λ g. kept c prefix es (gs ++ g ∷ []) ds) gate_is ∙ kept_gate c prefix es gs ds kind inputs

    pub gate_view : kept c prefix es (gs ++ gate ∷ []) ds ≡ push_gate now kind inputs
    gate_view = more_gates ∙ ap (λ n. push_gate n kind inputs) is

    pub gate_kept : (k : ℕ) → k ≡ length now.circuit.cells → IsKept c prefix es (gs ++ gate ∷ []) ds (ts ++ Cell k ∷ [])
    gate_kept k last = record {
      netlist = keeps.netlist;
      enables_long = keeps.enables_long;
      machine = subst IsMachine (sym gate_view) (gate_pushed now now_machine kind inputs fits room);
      added = subst (λ (n : MachineData). AreAdded n.circuit (length c.names) (ts ++ Cell k ∷ [])) (sym more_gates)
          (added_cell m.circuit (length c.names) ts (next_name m) (gate_cell (next_gate m kind inputs)) k refl (last ∙ ap (λ (n : MachineData). length n.circuit.cells) (sym is)) keeps.added);
    }

  -- after a gate was appended, or refused
  module _ (kind : FitKind) (inputs items : List ℕ) (output : ℕ) (taken : items ≡ inputs) (fits : GateFits now kind inputs) (room : length now.circuit.names < MOST_NETS) (next : output ≡ length now.circuit.names) (k : ℕ) (last : k ≡ length now.circuit.cells) (new : List AddedGate) where
    abbrev pushed : List AddedGate
    pushed = gs ++ record { kind = kind; inputs = items; output = output } ∷ []

    with_items : (new ≡ pushed) → new ≡ gs ++ record { kind = kind; inputs = inputs; output = output } ∷ []
    with_items is = is ∙ ap (λ xs. gs ++ record { kind = kind; inputs = xs; output = output } ∷ []) taken

    pub gate_after : {E : Type 0} (r : Result (Unit {0}) E) → OnOk r (new ≡ pushed) → OnErr r (new ≡ gs) → (table cut : List Driver) (n : ℕ) → table ≡ ts ++ Cell k ∷ [] → n ≡ length new + length ds → cut ≡ take n table → IsKept c prefix es new ds cut
    gate_after (Ok x) ok err table cut n noted count is =
        let all : take n (ts ++ Cell k ∷ []) ≡ ts ++ Cell k ∷ [] = take_all n (ts ++ Cell k ∷ []) (omega (arith, count, table_long, length-append ts (Cell k ∷ []), ap length ok, length-append gs (record { kind = kind; inputs = items; output = output } ∷ []))) in
        subst (IsKept c prefix es new ds) (sym (is ∙ (ap (take n) noted ∙ all))) (subst (λ g. IsKept c prefix es g ds (ts ++ Cell k ∷ [])) (sym (with_items ok)) (gate_kept kind inputs output fits room next k last))
    gate_after (Err e) ok err table cut n noted count is =
        let len : n ≡ length ts = omega (arith, count, table_long, ap length err) in
        subst (IsKept c prefix es new ds) (sym (is ∙ (ap (take n) noted ∙ (ap (λ j. take j (ts ++ Cell k ∷ [])) len ∙ take-append_seam ts (Cell k ∷ []))))) (subst (λ g. IsKept c prefix es g ds ts) (sym err) keeps)

    pub gate_view_after : {E : Type 0} (r : Result (Unit {0}) E) → OnOk r (new ≡ pushed) → OnOk r (kept c prefix es new ds ≡ push_gate now kind inputs)
    gate_view_after (Ok x) ok = ap (λ g. kept c prefix es g ds) (with_items ok) ∙ gate_view kind inputs output fits room next
    gate_view_after (Err e) ok = tt

  -- one more delay register
  pub not_there : (net : ℕ) → find_delay now net ≡ None → find (λ delay. nat_eq net delay.0) ds ≡ None
  not_there net none = none_under (λ (delay : ℕ × ℕ). delay.1) (find (λ (delay : ℕ × ℕ). nat_eq net delay.0) ds) (sym (kept_find c prefix es gs ds net) ∙ (ap (λ n. find_delay n net) is ∙ none))

  module _ (net output : ℕ) (clock : IsSome now.circuit.clock) (is_net : IsNet now net) (room : length now.circuit.names < MOST_NETS) (space : length now.circuit.registers < MOST_REGISTERS) (next : output ≡ length now.circuit.names) where
    more_delays : kept c prefix es gs (ds ++ (net, output) ∷ []) ≡ push_delay m net
    more_delays =
        let number : output ≡ length m.circuit.names = next ∙ ap (λ (n : MachineData). length n.circuit.names) (sym is) in
        ap (λ o. kept c prefix es gs (ds ++ (net, o) ∷ [])) number ∙ kept_delay c prefix es gs ds net

    pub delay_view : kept c prefix es gs (ds ++ (net, output) ∷ []) ≡ push_delay now net
    delay_view = more_delays ∙ ap (λ n. push_delay n net) is

    pub delay_kept : (r : ℕ) → r ≡ length now.circuit.registers → IsKept c prefix es gs (ds ++ (net, output) ∷ []) (ts ++ Register r false ∷ [])
    delay_kept r last =
        let some = some_clock now.circuit.clock clock in
        record {
          netlist = keeps.netlist;
          enables_long = keeps.enables_long;
          machine = subst IsMachine (sym delay_view) (delay_pushed now now_machine net some.0 is_net some.1 room space);
          added = subst (λ (n : MachineData). AreAdded n.circuit (length c.names) (ts ++ Register r false ∷ [])) (sym more_delays)
              (added_register m.circuit (length c.names) ts (next_name m) (unwrap_or c.clock 0) net (next_net m) r refl (last ∙ ap (λ (n : MachineData). length n.circuit.registers) (sym is)) keeps.added);
        }

  -- after a delay register was appended, or refused
  module _ (net output : ℕ) (clock : IsSome now.circuit.clock) (is_net : IsNet now net) (room : length now.circuit.names < MOST_NETS) (space : length now.circuit.registers < MOST_REGISTERS) (next : output ≡ length now.circuit.names) (reg : ℕ) (last : reg ≡ length now.circuit.registers) (new : List (ℕ × ℕ)) where
    pub delay_after : {E : Type 0} (r : Result (Unit {0}) E) → OnOk r (new ≡ ds ++ (net, output) ∷ []) → OnErr r (new ≡ ds) → (table cut : List Driver) (n : ℕ) → table ≡ ts ++ Register reg false ∷ [] → n ≡ length gs + length new → cut ≡ take n table
        → IsKept c prefix es gs new cut
    delay_after (Ok x) ok err table cut n noted count is =
        let all : take n (ts ++ Register reg false ∷ []) ≡ ts ++ Register reg false ∷ [] = take_all n (ts ++ Register reg false ∷ []) (omega (arith, count, table_long, length-append ts (Register reg false ∷ []), ap length ok, length-append ds ((net, output) ∷ []))) in
        subst (IsKept c prefix es gs new) (sym (is ∙ (ap (take n) noted ∙ all))) (subst (λ d. IsKept c prefix es gs d (ts ++ Register reg false ∷ [])) (sym ok) (delay_kept net output clock is_net room space next reg last))
    delay_after (Err e) ok err table cut n noted count is =
        let len : n ≡ length ts = omega (arith, count, table_long, ap length err) in
        subst (IsKept c prefix es gs new) (sym (is ∙ (ap (take n) noted ∙ (ap (λ j. take j (ts ++ Register reg false ∷ [])) len ∙ take-append_seam ts (Register reg false ∷ []))))) (subst (λ d. IsKept c prefix es gs d ts) (sym err) keeps)

    pub delay_view_after : {E : Type 0} (r : Result (Unit {0}) E) → OnOk r (new ≡ ds ++ (net, output) ∷ []) → OnOk r (kept c prefix es gs new ≡ push_delay now net)
    delay_view_after (Ok x) ok = ap (kept c prefix es gs) ok ∙ delay_view net output clock is_net room space next
    delay_view_after (Err e) ok = tt

  -- another enable
  module _ (r net : ℕ) (own : r < now.own_registers) (is_net : IsNet now net) where
    below : r < length es
    below = let b : now.own_registers ≡ length c.registers = ap (λ (n : MachineData). n.own_registers) (sym is) in omega (arith, own, b, keeps.enables_long)

    pub enable_view : kept c prefix (slice_set es r (Some net)) gs ds ≡ set_enable now r net
    enable_view = kept_enable c prefix es gs ds r net below ∙ ap (λ n. set_enable n r net) is

    pub enable_kept : IsKept c prefix (slice_set es r (Some net)) gs ds ts
    enable_kept = record {
      netlist = keeps.netlist;
      enables_long = length-set es r (Some net) ∙ keeps.enables_long;
      machine = subst IsMachine (sym enable_view) (enable_set now now_machine r net own is_net);
      added = keeps.added;
    }
