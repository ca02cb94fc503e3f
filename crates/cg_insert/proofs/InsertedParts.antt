-- The inserted netlist is what the parts of the gated netlist say, and a builder may be told them.
use Rattle.std.proofs.Common.{◌≡◌, ◌≢◌, ℕ, zero, suc, ◌+◌, ◌<◌, ◌≤◌, ◌^◌, Bool, true, false, if◌then◌else◌, IsTrue, List, [], ◌∷◌}
use Rattle.std.proofs.Common.{◌++◌, map, length, take, slice_get, unwrap_or, Option, None, Some, nat_eq, nat_le, refl, ap, sym, ◌∙◌}
use Rattle.std.proofs.Common.{subst, inl, inr, arith, append_assoc}
use Rattle.std.specs.List.{All, AllByRecursion, IsDistinct}
use Rattle.std.specs.Option.{option_map, option_to_list}
use Rattle.std.proofs.lemmas.Bool.{both_ways, cases_Bool, eq-eqb, false_from_ne_true, leb-true, or_left, or_right}
use Rattle.std.proofs.lemmas.List.{length-map, map-append}
use Rattle.cg_limit.specs.declared.TheConstants.{MOST_NETS, MOST_REGISTERS}
use Rattle.cg_cell.specs.Cell.{CellData}
use Rattle.cg_cell.specs.Name.{is_name}
use Rattle.cg_cell.specs.declared.fit.FitKind.{FitKind}
use Rattle.cg_cell.specs.declared.fit.FitKind.TheVariants.{Inv, And2, Or2}
use Rattle.cg_limit.specs.declared.Limit.{Limit}
use Rattle.cg_limit.specs.declared.Limit.TheVariants.{Nets}
use Rattle.cg_machine.specs.Gates.{AddedGate, HasInputs}
use Rattle.cg_machine.specs.Machine.{IsMachine, MachineData}
use Rattle.cg_net.proofs.Members.{distinct_cons, distinct_head, distinct_tail}
use Rattle.cg_netlist.proofs.NetOrder.{from_mapped}
use Rattle.cg_netlist.proofs.OrderedForm.{same_number, used_within}
use Rattle.cg_netlist.proofs.Used.{output_is_used}
use Rattle.cg_netlist_parts.proofs.Different.{apart_from, no_more}
use Rattle.cg_netlist.proofs.Each.{by_recursion, each_together, from_recursion}
use Rattle.cg_netlist_parts.proofs.KnownNames.{known_each, word_at}
use Rattle.cg_netlist_parts.proofs.SaidByItsParts.{none_left, says_own}
use Rattle.cg_netlist_parts.proofs.TakenFromNetlist.{taken_own}
use Rattle.cg_netlist.specs.Circuit.{Circuit, LogicCell, RegisterCell, net_order}
use Rattle.cg_net.specs.NetSets.{is_in}
use Rattle.cg_net.specs.Names.{NetName, is_known, net_name}
use Rattle.cg_netlist.specs.Netlist.{IsNetlist}
use Rattle.cg_netlist.specs.Ordered.{ordered, place_in}
use Rattle.cg_netlist.specs.WellFormed.{IsInNetOrder, IsWellFormed}
use Rattle.cg_netlist_builder.specs.Building.{fresh}
use Rattle.cg_netlist_parts.specs.Part.{Clock, GaterPart, Input, Logic, Output}
use Rattle.cg_netlist_parts.specs.Said.{nothing_said, said}
use Rattle.cg_netlist_parts.specs.Says.{AreTaken, Says, parts_from, register_part}
use Rattle.cg_netlist.specs.Wiring.{map_cell, map_gater, map_register, named}
use Rattle.cg_insert.proofs.GatedForm.{gated_formed, inputs_once}
use Rattle.cg_insert.proofs.GatedMoments.{names_count}
use Rattle.cg_insert.proofs.GatedParts.{registers_count}
use Rattle.cg_insert.proofs.Inserted.{insertion_is_formed}
use Rattle.cg_netlist_telling.proofs.OrderedNames.{named_ordered}
use Rattle.cg_netlist_telling.proofs.SaidAll.{map_twice, said_all}
use Rattle.cg_netlist_telling.proofs.ToldParts.{within_limit}
use Rattle.cg_insert.specs.Insert.{CanInsert, enables_of, first_gater_output, gated, inserted, insertion_limit, placed_gate, test_net}
use Rattle.cg_insert.specs.inner.GatedParts.{gated_gaters, gated_names, gated_parts, gated_registers}
use Rattle.cg_netlist_telling.specs.NamedParts.{clock_parts, clocked_parts}
use Rattle.cg_netlist_telling.specs.NamedParts.{gater_parts, cell_parts, input_parts, output_parts}
use Rattle.cg_netlist_telling.specs.Telling.{MayTell, with_parts}

-- names that are names are among those that they come from
known_from : (names : List NetName) (xs : List ℕ) → AllByRecursion (λ name. IsTrue (is_name name)) (map (net_name names) xs) → (x : NetName) → is_known (map (net_name names) xs) x ≡ true → is_known names x ≡ true
known_from names xs all x known = known_each (λ name. is_known names name ≡ true) (map (net_name names) xs) x (each_one xs all) known
  where
    there : (y : ℕ) → (o : Option NetName) → slice_get names y ≡ o → IsTrue (is_name (unwrap_or o [])) → is_known names (unwrap_or o []) ≡ true
    there y None at named = absurd (both_ways false refl named)
    there y (Some name) at named = word_at names y name at

    each_one : (ys : List ℕ) → AllByRecursion (λ name. IsTrue (is_name name)) (map (net_name names) ys) → AllByRecursion (λ name. is_known names name ≡ true) (map (net_name names) ys)
    each_one [] all = tt
    each_one (y ∷ ys) all = (there y (slice_get names y) refl all.0, each_one ys all.1)

-- a netlist in net order has no more nets than before
pub no_more_nets : (c : Circuit) → IsWellFormed (ordered c) → length (ordered c).names ≤ length c.names
no_more_nets c formed = no_more (ordered c).names c.names (apart_from (ordered c).names formed.different) (known_from c.names (net_order c) (by_recursion (λ name. IsTrue (is_name name)) (ordered c).names formed.names))

distinct_mapped : (f : ℕ → ℕ) (n : ℕ) → ((x y : ℕ) → x < n → y < n → f x ≡ f y → x ≡ y) → (xs : List ℕ) → ((x : ℕ) → is_in xs x ≡ true → x < n) → IsDistinct nat_eq xs → IsDistinct nat_eq (map f xs)
distinct_mapped f n same [] within once = once
distinct_mapped f n same (x ∷ xs) within once =
    let rest = distinct_mapped f n same xs (λ y among. within y (or_right (nat_eq y x) (is_in xs y) among)) (distinct_tail x xs once) in
    distinct_cons (f x) (map f xs) (false_from_ne_true (is_in (map f xs) (f x)) (λ there.
    let found = from_mapped f xs (f x) there in
    let e : found.0 ≡ x = same found.0 x (within found.0 (or_right (nat_eq found.0 x) (is_in xs found.0) found.1)) (within x (or_left (nat_eq x x) (is_in xs x) (eq-eqb x x refl))) found.2 in
    both_ways (is_in xs x) (distinct_head x xs once) (ap (is_in xs) (sym e) ∙ found.1))) rest

module _ (library : List CellData) (test : Option (List ℕ)) (m : MachineData) (good : IsMachine m) (can : CanInsert library test m) (small : insertion_limit test m ≡ None) (narrow : All (λ cell. length cell.inputs < 2 ^ 32) (take m.own_cells m.circuit.cells)) where
  abbrev g : Circuit
  g = gated library test m

  abbrev f : ℕ → ℕ
  f = place_in (net_order g)

  abbrev both : IsWellFormed (inserted library test m) × IsInNetOrder (inserted library test m)
  both = insertion_is_formed library test m good can

  nets_small : first_gater_output m test + length (enables_of m) ≤ MOST_NETS
  nets_small = elim (cases_Bool (nat_le (first_gater_output m test + length (enables_of m)) MOST_NETS)) [
    | inl within ↦ leb-true (first_gater_output m test + length (enables_of m)) MOST_NETS within
    | inr above ↦ absurd (let e : ◌≡◌ {A = Option Limit} (Some Nets) None = sym (ap {B = Option Limit} (λ b. if b then None else Some Nets) above) ∙ small in cc)
  ]

  few : length (inserted library test m).names ≤ MOST_NETS
  few = let a = no_more_nets g both.0 in let b = names_count library test m good can in let c = nets_small in omega (arith, a, b, c, Rattle.std.proofs.Common.length-append m.circuit.names (option_to_list test))

  gate_width : (kind : FitKind) (n : ℕ) → HasInputs kind n → n < 2 ^ 32
  gate_width Inv n has = omega (arith, has)
  gate_width And2 n has = omega (arith, has)
  gate_width Or2 n has = omega (arith, has)
  gate_width _ n has = absurd has

  gate_widths : (gs : List AddedGate) → AllByRecursion (λ (gate : AddedGate). HasInputs gate.kind (length gate.inputs)) gs → AllByRecursion (λ (cell : LogicCell ℕ). length cell.inputs < 2 ^ 32) (map (placed_gate library) gs)
  gate_widths [] all = tt
  gate_widths (gate ∷ gs) all = (gate_width gate.kind (length gate.inputs) all.0, gate_widths gs all.1)

  widths : (cells : List (LogicCell ℕ)) → AllByRecursion (λ (cell : LogicCell ℕ). length cell.inputs < 2 ^ 32) cells → AllByRecursion (λ (cell : LogicCell ℕ). length cell.inputs < 2 ^ 32) (map (map_cell f) cells)
  widths [] all = tt
  widths (cell ∷ cells) all = (let same = length-map cell.inputs f in let a = all.0 in omega (arith, same, a), widths cells all.1)

  pub is_netlist : IsNetlist (inserted library test m)
  is_netlist = record {
    well_formed = both.0;
    in_order = both.1;
    nets = few;
    registers = (let a = registers_count library test m good can in let b = length-map g.registers (map_register f) in omega (arith, a, b, good.few_registers));
    inputs = from_recursion (λ (cell : LogicCell ℕ). length cell.inputs < 2 ^ 32) (inserted library test m).cells (widths g.cells
        (each_together (λ (cell : LogicCell ℕ). length cell.inputs < 2 ^ 32) (take m.own_cells m.circuit.cells) (map (placed_gate library) m.gates) (by_recursion (λ (cell : LogicCell ℕ). length cell.inputs < 2 ^ 32) (take m.own_cells m.circuit.cells) narrow)
        (gate_widths m.gates (by_recursion (λ (gate : AddedGate). HasInputs gate.kind (length gate.inputs)) m.gates good.gates_fit))));
  }

  pub outputs_once : IsDistinct nat_eq (inserted library test m).outputs
  outputs_once =
      let formed = gated_formed library test m good can in
      let once = inputs_once library test m good can in
      distinct_mapped f (length g.names) (same_number g formed once) m.circuit.outputs (λ x among. used_within g formed once x (output_is_used g x among)) good.outputs_once

  -- the parts, kind by kind
  abbrev names : List NetName
  names = gated_names test m

  abbrev no : RegisterCell NetName NetName → Bool
  no r = false

  parts_are : parts_from no (named g) ≡ gated_parts (gated_names test m) library test m
  parts_are =
      let ins : List ℕ = m.circuit.inputs in
      let tests : List ℕ = option_to_list (test_net m test) in
      let own : List (LogicCell ℕ) = take m.own_cells m.circuit.cells in
      let gates : List (LogicCell ℕ) = map (placed_gate library) m.gates in
      let e1 : map (λ net. Input net) (map (net_name names) (ins ++ tests)) ≡ input_parts names ins ++ input_parts names tests =
      map_twice (λ net. Input net) (net_name names) (ins ++ tests) ∙ map-append (λ (net : ℕ). Input (net_name names net)) ins tests in
      let e2 : map (λ net. Output net) (map (net_name names) m.circuit.outputs) ≡ output_parts names m.circuit.outputs = map_twice (λ net. Output net) (net_name names) m.circuit.outputs in
      let e3 : map (λ net. Clock net) (option_to_list (option_map (net_name names) m.circuit.clock)) ≡ clock_parts names m.circuit.clock = clock_is m.circuit.clock in
      let e4 : map (λ cell. Logic cell) (map (map_cell (net_name names)) (own ++ gates)) ≡ cell_parts names own ++ cell_parts names gates =
      map_twice (λ cell. Logic cell) (map_cell (net_name names)) (own ++ gates) ∙ map-append (λ (cell : LogicCell ℕ). Logic (map_cell (net_name names) cell)) own gates in
      let e5 : map (λ gater. GaterPart gater) (map (map_gater (net_name names)) (gated_gaters library test m)) ≡ gater_parts names (gated_gaters library test m) = map_twice (λ gater. GaterPart gater) (map_gater (net_name names)) (gated_gaters library test m) in
      let e6 : map (register_part no) (map (map_register (net_name names)) (gated_registers test m)) ≡ clocked_parts names (gated_registers test m) = map_twice (register_part no) (map_register (net_name names)) (gated_registers test m) in
      let a = input_parts names ins ++ input_parts names tests ++ output_parts names m.circuit.outputs ++ clock_parts names m.circuit.clock in
      (λ i. e1 i ++ e2 i ++ e3 i ++ e4 i ++ e5 i ++ e6 i)
      ∙ ap (λ xs. xs ++ gater_parts names (gated_gaters library test m) ++ clocked_parts names (gated_registers test m)) (sym (append_assoc a (cell_parts names own) (cell_parts names gates)))
    where
      clock_is : (o : Option ℕ) → map (λ net. Clock net) (option_to_list (option_map (net_name names) o)) ≡ clock_parts names o
      clock_is None = refl
      clock_is (Some x) = refl

  same_parts : parts_from no (named (inserted library test m)) ≡ gated_parts (gated_names test m) library test m
  same_parts = ap (parts_from no) (named_ordered g both.0 both.1) ∙ parts_are

  pub parts_taken : AreTaken m.circuit.model (gated_parts (gated_names test m) library test m)
  parts_taken = subst (AreTaken m.circuit.model) same_parts (taken_own (inserted library test m) no is_netlist outputs_once (none_left (named (inserted library test m))))

  pub parts_say : Says m.circuit.model (gated_parts (gated_names test m) library test m) (inserted library test m)
  parts_say = subst (λ ps. Says m.circuit.model ps (inserted library test m)) same_parts (says_own (inserted library test m) no is_netlist outputs_once (none_left (named (inserted library test m))))

  pub told_said : with_parts nothing_said (gated_parts (gated_names test m) library test m) ≡ said (gated_parts (gated_names test m) library test m)
  told_said = said_all [] (gated_parts (gated_names test m) library test m)

  pub may_tell : MayTell (fresh m.circuit.model) (gated_parts (gated_names test m) library test m)
  may_tell = record {
    open_yet = refl;
    each = parts_taken.each;
    within = within_limit (with_parts nothing_said (gated_parts (gated_names test m) library test m)) (let nets = parts_taken.few_nets in let registers = parts_taken.few_registers in record {
      nets = subst (λ s. length s.nets ≤ MOST_NETS) (sym told_said) nets;
      registers = subst (λ s. length s.registers ≤ MOST_REGISTERS) (sym told_said) registers;
    });
  }
