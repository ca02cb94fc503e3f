-- The inserted netlist is writable where the machine's own netlist is placeable.
use Rattle.std.proofs.Common.{◌≡◌, ◌≢◌, ℕ, suc, ◌+◌, ◌-◌, ◌<◌, Bool, true, false, List, [], ◌∷◌, ◌++◌, map, length}
use Rattle.std.proofs.Common.{take, slice_get, unwrap_or, Option, Some, nat_eq, refl, ap, sym, ◌∙◌, subst, inl, inr}
use Rattle.std.proofs.Common.{arith, length-append}
use Rattle.std.specs.List.{AllByRecursion, IsDistinct, find}
use Rattle.std.specs.Option.{option_to_list}
use Rattle.std.proofs.lemmas.Bool.{both_ways}
use Rattle.std.proofs.lemmas.List.{get_or-append_right, length-map}
use Rattle.std.proofs.lemmas.List.FromFn.{get_or-map-range_with_len}
use Rattle.std.proofs.lemmas.Option.{unwrap_or-slice_get}
use Rattle.cg_cell.specs.Cell.{CellData}
use Rattle.cg_cell.specs.Fit.{is_fit}
use Rattle.cg_cell.specs.declared.fit.FitKind.{FitKind}
use Rattle.cg_machine.proofs.AddedNames.{never_nil}
use Rattle.cg_machine.proofs.Lists.{all_at, below_or, take_get}
use Rattle.cg_machine.specs.Added.{own_netlist}
use Rattle.cg_machine.specs.Gates.{AddedGate}
use Rattle.cg_machine.specs.Machine.{IsMachine, MachineData, added_name, additions}
use Rattle.cg_netlist.proofs.Driven.{in_range}
use Rattle.cg_netlist.proofs.NetOrder.{from_mapped}
use Rattle.cg_netlist.proofs.OrderedForm.{clock_nets_within, gaters_renumbered}
use Rattle.cg_net.proofs.Members.{is_in_right}
use Rattle.cg_netlist.proofs.Each.{by_recursion, each_together, from_recursion}
use Rattle.cg_netlist.specs.Circuit.{Circuit, GatingCell, LogicCell, RegisterCell, gater_outputs, net_order}
use Rattle.cg_net.specs.NetSets.{is_in}
use Rattle.cg_netlist.specs.Moment.{zip_with}
use Rattle.cg_netlist.specs.Netlist.{IsNetlist}
use Rattle.cg_netlist.specs.Ordered.{ordered, place_in}
use Rattle.cg_netlist.specs.WellFormed.{IsWellFormed}
use Rattle.cg_netlist.specs.declared.parts.RegisterKind.TheVariants.{Plain}
use Rattle.cg_net.specs.Names.{NetName, net_name}
use Rattle.cg_netlist.specs.Wiring.{map_cell, map_gater, map_register}
use Rattle.cg_netlist_parts.specs.Writable.{FunctionIsOf, IsOf, IsPlaceable, IsWritable, KindIsOf, NIL}
use Rattle.cg_insert.proofs.GatedCells.{found_All}
use Rattle.cg_insert.proofs.GatedForm.{gated_formed, inputs_once}
use Rattle.cg_insert.proofs.GatedParts.{few_names, gates_are}
use Rattle.cg_netlist_telling.proofs.OrderedNames.{named_at}
use Rattle.cg_insert.specs.Insert.{CanInsert, enables_of, first_gater_output, fitting, gate_names, new_gater_outputs, gated, gater_cell}
use Rattle.cg_insert.specs.Insert.{gating_cell, gating_kind, inserted, no_cell, placed_gate, reclocked}

-- what holds of each place holds of each
pub each_place : {X : Type 0} (P : X → Type 0) (xs : List X) → ((k : ℕ) (x : X) → slice_get xs k ≡ Some x → P x) → AllByRecursion P xs
each_place P [] at = tt
each_place P (x ∷ xs) at = (at 0 x refl, each_place P xs (λ k y y_at. at (suc k) y y_at))

module _ (library : List CellData) (test : Option (List ℕ)) (m : MachineData) (good : IsMachine m) (can : CanInsert library test m) (whole : IsNetlist (inserted library test m)) (once_out : IsDistinct nat_eq (inserted library test m).outputs)
    (its : AllByRecursion (IsOf library) library) (own : IsPlaceable library (own_netlist m)) where
  abbrev g : Circuit
  g = gated library test m

  abbrev f : ℕ → ℕ
  f = place_in (net_order g)

  formed : IsWellFormed g
  formed = gated_formed library test m good can

  -- the cell that is found is the library's
  found_of : (kind : FitKind) → ((cell : CellData) × (find (is_fit kind) library ≡ Some cell)) → IsOf library (fitting library kind)
  found_of kind fit = subst (IsOf library) (sym (ap (λ o. unwrap_or o no_cell) fit.1)) (found_All (IsOf library) (is_fit kind) library fit.0 (from_recursion (IsOf library) library its) fit.1)

  abbrev Of : LogicCell ℕ → Type 0
  Of cell = FunctionIsOf library (length cell.inputs) cell.function

  gates_of : AllByRecursion Of (map (placed_gate library) m.gates)
  gates_of = go m.gates (λ j gate at. found_of gate.kind (all_at (λ (gate : AddedGate). (cell : CellData) × (find (is_fit gate.kind) library ≡ Some cell)) m.gates j gate can.gates at))
    where
      go : (gs : List AddedGate) → ((j : ℕ) (gate : AddedGate) → slice_get gs j ≡ Some gate → IsOf library (fitting library gate.kind)) → AllByRecursion Of (map (placed_gate library) gs)
      go [] at = tt
      go (gate ∷ gs) at = (at 0 gate refl, go gs (λ j h h_at. at (suc j) h h_at))

  renumbered_of : (cells : List (LogicCell ℕ)) → AllByRecursion Of cells → AllByRecursion Of (map (map_cell f) cells)
  renumbered_of [] all = tt
  renumbered_of (cell ∷ cells) all = (subst (λ n. FunctionIsOf library n cell.function) (sym (length-map cell.inputs f)) all.0, renumbered_of cells all.1)

  gaters_of : (es ns : List ℕ) → ((e : ℕ) → is_in es e ≡ true → IsOf library (gater_cell library test)) → AllByRecursion (λ (h : GatingCell ℕ). IsOf library h.cell) (map (map_gater f) (zip_with (gating_cell library test m) es ns))
  gaters_of [] ns each = tt
  gaters_of (e ∷ es) [] each = tt
  gaters_of (e ∷ es) (n ∷ ns) each = (
    each e (Rattle.std.proofs.lemmas.Bool.or_left (nat_eq e e) (is_in es e) (Rattle.std.proofs.lemmas.Bool.eq-eqb e e refl)),
    gaters_of es ns (λ x among. each x (Rattle.std.proofs.lemmas.Bool.or_right (nat_eq x e) (is_in es x) among)),
  )

  some_enable : (e : ℕ) → is_in (enables_of m) e ≡ true → enables_of m ≢ []
  some_enable e among none = both_ways false refl (sym (ap (λ xs. is_in xs e) none) ∙ among)

  abbrev Kind : RegisterCell ℕ ℕ → Type 0
  Kind r = KindIsOf library r.init r.kind

  own_kind : (k : ℕ) (r : RegisterCell ℕ ℕ) → slice_get m.circuit.registers k ≡ Some r → Kind r
  own_kind k r at = elim (below_or m.own_registers k) [
    | inl below ↦ all_at Kind (take m.own_registers m.circuit.registers) k r own.kinds (take_get m.own_registers m.circuit.registers k below ∙ at)
    | inr past ↦ subst Kind (sym (good.delays k r past at).is) tt
  ]

  kinds_of : (rs : List (RegisterCell ℕ ℕ)) (es : List (Option ℕ)) → AllByRecursion Kind rs → AllByRecursion Kind (map (map_register f) (zip_with (reclocked test m) rs es))
  kinds_of [] es all = tt
  kinds_of (r ∷ rs) [] all = tt
  kinds_of (r ∷ rs) (e ∷ es) all = (all.0, kinds_of rs es all.1)

  -- no gated clock is called `NIL`
  gate_named : (x : ℕ) → is_in (gater_outputs g) x ≡ true → net_name g.names x ≢ NIL
  gate_named x among same =
      let found = in_range (length (enables_of m)) (first_gater_output m test) x (sym (ap (λ xs. is_in xs x) (gates_are library test m good can)) ∙ among) in
      let front : List NetName = m.circuit.names ++ option_to_list test in
      let count : length front ≡ first_gater_output m test = length-append m.circuit.names (option_to_list test) in
      let k : ℕ = x - first_gater_output m test in
      let name : net_name g.names x ≡ added_name m (additions m + k) =
      unwrap_or-slice_get g.names x [] ∙ (get_or-append_right front (gate_names m) (first_gater_output m test) x [] count found.0 ∙ get_or-map-range_with_len (added_name m) (additions m) (length (enables_of m)) k (additions m + k) [] (omega (arith, found.0, found.1)) refl) in
      never_nil m.prefix (additions m + k) (omega (arith, found.0, found.1, few_names m good)) (sym name ∙ same)

  abbrev Clocked : RegisterCell ℕ ℕ → Type 0
  Clocked r = r.kind ≡ Plain → is_in (gater_outputs (ordered g)) r.clock ≡ true → net_name (ordered g).names r.clock ≢ NIL

  clocked : (r : RegisterCell ℕ ℕ) → Clocked r
  clocked r plain among same =
      let found = from_mapped f (gater_outputs g) r.clock (sym (ap (λ xs. is_in xs r.clock) (gaters_renumbered f g.gaters)) ∙ among) in
      let below : found.0 < length g.names = clock_nets_within g formed (inputs_once library test m good can) found.0 (is_in_right (option_to_list g.clock) (gater_outputs g) found.0 found.1) in
      gate_named found.0 found.1 (sym (named_at g formed (inputs_once library test m good can) found.0 below) ∙ (ap (net_name (ordered g).names) found.2 ∙ same))

  pub still_writable : IsWritable library (inserted library test m)
  still_writable = record {
    placeable = record {
      netlist = whole;
      outputs_once = once_out;
      functions = from_recursion Of (inserted library test m).cells (renumbered_of g.cells (each_together Of (take m.own_cells m.circuit.cells) (map (placed_gate library) m.gates) (by_recursion Of (take m.own_cells m.circuit.cells) own.functions) gates_of));
      gating = from_recursion (λ (h : GatingCell ℕ). IsOf library h.cell) (inserted library test m).gaters (gaters_of (enables_of m) (new_gater_outputs test m) (λ e among. found_of (gating_kind test) (can.gater (some_enable e among))));
      kinds = from_recursion Kind (inserted library test m).registers (kinds_of m.circuit.registers m.enables (each_place Kind m.circuit.registers own_kind));
    };
    clocks = from_recursion Clocked (inserted library test m).registers (each_place Clocked (inserted library test m).registers (λ k r at. clocked r));
  }
