-- Gating cells and registers of the gated netlist by their numbers.
use Rattle.std.proofs.Common.{◌≡◌, ℕ, ◌+◌, ◌<◌, List, [], ◌∷◌, length, slice_get, unwrap_or, Option, None, Some, refl, ap, sym, ◌∙◌}
use Rattle.std.proofs.Common.{arith}
use Rattle.std.specs.Option.{option_flatten, option_map, option_to_list}
use Rattle.std.proofs.lemmas.Option.{slice_get_within}
use Rattle.cg_cell.specs.Cell.{CellData}
use Rattle.cg_machine.specs.Machine.{IsMachine, MachineData, enable_of}
use Rattle.cg_netlist.proofs.OrderLemmas.{length-range_with_len}
use Rattle.cg_netlist.proofs.Values.{element_at, length-zip_with, zip_with_at}
use Rattle.cg_netlist.specs.Circuit.{RegisterCell}
use Rattle.cg_netlist.specs.Ordered.{place_in}
use Rattle.cg_net.specs.Names.{NetName}
use Rattle.cg_insert.specs.Insert.{enables_of, first_gater_output, new_gater_outputs, gater_cell, gating_cell, reclocked, test_net}
use Rattle.cg_insert.specs.inner.GatedParts.{gated_gaters, gated_registers}
use Rattle.cg_netlist_telling.specs.NamedParts.{clocked_part, clocked_parts, on_gater, with_clock}
use Rattle.cg_machine.proofs.WalkPlaces.{range_at}

pub gaters_long : (library : List CellData) (test : Option (List ℕ)) (m : MachineData) → length (gated_gaters library test m) ≡ length (enables_of m)
gaters_long library test m = length-zip_with (gating_cell library test m) (enables_of m) (new_gater_outputs test m) (sym (length-range_with_len (length (enables_of m)) (first_gater_output m test)))

pub gater_stands : (library : List CellData) (test : Option (List ℕ)) (m : MachineData) (es : List ℕ) → es ≡ enables_of m → (n e clock out : ℕ) (pin : Option ℕ) (cell : CellData)
    → slice_get es n ≡ Some e → clock ≡ unwrap_or m.circuit.clock 0 → pin ≡ test_net m test → out ≡ first_gater_output m test + n → cell ≡ gater_cell library test
    → slice_get (gated_gaters library test m) n ≡ Some (record { clock = clock; enable = e; test = pin; output = out; cell = cell })
gater_stands library test m es es_are n e clock out pin cell at clock_is pin_is out_is cell_is =
    let there : slice_get (enables_of m) n ≡ Some e = ap (λ xs. slice_get xs n) (sym es_are) ∙ at in
    let below : n < length (enables_of m) = slice_get_within (enables_of m) n e there in
    let whole : gating_cell library test m e (first_gater_output m test + n) ≡ record { clock = clock; enable = e; test = pin; output = out; cell = cell } = λ i. record { clock = sym clock_is i; enable = e; test = sym pin_is i; output = sym out_is i; cell = sym cell_is i } in
    zip_with_at (gating_cell library test m) (enables_of m) (new_gater_outputs test m) n e (first_gater_output m test + n) there (range_at (length (enables_of m)) (first_gater_output m test) n below) ∙ ap (λ x. Some x) whole

pub registers_long : (test : Option (List ℕ)) (m : MachineData) → IsMachine m → length (gated_registers test m) ≡ length m.circuit.registers
registers_long test m good = length-zip_with (reclocked test m) m.circuit.registers m.enables (sym good.enables)

-- the register of a number, with its gating cell's output as its clock
pub record AtNumber (test : Option (List ℕ)) (m : MachineData) (names : List NetName) (gate : Option ℕ) (n : ℕ) : Type 0 where
  pub register : RegisterCell ℕ ℕ
  pub stands : slice_get (gated_registers test m) n ≡ Some register
  pub part : clocked_parts names (with_clock gate (option_to_list (slice_get m.circuit.registers n))) ≡ clocked_part names register ∷ []

pub at_number : (test : Option (List ℕ)) (m : MachineData) (names : List NetName) (gate : Option ℕ) (n : ℕ) → IsMachine m → n < length m.circuit.registers → gate ≡ option_map (λ enable. first_gater_output m test + place_in (enables_of m) enable) (enable_of m n) → AtNumber test m names gate n
at_number test m names gate n good below gate_is =
    let r = element_at m.circuit.registers n below in
    let o = element_at m.enables n (omega (arith, below, good.enables)) in
    let on : gate ≡ option_map (λ enable. first_gater_output m test + place_in (enables_of m) enable) o.0 = gate_is ∙ ap (λ e. option_map (λ enable. first_gater_output m test + place_in (enables_of m) enable) (option_flatten e)) o.1 in
    record {
      register = reclocked test m r.0 o.0;
      stands = zip_with_at (reclocked test m) m.circuit.registers m.enables n r.0 o.0 r.1 o.1;
      part = ap (λ x. clocked_parts names (with_clock gate (option_to_list x))) r.1 ∙ ap (λ x. clocked_part names x ∷ []) (ap (λ g. on_gater g r.0) on ∙ same r.0 o.0);
    }
  where
    same : (r : RegisterCell ℕ ℕ) (o : Option ℕ) → on_gater (option_map (λ enable. first_gater_output m test + place_in (enables_of m) enable) o) r ≡ reclocked test m r o
    same r None = refl
    same r (Some e) = refl
