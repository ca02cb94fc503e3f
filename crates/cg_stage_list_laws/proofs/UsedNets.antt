-- The nets of the cone of a register are nets other than the clock.
use Rattle.std.proofs.Common.{◌≡◌, ℕ, suc, Bool, true, false, if◌then◌else◌, List, [], ◌∷◌, ◌++◌, slice_get, Option, None, Some}
use Rattle.std.proofs.Common.{refl, inl, inr}
use Rattle.std.specs.Option.{option_map_or, option_to_list}
use Rattle.std.proofs.lemmas.Bool.{both_ways}
use Rattle.cg_netlist.specs.Circuit.{LogicCell, RegisterCell, gater_outputs, used_nets}
use Rattle.cg_net.specs.NetSets.{is_in}
use Rattle.cg_netlist.proofs.Given.{from_option}
use Rattle.cg_net.proofs.Members.{is_in_cases, is_in_left}
use Rattle.cg_netlist.proofs.Used.{data_is_used, input_is_used}
use Rattle.cg_machine.specs.Machine.{IsMachine, IsNet, MachineData}
use Rattle.cg_machine.proofs.Grown.{used_below}
use Rattle.cg_netlist_cone.specs.Cone.{cone_of}
use Rattle.cg_claim.specs.Reach.{inputs_of_register}
use Rattle.cg_stage_list_laws.specs.Supports.{}

-- used nets are nets that are not the clock
module _ (m : MachineData) (good : IsMachine m) where
  pub used_net : (y : ℕ) → is_in (used_nets m.circuit) y ≡ true → IsNet m y
  used_net y used = record {
    below = used_below m good y used;
    apart = λ clock. both_ways (is_in (used_nets m.circuit) y) (good.well_formed.apart y (is_in_left (option_to_list m.circuit.clock) (gater_outputs m.circuit) y (from_option m.circuit.clock y clock))) used;
  }

  pub register_used : (k : ℕ) (cell : RegisterCell ℕ ℕ) (y : ℕ) → slice_get m.circuit.registers k ≡ Some cell → is_in cell.inputs y ≡ true → is_in (used_nets m.circuit) y ≡ true
  register_used k cell y at among = data_is_used m.circuit k y cell at among

  pub inputs_used : (r y : ℕ) → is_in (inputs_of_register m r) y ≡ true → is_in (used_nets m.circuit) y ≡ true
  inputs_used r y among = go (slice_get m.circuit.registers r) refl among
    where
      go : (o : Option (RegisterCell ℕ ℕ)) → slice_get m.circuit.registers r ≡ o → is_in (option_map_or (λ (c : RegisterCell ℕ ℕ). c.inputs) o []) y ≡ true → is_in (used_nets m.circuit) y ≡ true
      go None at h = absurd (both_ways false refl h)
      go (Some cell) at h = register_used r cell y at h

  pub cone_used : (walk : List (LogicCell ℕ)) → ((j : ℕ) (cell : LogicCell ℕ) → slice_get walk j ≡ Some cell → (k : ℕ) × (slice_get m.circuit.cells k ≡ Some cell)) → (roots : List ℕ) → ((y : ℕ) → is_in roots y ≡ true → is_in (used_nets m.circuit) y ≡ true)
      → (y : ℕ) → is_in (cone_of walk roots) y ≡ true → is_in (used_nets m.circuit) y ≡ true
  cone_used [] of_cells roots used y among = used y among
  cone_used (cell ∷ walk) of_cells roots used y among = go (cone_used walk (λ j. of_cells (suc j)) roots used y) (is_in (cone_of walk roots) cell.output) among
    where
      go : (is_in (cone_of walk roots) y ≡ true → is_in (used_nets m.circuit) y ≡ true) → (b : Bool) → is_in (if b then cone_of walk roots ++ cell.inputs else cone_of walk roots) y ≡ true → is_in (used_nets m.circuit) y ≡ true
      go rest false h = rest h
      go rest true h = elim (is_in_cases (cone_of walk roots) cell.inputs y h) [
        | inl before ↦ rest before
        | inr input ↦ let k = of_cells 0 cell refl in input_is_used m.circuit k.0 y cell k.1 input
      ]
