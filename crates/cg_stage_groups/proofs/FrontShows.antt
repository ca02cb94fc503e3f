-- What the front part of a cone shows of the support of a register.
use Rattle.std.proofs.Common.{◌≡◌, ℕ, ◌+◌, ◌<◌, Bool, true, false, not, ◌||◌, ◌&&◌, List, [], ◌∷◌, length, nat_eq, slice_get}
use Rattle.std.proofs.Common.{Option, Some, None, refl, sym, ◌∙◌, ap, subst, arith, inl, inr}
use Rattle.std.specs.List.{list_any}
use Rattle.std.specs.Option.{option_map_or}
use Rattle.std.proofs.lemmas.Bool.{and_from, and_parts, both_ways, or_left, or_right}
use Rattle.std.proofs.lemmas.Option.{slice_get_within}
use Rattle.cg_claim.specs.Reach.{feeds, inputs_of_register, registers_of}
use Rattle.cg_machine.specs.Added.{own_netlist}
use Rattle.cg_machine.specs.Machine.{IsMachine, MachineData, walk_of}
use Rattle.cg_net.proofs.FoundNets.{one_more}
use Rattle.cg_net.specs.NetSets.{is_in, with_net}
use Rattle.cg_netlist.proofs.Filtered.{range_in, to_filter}
use Rattle.cg_netlist.specs.Circuit.{RegisterCell, data_inputs, shown_nets}
use Rattle.cg_netlist.specs.Drivers.{IsDriver}
use Rattle.cg_netlist.specs.declared.driver.Driver.{Driver}
use Rattle.cg_netlist.specs.declared.driver.Driver.TheVariants.{Input, Clock, Cell, Gater, Register}
use Rattle.cg_netlist_cone.proofs.ConeEdge.{any_in}
use Rattle.cg_netlist_cone.proofs.Cones.{cone_is}
use Rattle.cg_netlist_cone.specs.Cone.{IsInCone}
use Rattle.cg_stage_groups.proofs.Driving.{input_driver, lifted, register_driver}
use Rattle.cg_stage_groups.specs.Support.{stands_on_free}
use Rattle.cg_stage_groups.specs.inner.Edge.{is_input, is_register}
use Rattle.cg_stage_groups.specs.inner.Met.{AreMet, IsFreeAt, IsThere, is_free}
use Rattle.cg_stage_list_laws.specs.Supports.{has_enable, has_input, input_cone, others_of, supports}

-- a net from which logic cells lead to an input of a register is in the cone of its inputs
pub in_input_cone : (m : MachineData) → IsMachine m → (r y : ℕ) → IsInCone m.circuit.cells (inputs_of_register m r) y → is_in (input_cone m r) y ≡ true
in_input_cone m good r y way = (cone_is m.circuit.cells (walk_of m) good.walk (inputs_of_register m r) y).1 way

-- the inputs of a register are those of its cell
pub inputs_are : (m : MachineData) (r : ℕ) (cell : RegisterCell ℕ ℕ) → slice_get m.circuit.registers r ≡ Some cell → cell.inputs ≡ inputs_of_register m r
inputs_are m r cell at = ap (λ o. option_map_or (λ (c : RegisterCell ℕ ℕ). c.inputs) o []) (sym at)

-- a register that drives a net is there
pub is_there : (m : MachineData) → IsMachine m → (y : ℕ) (d : Driver) → IsDriver (own_netlist m) y d → IsThere m d
is_there m good y Input is = tt
is_there m good y Clock is = tt
is_there m good y (Cell k) is = tt
is_there m good y (Gater k) is = tt
is_there m good y (Register k inverted) is = let up = lifted m good y (Register k inverted) is in slice_get_within m.circuit.registers k up.0 up.2

-- a register that shows its bit at a net is there
pub feeds_within : (m : MachineData) (nets : List ℕ) (k : ℕ) → feeds m nets k ≡ true → k < length m.circuit.registers
feeds_within m nets k feeding = go (slice_get m.circuit.registers k) refl feeding
  where
    go : (o : Option (RegisterCell ℕ ℕ)) → slice_get m.circuit.registers k ≡ o → option_map_or (λ (cell : RegisterCell ℕ ℕ). list_any (is_in nets) (shown_nets cell)) o false ≡ true → k < length m.circuit.registers
    go None is h = absurd (both_ways false refl h)
    go (Some cell) is h = slice_get_within m.circuit.registers k cell is

module _ (m : MachineData) (good : IsMachine m) (r y : ℕ) (in_cone : is_in (input_cone m r) y ≡ true) where
  register_feeds : (k : ℕ) (d : Driver) → IsDriver (own_netlist m) y d → is_register d k ≡ true → feeds m (input_cone m r) k ≡ true
  register_feeds k d drives is = go (slice_get m.circuit.registers k) (register_driver m good k y d drives ∙ is)
    where
      go : (o : Option (RegisterCell ℕ ℕ)) → option_map_or (λ cell. is_in (shown_nets cell) y) o false ≡ true → option_map_or (λ (c : RegisterCell ℕ ℕ). list_any (is_in (input_cone m r)) (shown_nets c)) o false ≡ true
      go None h = h
      go (Some c) h = any_in (is_in (input_cone m r)) (shown_nets c) y h in_cone

  is_data : (d : Driver) → IsDriver (own_netlist m) y d → is_input d ≡ true → is_in (data_inputs m.circuit) y ≡ true
  is_data d drives is = input_driver m good y d drives ∙ is

  -- a data input, or another register without an enable
  free_found : (d : Driver) → IsDriver (own_netlist m) y d → is_free m r d ≡ true → stands_on_free m r ≡ true
  free_found Input drives free = or_left (has_input m r) (list_any (λ k. not (has_enable m k)) (others_of m r)) (any_in (is_in (input_cone m r)) (data_inputs m.circuit) y (is_data Input drives refl) in_cone)
  free_found Clock drives free = absurd (both_ways false refl free)
  free_found (Cell k) drives free = absurd (both_ways false refl free)
  free_found (Gater k) drives free = absurd (both_ways false refl free)
  free_found (Register k inverted) drives free =
      let parts = and_parts (not (nat_eq k r)) (not (has_enable m k)) free in
      let fed = register_feeds k (Register k inverted) drives (same k) in
      let in_support : supports m r k ≡ true = or_left (feeds m (input_cone m r) k) _ fed in
      let there : k < length m.circuit.registers = is_there m good y (Register k inverted) drives in
      let e : 0 + k ≡ k = omega arith in
      let other : is_in (others_of m r) k ≡ true =
      to_filter (λ k. supports m r k && not (nat_eq k r)) (registers_of m) k (subst (λ z. is_in (registers_of m) z ≡ true) e (range_in (length m.circuit.registers) 0 k there)) (and_from (supports m r k) (not (nat_eq k r)) in_support parts.0) in
      or_right (has_input m r) (list_any (λ k. not (has_enable m k)) (others_of m r)) (any_in (λ k. not (has_enable m k)) (others_of m r) k other parts.1)
    where
      same : (n : ℕ) → nat_eq n n ≡ true
      same n = Rattle.std.proofs.lemmas.Bool.eq-eqb n n refl

  pub free_shown : IsFreeAt m r y → stands_on_free m r ≡ true
  free_shown at = free_found at.driver at.drives at.free

  -- one more data input, or one more register
  pub met_input : (inputs registers more : List ℕ) → is_in (data_inputs m.circuit) y ≡ true → more ≡ with_net inputs y → AreMet m r inputs registers → AreMet m r more registers
  met_input inputs registers more given is met = record {
    inputs_are = λ x among. elim (one_more inputs y x (subst (λ l. is_in l x ≡ true) is among)) [
      | inl old ↦ met.inputs_are x old
      | inr new ↦ subst (λ z. (is_in (input_cone m r) z ≡ true) × (is_in (data_inputs m.circuit) z ≡ true)) (sym new) (in_cone, given)
    ];
    registers_are = met.registers_are;
  }

  pub met_register : (inputs registers more : List ℕ) (k : ℕ) (inverted : Bool) → IsDriver (own_netlist m) y (Register k inverted) → more ≡ with_net registers k → AreMet m r inputs registers → AreMet m r inputs more
  met_register inputs registers more k inverted drives is met = record {
    inputs_are = met.inputs_are;
    registers_are = λ x among. elim (one_more registers k x (subst (λ l. is_in l x ≡ true) is among)) [
      | inl old ↦ met.registers_are x old
      | inr new ↦ subst (λ z. (nat_eq z r || feeds m (input_cone m r) z) ≡ true) (sym new) (or_right (nat_eq k r) (feeds m (input_cone m r) k) (register_feeds k (Register k inverted) drives (Rattle.std.proofs.lemmas.Bool.eq-eqb k k refl)))
    ];
  }

-- the register alone
pub met_first : (m : MachineData) (r : ℕ) (inputs registers : List ℕ) → inputs ≡ [] → registers ≡ r ∷ [] → AreMet m r inputs registers
met_first m r inputs registers none one = record {
  inputs_are = λ y among. absurd (both_ways (is_in inputs y) (ap (λ l. is_in l y) none) among);
  registers_are = λ k among. or_left (nat_eq k r) (feeds m (input_cone m r) k) (alone (nat_eq k r) (sym (ap (λ l. is_in l k) one) ∙ among));
}
  where
    alone : (b : Bool) → (b || false) ≡ true → b ≡ true
    alone true h = refl
    alone false h = h
