-- What drives a net of a machine's netlist drives it in the machine too, and nothing else does.
use Rattle.std.proofs.Common.{◌≡◌, ℕ, Bool, true, false}
use Rattle.std.proofs.Common.{slice_get, Option, Some, None, refl, sym, ◌∙◌, ap}
use Rattle.std.specs.Option.{option_map_or}
use Rattle.std.proofs.lemmas.Bool.{both_ways, eqb-true, eq-eqb}
use Rattle.std.proofs.lemmas.Option.{none-some, same_Some}
use Rattle.cg_netlist.specs.Circuit.{LogicCell, RegisterCell, cell_nets, data_inputs, shown_nets}
use Rattle.cg_net.specs.NetSets.{is_in}
use Rattle.cg_netlist.specs.Drivers.{IsDriver}
use Rattle.cg_netlist.specs.WellFormed.{IsDriven}
use Rattle.cg_netlist.specs.declared.driver.Driver.{Driver}
use Rattle.cg_netlist.specs.declared.driver.Driver.TheVariants.{Input, Clock, Cell, Gater, Register}
use Rattle.cg_netlist.proofs.Given.{clock_given, data_given, distinct_cells, given_no_cell, register_given}
use Rattle.cg_net.proofs.Members.{member_at, one_place, place_of_member}
use Rattle.cg_netlist.proofs.Used.{in_flat}
use Rattle.cg_netlist.proofs.Values.{at_map, under_map}
use Rattle.cg_machine.specs.Added.{own_netlist}
use Rattle.cg_machine.specs.Machine.{IsMachine, MachineData}
use Rattle.cg_claim.proofs.DriversTell.{driven_value, driver_tells}
use Rattle.cg_stage_groups.specs.inner.Edge.{is_input, is_register, shows_at}
use Rattle.std.specs.Cmp.{both_ways as same_truth}
use Rattle.cg_net.proofs.FoundNets.{take_some}

module _ (m : MachineData) (good : IsMachine m) where
  -- a driver of the netlist is one of the machine
  pub lifted : (y : ℕ) (d : Driver) → IsDriver (own_netlist m) y d → IsDriver m.circuit y d
  lifted y Input is = is
  lifted y Clock is = is
  lifted y (Cell k) is = (is.0, take_some m.own_cells m.circuit.cells k is.0 is.1, is.2)
  lifted y (Gater k) is = is
  lifted y (Register r inverted) is = (is.0, is.1, take_some m.own_registers m.circuit.registers r is.0 is.2, is.3)

  cell_there : (k : ℕ) (cell : LogicCell ℕ) → slice_get m.circuit.cells k ≡ Some cell → slice_get (cell_nets m.circuit) k ≡ Some cell.output
  cell_there k cell at = at_map (λ (c : LogicCell ℕ). c.output) m.circuit.cells k cell at

  -- the output of a logic cell is driven by a cell of the netlist that is this one
  pub cell_driver : (k : ℕ) (cell : LogicCell ℕ) (y : ℕ) (d : Driver) → slice_get m.circuit.cells k ≡ Some cell → cell.output ≡ y → IsDriver (own_netlist m) y d
      → (j : ℕ) × (d ≡ Cell j) × (slice_get (own_netlist m).cells j ≡ Some cell)
  cell_driver k cell y d at output is = go d is
    where
      driven : IsDriven m.circuit
      driven = good.well_formed.driven

      here : is_in (cell_nets m.circuit) y ≡ true
      here = member_at (cell_nets m.circuit) k y (cell_there k cell at ∙ ap Some output)

      go : (e : Driver) → IsDriver (own_netlist m) y e → (j : ℕ) × (e ≡ Cell j) × (slice_get (own_netlist m).cells j ≡ Some cell)
      go Input is = absurd (both_ways (is_in (cell_nets m.circuit) y) (given_no_cell m.circuit driven y (data_given m.circuit y is)) here)
      go Clock is = absurd (both_ways (is_in (cell_nets m.circuit) y) (given_no_cell m.circuit driven y (clock_given m.circuit y is)) here)
      go (Cell j) is =
          let there : slice_get m.circuit.cells j ≡ Some is.0 = take_some m.own_cells m.circuit.cells j is.0 is.1 in
          let same : j ≡ k = one_place (cell_nets m.circuit) j k y (distinct_cells m.circuit driven) (cell_there j is.0 there ∙ ap Some is.2) (cell_there k cell at ∙ ap Some output) in
          let one : is.0 ≡ cell = same_Some is.0 cell (sym there ∙ (ap (slice_get m.circuit.cells) same ∙ at)) in
          (j, refl, is.1 ∙ ap Some one)
      go (Gater j) is = absurd (none-some is.0 (ap (λ g. slice_get g j) (sym good.no_gaters) ∙ is.1))
      go (Register r inverted) is =
          let there : slice_get m.circuit.registers r ≡ Some is.0 = take_some m.own_registers m.circuit.registers r is.0 is.2 in
          let shown : is_in (shown_nets is.0) y ≡ true = member_at (shown_nets is.0) is.1 y (at_map (λ (o : ℕ × Bool). o.0) is.0.outputs is.1 (y, inverted) is.3) in
          absurd (both_ways (is_in (cell_nets m.circuit) y) (given_no_cell m.circuit driven y (register_given m.circuit y (in_flat shown_nets m.circuit.registers r is.0 y there shown))) here)

  -- what stands at a net: a data input, register r, or neither
  abbrev source : Driver → ℕ → Option (Option ℕ)
  source d y = driven_value (λ z. z) None (λ z. Some None) (λ r. Some (Some r)) y d

  one_source : (y : ℕ) (d e : Driver) → IsDriver m.circuit y d → IsDriver m.circuit y e → source d y ≡ source e y
  one_source y d e is other =
      sym (driver_tells m.circuit good.well_formed.driven (λ z. z) None (λ z. Some None) (λ r. Some (Some r)) y d is)
      ∙ driver_tells m.circuit good.well_formed.driven (λ z. z) None (λ z. Some None) (λ r. Some (Some r)) y e other

  from_register : (r y : ℕ) (inverted : Bool) → source (Register r inverted) y ≡ Some (Some r)
  from_register r y true = refl
  from_register r y false = refl

  -- a net is a data input exactly where that drives it
  pub input_driver : (y : ℕ) (d : Driver) → IsDriver (own_netlist m) y d → is_in (data_inputs m.circuit) y ≡ is_input d
  input_driver y d is = same_truth (is_in (data_inputs m.circuit) y) (is_input d) (λ among. there d (one_source y Input d among (lifted y d is))) (λ input. back d input is)
    where
      there : (e : Driver) → Some None ≡ source e y → is_input e ≡ true
      there Input same = refl
      there Clock same = absurd (none-some None (sym same))
      there (Cell k) same = absurd (none-some None (sym same))
      there (Gater k) same = absurd (none-some None (sym same))
      there (Register r inverted) same = absurd (none-some r (same_Some None (Some r) (same ∙ from_register r y inverted)))

      back : (e : Driver) → is_input e ≡ true → IsDriver (own_netlist m) y e → is_in (data_inputs m.circuit) y ≡ true
      back Input input at = at
      back Clock input at = absurd (both_ways false refl input)
      back (Cell k) input at = absurd (both_ways false refl input)
      back (Gater k) input at = absurd (both_ways false refl input)
      back (Register r inverted) input at = absurd (both_ways false refl input)

  -- a register shows its bit at a net exactly where it drives it
  pub register_driver : (k y : ℕ) (d : Driver) → IsDriver (own_netlist m) y d → shows_at m k y ≡ is_register d k
  register_driver k y d is = same_truth (shows_at m k y) (is_register d k) (λ shows. there d (found (slice_get m.circuit.registers k) refl shows) is) (λ drives. back d drives is)
    where
      found : (o : Option (RegisterCell ℕ ℕ)) → slice_get m.circuit.registers k ≡ o → option_map_or (λ cell. is_in (shown_nets cell) y) o false ≡ true → (inverted : Bool) × IsDriver m.circuit y (Register k inverted)
      found None at shows = absurd (both_ways false refl shows)
      found (Some cell) at shows =
          let place = place_of_member (shown_nets cell) y shows in
          let output = under_map (λ (o : ℕ × Bool). o.0) cell.outputs place.0 y place.1 in
          let pair : output.0 ≡ (y, output.0.1) = ap (λ n. (n, output.0.1)) output.2 in
          (output.0.1, (cell, place.0, at, output.1 ∙ ap Some pair))

      there : (e : Driver) → ((inverted : Bool) × IsDriver m.circuit y (Register k inverted)) → IsDriver (own_netlist m) y e → is_register e k ≡ true
      there e reg at = go e (sym (from_register k y reg.0) ∙ one_source y (Register k reg.0) e reg.1 (lifted y e at))
        where
          go : (f : Driver) → Some (Some k) ≡ source f y → is_register f k ≡ true
          go Input same = absurd (none-some k (sym (same_Some (Some k) None same)))
          go Clock same = absurd (none-some (Some k) (sym same))
          go (Cell j) same = absurd (none-some (Some k) (sym same))
          go (Gater j) same = absurd (none-some (Some k) (sym same))
          go (Register r inverted) same = eq-eqb k r (same_Some k r (same_Some (Some k) (Some r) (same ∙ from_register r y inverted)))

      back : (e : Driver) → is_register e k ≡ true → IsDriver (own_netlist m) y e → shows_at m k y ≡ true
      back Input drives at = absurd (both_ways false refl drives)
      back Clock drives at = absurd (both_ways false refl drives)
      back (Cell j) drives at = absurd (both_ways false refl drives)
      back (Gater j) drives at = absurd (both_ways false refl drives)
      back (Register r inverted) drives at =
          let up = lifted y (Register r inverted) at in
          let shown : is_in (shown_nets up.0) y ≡ true = member_at (shown_nets up.0) up.1 y (at_map (λ (o : ℕ × Bool). o.0) up.0.outputs up.1 (y, inverted) up.3) in
          ap (λ o. option_map_or (λ cell. is_in (shown_nets cell) y) o false) (ap (slice_get m.circuit.registers) (eqb-true k r drives) ∙ up.2) ∙ shown
