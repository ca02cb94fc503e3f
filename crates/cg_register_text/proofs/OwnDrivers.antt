-- Each net of a machine's own netlist has its driver there: no added gate and no delay register has such a net as its output.
use Rattle.std.proofs.Common.{◌≡◌, ℕ, suc, ◌<◌, ◌≤◌, Bool, true, false, List, [], ◌∷◌, length, slice_get}
use Rattle.std.proofs.Common.{Option, Some, refl, sym, ap, ◌∙◌, subst, arith, inl, inr}
use Rattle.std.specs.List.{flat_map}
use Rattle.std.specs.Option.{option_map_or}
use Rattle.std.proofs.lemmas.Bool.{both_ways, ne_eqb}
use Rattle.std.proofs.lemmas.Option.{same_Some}
use Rattle.cg_machine.specs.Added.{own_netlist}
use Rattle.cg_machine.specs.Machine.{IsMachine, MachineData}
use Rattle.cg_net.specs.NetSets.{is_in}
use Rattle.cg_net.proofs.Members.{is_in_cases, place_of_member}
use Rattle.cg_net.proofs.TableLemmas.{among_first}
use Rattle.cg_netlist.specs.Circuit.{Circuit, GatingCell, LogicCell, RegisterCell, cell_nets, gater_outputs, given_nets, register_nets, shown_nets}
use Rattle.cg_netlist.specs.Drivers.{IsDriver}
use Rattle.cg_netlist.specs.WellFormed.{IsDriven}
use Rattle.cg_netlist.specs.declared.driver.Driver.{Driver}
use Rattle.cg_netlist.specs.declared.driver.Driver.TheVariants.{Cell, Clock, Gater, Input, Register}
use Rattle.cg_netlist.proofs.Given.{Clock as IsClock, Data, Gate, Kind, Shown, kind_of}
use Rattle.cg_netlist.proofs.Values.{under_map}
use Rattle.cg_netlist_cone.proofs.OneDriver.{cell_driver, is_register, register_driver}

-- an item that has a net among its nets
record IsItem {X : Type 0} (f : X → List ℕ) (xs : List X) (y : ℕ) : Type 0 where
  place : ℕ
  item : X
  at : slice_get xs place ≡ Some item
  among : is_in (f item) y ≡ true

item_of : {X : Type 0} (f : X → List ℕ) (xs : List X) (y : ℕ) → is_in (flat_map f xs) y ≡ true → IsItem f xs y
item_of f [] y among = absurd (both_ways false refl among)
item_of f (x ∷ xs) y among = elim (is_in_cases (f x) (flat_map f xs) y among) [
  | inl here ↦ record { place = 0; item = x; at = refl; among = here }
  | inr later ↦ let i = item_of f xs y later in record { place = suc i.place; item = i.item; at = i.at; among = i.among }
]

-- a net has a driver
record HasDriver (c : Circuit) (y : ℕ) : Type 0 where
  driver : Driver
  is : IsDriver c y driver

module _ (c : Circuit) (driven : IsDriven c) where
  of_gater : (y : ℕ) → is_in (gater_outputs c) y ≡ true → HasDriver c y
  of_gater y among =
      let p = place_of_member (gater_outputs c) y among in
      let u = under_map (λ (g : GatingCell ℕ). g.output) c.gaters p.0 y p.1 in
      record { driver = Gater p.0; is = u }

  of_cell : (y : ℕ) → is_in (cell_nets c) y ≡ true → HasDriver c y
  of_cell y among =
      let p = place_of_member (cell_nets c) y among in
      let u = under_map (λ (e : LogicCell ℕ). e.output) c.cells p.0 y p.1 in
      record { driver = Cell p.0; is = u }

  of_register : (y : ℕ) → is_in (register_nets c) y ≡ true → HasDriver c y
  of_register y among =
      let i = item_of shown_nets c.registers y among in
      let p = place_of_member (shown_nets i.item) y i.among in
      let u = under_map (λ (o : ℕ × Bool). o.0) i.item.outputs p.0 y p.1 in
      record { driver = Register i.place u.0.1; is = (i.item, p.0, i.at, u.1 ∙ ap (λ n. Some (n, u.0.1)) u.2) }

  of_kind : (y : ℕ) → Kind c y → HasDriver c y
  of_kind y (Data among) = record { driver = Input; is = among }
  of_kind y (IsClock is) = record { driver = Clock; is = is }
  of_kind y (Gate among) = of_gater y among
  of_kind y (Shown among) = of_register y among

  has_driver : (y : ℕ) → y < length c.names → HasDriver c y
  has_driver y below = elim (is_in_cases (given_nets c) (cell_nets c) y (driven.driven y below)) [
    | inl given ↦ of_kind y (kind_of c y given)
    | inr cell ↦ of_cell y cell
  ]

module _ (m : MachineData) (good : IsMachine m) (c : Circuit) (own : own_netlist m ≡ c) (driven : IsDriven c) where
  pub front_cell : (k : ℕ) (cell : LogicCell ℕ) → slice_get c.cells k ≡ Some cell → slice_get m.circuit.cells k ≡ Some cell
  front_cell k cell at = (among_first m.circuit.cells m.own_cells k cell (ap (λ (d : Circuit). slice_get d.cells k) own ∙ at)).1

  pub front_register : (k : ℕ) (r : RegisterCell ℕ ℕ) → slice_get c.registers k ≡ Some r → (k < m.own_registers) × (slice_get m.circuit.registers k ≡ Some r)
  front_register k r at = among_first m.circuit.registers m.own_registers k r (ap (λ (d : Circuit). slice_get d.registers k) own ∙ at)

  front_driver : (y : ℕ) (d : Driver) → IsDriver c y d → IsDriver m.circuit y d
  front_driver y Input is = subst (λ (e : Circuit). IsDriver e y Input) (sym own) is
  front_driver y Clock is = subst (λ (e : Circuit). IsDriver e y Clock) (sym own) is
  front_driver y (Gater k) is = subst (λ (e : Circuit). IsDriver e y (Gater k)) (sym own) is
  front_driver y (Cell k) is = (is.0, front_cell k is.0 is.1, is.2)
  front_driver y (Register r inverted) is = (is.0, is.1, (front_register r is.0 is.2).1, is.3)

  -- a logic cell that drives a net of the netlist is one of the netlist
  pub own_cell : (k : ℕ) (cell : LogicCell ℕ) → slice_get m.circuit.cells k ≡ Some cell → cell.output < length c.names → slice_get c.cells k ≡ Some cell
  own_cell k cell at below =
      let has = has_driver c driven cell.output below in
      let is : has.driver ≡ Cell k = cell_driver m.circuit good.well_formed.driven k cell cell.output has.driver at refl (front_driver cell.output has.driver has.is) in
      let there : IsDriver c cell.output (Cell k) = subst (IsDriver c cell.output) is has.is in
      there.1 ∙ ap Some (same_Some there.0 cell (sym (front_cell k there.0 there.1) ∙ at))

  -- no delay register shows its bit at a net of the netlist
  pub delay_apart : (k : ℕ) (cell : RegisterCell ℕ ℕ) (y : ℕ) → m.own_registers ≤ k → slice_get m.circuit.registers k ≡ Some cell → y < length c.names → is_in (shown_nets cell) y ≡ false
  delay_apart k cell y past at below =
      let has = has_driver c driven y below in
      sym (ap (λ (o : Option (RegisterCell ℕ ℕ)). option_map_or (λ (e : RegisterCell ℕ ℕ). is_in (shown_nets e) y) o false) at)
      ∙ (register_driver m.circuit good.well_formed.driven k y has.driver (front_driver y has.driver has.is) ∙ go has.driver has.is)
    where
      go : (d : Driver) → IsDriver c y d → is_register d k ≡ false
      go Input is = refl
      go Clock is = refl
      go (Cell j) is = refl
      go (Gater j) is = refl
      go (Register r inverted) is = let low = (front_register r is.0 is.2).0 in ne_eqb k r (λ same. let no : ⊥ = omega (arith, low, same, past) in no)
