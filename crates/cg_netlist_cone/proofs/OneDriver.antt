-- A net has one driver: what is known to drive it tells what does not.
use Rattle.std.proofs.Common.{◌≡◌, ℕ, zero, suc, Bool, true, false, List, [], ◌∷◌, ◌++◌, nat_eq, slice_get, Option, Some, None}
use Rattle.std.proofs.Common.{refl, sym, ◌∙◌, ap, subst}
use Rattle.std.specs.List.{IsDistinct, flat_map}
use Rattle.std.specs.Option.{option_map_or, option_to_list}
use Rattle.std.proofs.lemmas.Bool.{both_ways, eqb-true, eq-eqb, false_from_ne_true}
use Rattle.std.proofs.lemmas.Option.{none-some, same_Some}
use Rattle.cg_netlist.specs.Circuit.{Circuit, GatingCell, LogicCell, RegisterCell, cell_nets, data_inputs, gater_outputs}
use Rattle.cg_net.specs.NetSets.{is_in}
use Rattle.cg_netlist.specs.Circuit.{register_nets, shown_nets}
use Rattle.cg_netlist.specs.Drivers.{IsDriver}
use Rattle.cg_netlist.specs.WellFormed.{IsDriven}
use Rattle.cg_netlist.specs.declared.driver.Driver.{Driver}
use Rattle.cg_netlist.specs.declared.driver.Driver.TheVariants.{Input, Clock, Cell, Gater, Register}
use Rattle.cg_netlist_cone.specs.inner.Reaching.{register_shows}
use Rattle.cg_netlist.proofs.Given.{clock_given, data_given, distinct_cells, distinct_given, from_option, gater_given, given_no_cell}
use Rattle.cg_netlist.proofs.Given.{register_given}
use Rattle.cg_net.proofs.Members.{distinct_apart, distinct_left, distinct_right, is_in_left, is_in_right, member_at, one_place}
use Rattle.cg_netlist.proofs.Used.{in_flat}
use Rattle.cg_netlist.proofs.Values.{at_map}
use Rattle.std.specs.Cmp.{both_ways as same_truth}

-- a driver is a data input, is register k
abbrev pub is_input : Driver → Bool
is_input Input = true
is_input _ = false

abbrev pub is_register : Driver → ℕ → Bool
is_register (Register r inverted) k = nat_eq k r
is_register _ k = false

-- the number of the logic cell that drives
abbrev pub cell_number : Driver → ℕ
cell_number (Cell k) = k
cell_number _ = 0

-- two items that have a net among theirs, where no net stands twice, are one
one_item : {X : Type 0} (f : X → List ℕ) (xs : List X) (j k : ℕ) (x z : X) (y : ℕ) → IsDistinct nat_eq (flat_map f xs) → slice_get xs j ≡ Some x → is_in (f x) y ≡ true → slice_get xs k ≡ Some z → is_in (f z) y ≡ true → j ≡ k
one_item f [] j k x z y once at_j in_j at_k in_k = absurd (none-some x at_j)
one_item f (w ∷ xs) zero zero x z y once at_j in_j at_k in_k = refl
one_item f (w ∷ xs) zero (suc k) x z y once at_j in_j at_k in_k =
    absurd (both_ways (is_in (flat_map f xs) y) (distinct_apart (f w) (flat_map f xs) once y (subst (λ v. is_in (f v) y ≡ true) (sym (same_Some w x at_j)) in_j)) (in_flat f xs k z y at_k in_k))
one_item f (w ∷ xs) (suc j) zero x z y once at_j in_j at_k in_k =
    absurd (both_ways (is_in (flat_map f xs) y) (distinct_apart (f w) (flat_map f xs) once y (subst (λ v. is_in (f v) y ≡ true) (sym (same_Some w z at_k)) in_k)) (in_flat f xs j x y at_j in_j))
one_item f (w ∷ xs) (suc j) (suc k) x z y once at_j in_j at_k in_k = ap suc (one_item f xs j k x z y (distinct_right (f w) (flat_map f xs) once) at_j in_j at_k in_k)

module _ (c : Circuit) (driven : IsDriven c) where
  abbrev sources : List ℕ
  sources = data_inputs c ++ option_to_list c.clock

  front_once : IsDistinct nat_eq (sources ++ gater_outputs c)
  front_once = distinct_left (sources ++ gater_outputs c) (register_nets c) (distinct_given c driven)

  no_register : (y : ℕ) → is_in (sources ++ gater_outputs c) y ≡ true → is_in (register_nets c) y ≡ false
  no_register y among = distinct_apart (sources ++ gater_outputs c) (register_nets c) (distinct_given c driven) y among

  cell_net : (k : ℕ) (cell : LogicCell ℕ) (y : ℕ) → slice_get c.cells k ≡ Some cell → cell.output ≡ y → slice_get (cell_nets c) k ≡ Some y
  cell_net k cell y at output = at_map (λ (e : LogicCell ℕ). e.output) c.cells k cell at ∙ ap Some output

  gate_net : (k : ℕ) (gater : GatingCell ℕ) (y : ℕ) → slice_get c.gaters k ≡ Some gater → gater.output ≡ y → is_in (gater_outputs c) y ≡ true
  gate_net k gater y at output = member_at (gater_outputs c) k y (at_map (λ (g : GatingCell ℕ). g.output) c.gaters k gater at ∙ ap Some output)

  shown_net : (r place y : ℕ) (inverted : Bool) (cell : RegisterCell ℕ ℕ) → slice_get c.registers r ≡ Some cell → slice_get cell.outputs place ≡ Some (y, inverted) → is_in (shown_nets cell) y ≡ true
  shown_net r place y inverted cell at shows = member_at (shown_nets cell) place y (at_map (λ (o : ℕ × Bool). o.0) cell.outputs place (y, inverted) shows)

  in_registers : (r y : ℕ) (cell : RegisterCell ℕ ℕ) → slice_get c.registers r ≡ Some cell → is_in (shown_nets cell) y ≡ true → is_in (register_nets c) y ≡ true
  in_registers r y cell at among = in_flat shown_nets c.registers r cell y at among

  -- what drives the output of a logic cell is this cell
  pub cell_driver : (k : ℕ) (cell : LogicCell ℕ) (y : ℕ) (d : Driver) → slice_get c.cells k ≡ Some cell → cell.output ≡ y → IsDriver c y d → d ≡ Cell k
  cell_driver k cell y d at output is = go d is
    where
      among : is_in (cell_nets c) y ≡ true
      among = member_at (cell_nets c) k y (cell_net k cell y at output)

      go : (e : Driver) → IsDriver c y e → e ≡ Cell k
      go Input is = absurd (both_ways (is_in (cell_nets c) y) (given_no_cell c driven y (data_given c y is)) among)
      go Clock is = absurd (both_ways (is_in (cell_nets c) y) (given_no_cell c driven y (clock_given c y is)) among)
      go (Cell j) is = ap Cell (one_place (cell_nets c) j k y (distinct_cells c driven) (cell_net j is.0 y is.1 is.2) (cell_net k cell y at output))
      go (Gater j) is = absurd (both_ways (is_in (cell_nets c) y) (given_no_cell c driven y (gater_given c y (gate_net j is.0 y is.1 is.2))) among)
      go (Register r inverted) is =
          absurd (both_ways (is_in (cell_nets c) y) (given_no_cell c driven y (register_given c y (in_registers r y is.0 is.2 (shown_net r is.1 y inverted is.0 is.2 is.3)))) among)

  -- a net is a data input exactly where that drives it
  pub input_driver : (y : ℕ) (d : Driver) → IsDriver c y d → is_in (data_inputs c) y ≡ is_input d
  input_driver y Input is = is
  input_driver y Clock is = false_from_ne_true (is_in (data_inputs c) y) (λ among.
      both_ways (is_in (option_to_list c.clock) y) (distinct_apart (data_inputs c) (option_to_list c.clock) (distinct_left sources (gater_outputs c) front_once) y among) (from_option c.clock y is))
  input_driver y (Cell k) is = false_from_ne_true (is_in (data_inputs c) y) (λ among.
      both_ways (is_in (cell_nets c) y) (given_no_cell c driven y (data_given c y among)) (member_at (cell_nets c) k y (cell_net k is.0 y is.1 is.2)))
  input_driver y (Gater k) is = false_from_ne_true (is_in (data_inputs c) y) (λ among.
      both_ways (is_in (gater_outputs c) y) (distinct_apart sources (gater_outputs c) front_once y (is_in_left (data_inputs c) (option_to_list c.clock) y among)) (gate_net k is.0 y is.1 is.2))
  input_driver y (Register r inverted) is = false_from_ne_true (is_in (data_inputs c) y) (λ among.
      both_ways (is_in (register_nets c) y) (no_register y (is_in_left sources (gater_outputs c) y (is_in_left (data_inputs c) (option_to_list c.clock) y among))) (in_registers r y is.0 is.2 (shown_net r is.1 y inverted is.0 is.2 is.3)))

  -- no register shows its bit at a net that is none of theirs
  none_shows : (k y : ℕ) → is_in (register_nets c) y ≡ false → register_shows c k y ≡ false
  none_shows k y out = go (slice_get c.registers k) refl
    where
      go : (o : Option (RegisterCell ℕ ℕ)) → slice_get c.registers k ≡ o → option_map_or (λ cell. is_in (shown_nets cell) y) o false ≡ false
      go None at = refl
      go (Some cell) at = false_from_ne_true (is_in (shown_nets cell) y) (λ among. both_ways (is_in (register_nets c) y) out (in_registers k y cell at among))

  -- a register shows its bit at a net exactly where it drives it
  pub register_driver : (k y : ℕ) (d : Driver) → IsDriver c y d → register_shows c k y ≡ is_register d k
  register_driver k y Input is = none_shows k y (no_register y (is_in_left sources (gater_outputs c) y (is_in_left (data_inputs c) (option_to_list c.clock) y is)))
  register_driver k y Clock is = none_shows k y (no_register y (is_in_left sources (gater_outputs c) y (is_in_right (data_inputs c) (option_to_list c.clock) y (from_option c.clock y is))))
  register_driver k y (Cell j) is = none_shows k y (false_from_ne_true (is_in (register_nets c) y) (λ among.
      both_ways (is_in (cell_nets c) y) (given_no_cell c driven y (register_given c y among)) (member_at (cell_nets c) j y (cell_net j is.0 y is.1 is.2))))
  register_driver k y (Gater j) is = none_shows k y (no_register y (is_in_right sources (gater_outputs c) y (gate_net j is.0 y is.1 is.2)))
  register_driver k y (Register r inverted) is =
      same_truth (register_shows c k y) (nat_eq k r) (λ shows. there (slice_get c.registers k) refl shows) (λ same. back (eqb-true k r same))
    where
      shown : is_in (shown_nets is.0) y ≡ true
      shown = shown_net r is.1 y inverted is.0 is.2 is.3

      there : (o : Option (RegisterCell ℕ ℕ)) → slice_get c.registers k ≡ o → option_map_or (λ cell. is_in (shown_nets cell) y) o false ≡ true → nat_eq k r ≡ true
      there None at shows = absurd (both_ways false refl shows)
      there (Some cell) at shows = eq-eqb k r (one_item shown_nets c.registers k r cell is.0 y (distinct_right (sources ++ gater_outputs c) (register_nets c) (distinct_given c driven)) at shows is.2 shown)

      back : k ≡ r → register_shows c k y ≡ true
      back same = ap (λ o. option_map_or (λ cell. is_in (shown_nets cell) y) o false) (ap (slice_get c.registers) same ∙ is.2) ∙ shown
