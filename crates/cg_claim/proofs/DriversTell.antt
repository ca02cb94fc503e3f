-- What a net has before cells are laid, told by what drives it.
use Rattle.std.proofs.Common.{◌≡◌, ℕ, zero, suc, Bool, true, false, ◌||◌, if◌then◌else◌, List, [], ◌∷◌, ◌++◌, map, nat_eq}
use Rattle.std.proofs.Common.{slice_get, Option, Some, None, option_map, refl, sym, ◌∙◌, ap, subst}
use Rattle.std.specs.List.{IsDistinct, flat_map}
use Rattle.std.specs.Option.{option_to_list}
use Rattle.std.proofs.lemmas.Bool.{both_ways, eqb-true, eq-eqb, false_from_ne_true}
use Rattle.std.proofs.lemmas.Option.{none-some, same_Some}
use Rattle.cg_netlist.specs.Circuit.{Circuit, GatingCell, LogicCell, RegisterCell, cell_nets, data_inputs, gater_outputs}
use Rattle.cg_net.specs.NetSets.{is_in}
use Rattle.cg_netlist.specs.Circuit.{register_nets, shown_nets}
use Rattle.cg_netlist.specs.Drivers.{IsDriver}
use Rattle.cg_netlist.specs.WellFormed.{IsDriven}
use Rattle.cg_netlist.specs.declared.driver.Driver.{Driver}
use Rattle.cg_netlist.specs.declared.driver.Driver.TheVariants.{Input, Clock, Cell, Gater, Register}
use Rattle.cg_netlist.proofs.Given.{data_given, distinct_given, from_option, given_no_cell, register_given}
use Rattle.cg_net.proofs.Members.{distinct_apart, distinct_head, distinct_left, distinct_right, distinct_tail, is_in_left}
use Rattle.cg_net.proofs.Members.{is_in_right, member_at}
use Rattle.cg_netlist.proofs.Used.{in_flat}
use Rattle.cg_netlist.proofs.Values.{at_map}
use Rattle.cg_claim.specs.Build.{from_state, given, output_at, shown_at, shown_by}
use Rattle.cg_claim.proofs.GivenNets.{shown_in}

-- what a net that is driven so has: its input, what its register shows, and zero elsewhere
abbrev pub driven_value : {T : Type 0} → (T → T) → T → (ℕ → T) → (ℕ → T) → ℕ → Driver → T
driven_value inverse none input state net Input = input net
driven_value inverse none input state net (Register r inverted) = if inverted then inverse (state r) else state r
driven_value inverse none input state net _ = none

-- the first output of a register at a net, where it has one
output_is : (outs : List (ℕ × Bool)) (place y : ℕ) (inverted : Bool) → IsDistinct nat_eq (map (λ o. o.0) outs) → slice_get outs place ≡ Some (y, inverted) → output_at outs y ≡ Some inverted
output_is [] place y inverted distinct at = absurd (none-some (y, inverted) at)
output_is (o ∷ outs) zero y inverted distinct at =
    let same : o ≡ (y, inverted) = same_Some o (y, inverted) at in
    ap (λ b. if b then Some o.1 else output_at outs y) (eq-eqb y o.0 (sym (ap (λ (p : ℕ × Bool). p.0) same))) ∙ ap (λ (p : ℕ × Bool). Some p.1) same
output_is (o ∷ outs) (suc place) y inverted distinct at =
    let there : is_in (map (λ o. o.0) outs) y ≡ true = member_at (map (λ o. o.0) outs) place y (at_map (λ (o : ℕ × Bool). o.0) outs place (y, inverted) at) in
    let other : nat_eq y o.0 ≡ false = false_from_ne_true (nat_eq y o.0) (λ same.
    both_ways (is_in (map (λ o. o.0) outs) o.0) (distinct_head o.0 (map (λ o. o.0) outs) distinct) (subst (λ z. is_in (map (λ o. o.0) outs) z ≡ true) (eqb-true y o.0 same) there)) in
    ap (λ b. if b then Some o.1 else output_at outs y) other ∙ output_is outs place y inverted (distinct_tail o.0 (map (λ o. o.0) outs) distinct) at

output_none : (outs : List (ℕ × Bool)) (y : ℕ) → is_in (map (λ o. o.0) outs) y ≡ false → output_at outs y ≡ None
output_none [] y out = refl
output_none (o ∷ outs) y out = go (nat_eq y o.0) out (output_none outs y)
  where
    go : (b : Bool) → (b || is_in (map (λ o. o.0) outs) y) ≡ false → (is_in (map (λ o. o.0) outs) y ≡ false → output_at outs y ≡ None) → (if b then Some o.1 else output_at outs y) ≡ None
    go true h rest = absurd (both_ways true h refl)
    go false h rest = rest h

-- the register that shows its bit at a net is the one that has it as an output
pub shown_is : (rs : List (RegisterCell ℕ ℕ)) (r place y : ℕ) (cell : RegisterCell ℕ ℕ) (inverted : Bool) → IsDistinct nat_eq (flat_map shown_nets rs) → slice_get rs r ≡ Some cell
    → slice_get cell.outputs place ≡ Some (y, inverted) → shown_by rs y ≡ Some (r, inverted)
shown_is [] r place y cell inverted distinct at shows = absurd (none-some cell at)
shown_is (c ∷ rs) zero place y cell inverted distinct at shows =
    let same : c ≡ cell = same_Some c cell at in
    ap (λ o. shown_at o (shown_by rs y)) (output_is c.outputs place y inverted (distinct_left (shown_nets c) (flat_map shown_nets rs) distinct) (ap (λ (z : RegisterCell ℕ ℕ). slice_get z.outputs place) same ∙ shows))
shown_is (c ∷ rs) (suc r) place y cell inverted distinct at shows =
    let here : is_in (shown_nets cell) y ≡ true = member_at (shown_nets cell) place y (at_map (λ (o : ℕ × Bool). o.0) cell.outputs place (y, inverted) shows) in
    let later : is_in (flat_map shown_nets rs) y ≡ true = in_flat shown_nets rs r cell y at here in
    let out : is_in (shown_nets c) y ≡ false = false_from_ne_true (is_in (shown_nets c) y) (λ among. both_ways (is_in (flat_map shown_nets rs) y) (distinct_apart (shown_nets c) (flat_map shown_nets rs) distinct y among) later) in
    ap (λ o. shown_at o (shown_by rs y)) (output_none c.outputs y out)
    ∙ ap (λ o. option_map (λ (p : ℕ × Bool). (suc p.0, p.1)) o) (shown_is rs r place y cell inverted (distinct_right (shown_nets c) (flat_map shown_nets rs) distinct) at shows)

module _ (c : Circuit) (driven : IsDriven c) {T : Type 0} (inverse : T → T) (none : T) (input state : ℕ → T) where
  -- a net that no register has as an output
  not_shown : (y : ℕ) → is_in (register_nets c) y ≡ false → shown_by c.registers y ≡ None
  not_shown y out = go (shown_by c.registers y) refl
    where
      go : (o : Option (ℕ × Bool)) → shown_by c.registers y ≡ o → o ≡ None
      go None is = refl
      go (Some p) is =
          let r = shown_in c.registers y p is in
          absurd (both_ways (is_in (register_nets c) y) out (in_flat shown_nets c.registers p.0 r.0 y r.1 r.2))

  front_out : (y : ℕ) → is_in (data_inputs c ++ option_to_list c.clock ++ gater_outputs c) y ≡ true → is_in (register_nets c) y ≡ false
  front_out y among = distinct_apart (data_inputs c ++ option_to_list c.clock ++ gater_outputs c) (register_nets c) (distinct_given c driven) y among

  neither : (y : ℕ) → is_in (data_inputs c) y ≡ false → is_in (register_nets c) y ≡ false → given inverse none c input state y ≡ none
  neither y no_input no_register = ap (λ b. if b then input y else from_state inverse none state (shown_by c.registers y)) no_input ∙ ap (from_state inverse none state) (not_shown y no_register)

  -- what drives a net tells what it has
  pub driver_tells : (y : ℕ) (driver : Driver) → IsDriver c y driver → given inverse none c input state y ≡ driven_value inverse none input state y driver
  driver_tells y Input is = ap (λ b. if b then input y else from_state inverse none state (shown_by c.registers y)) is
  driver_tells y Clock is =
      let sources = data_inputs c ++ option_to_list c.clock in
      let clk : is_in (option_to_list c.clock) y ≡ true = from_option c.clock y is in
      let two : IsDistinct nat_eq sources = distinct_left sources (gater_outputs c) (distinct_left (sources ++ gater_outputs c) (register_nets c) (distinct_given c driven)) in
      neither y (false_from_ne_true (is_in (data_inputs c) y) (λ among. both_ways (is_in (option_to_list c.clock) y) (distinct_apart (data_inputs c) (option_to_list c.clock) two y among) clk))
      (front_out y (is_in_left sources (gater_outputs c) y (is_in_right (data_inputs c) (option_to_list c.clock) y clk)))
  driver_tells y (Cell k) is =
      let cell : is_in (cell_nets c) y ≡ true = member_at (cell_nets c) k y (at_map (λ (cell : LogicCell ℕ). cell.output) c.cells k is.0 is.1 ∙ ap Some is.2) in
      neither y (false_from_ne_true (is_in (data_inputs c) y) (λ among. both_ways (is_in (cell_nets c) y) (given_no_cell c driven y (data_given c y among)) cell))
      (false_from_ne_true (is_in (register_nets c) y) (λ among. both_ways (is_in (cell_nets c) y) (given_no_cell c driven y (register_given c y among)) cell))
  driver_tells y (Gater k) is =
      let gate : is_in (gater_outputs c) y ≡ true = member_at (gater_outputs c) k y (at_map (λ (gater : GatingCell ℕ). gater.output) c.gaters k is.0 is.1 ∙ ap Some is.2) in
      let sources = data_inputs c ++ option_to_list c.clock in
      let three : IsDistinct nat_eq (sources ++ gater_outputs c) = distinct_left (sources ++ gater_outputs c) (register_nets c) (distinct_given c driven) in
      neither y (false_from_ne_true (is_in (data_inputs c) y) (λ among. both_ways (is_in (gater_outputs c) y) (distinct_apart sources (gater_outputs c) three y (is_in_left (data_inputs c) (option_to_list c.clock) y among)) gate))
      (front_out y (is_in_right sources (gater_outputs c) y gate))
  driver_tells y (Register r inverted) is =
      let here : is_in (shown_nets is.0) y ≡ true = member_at (shown_nets is.0) is.1 y (at_map (λ (o : ℕ × Bool). o.0) is.0.outputs is.1 (y, inverted) is.3) in
      let shown : is_in (register_nets c) y ≡ true = in_flat shown_nets c.registers r is.0 y is.2 here in
      let sources = data_inputs c ++ option_to_list c.clock in
      let no_input : is_in (data_inputs c) y ≡ false = false_from_ne_true (is_in (data_inputs c) y) (λ among.
      both_ways (is_in (register_nets c) y) (front_out y (is_in_left sources (gater_outputs c) y (is_in_left (data_inputs c) (option_to_list c.clock) y among))) shown) in
      ap (λ b. if b then input y else from_state inverse none state (shown_by c.registers y)) no_input
      ∙ ap (from_state inverse none state) (shown_is c.registers r is.1 y is.0 inverted (distinct_right (sources ++ gater_outputs c) (register_nets c) (distinct_given c driven)) is.2 is.3)
