-- The two laws that tie the bits of all nets, as a function, to the nets that settle.
use Rattle.std.proofs.Common.{◌≡◌, ℕ, zero, suc, ◌+◌, ◌<◌, ◌≤◌, ◌⊎◌, Bool, true, false, ◌||◌, List, [], ◌∷◌, ◌++◌, map, length}
use Rattle.std.proofs.Common.{slice_get, slice_set, Some, nat_eq, if◌then◌else◌, refl, ap, sym, ◌∙◌, subst, inl, inr, arith}
use Rattle.std.specs.List.{All, range_with_len}
use Rattle.std.specs.Option.{option_to_list}
use Rattle.std.proofs.lemmas.Bool.{both_ways, eqb-true, false_from_ne_true, or_from}
use Rattle.std.proofs.lemmas.List.{length-map, map-append, length-set}
use Rattle.std.proofs.lemmas.Option.{slice_get_past, slice_get_within, slice_get-get_or}
use Rattle.cg_netlist.specs.Circuit.{Circuit, LogicCell, cell_nets, data_inputs, gater_outputs, given_nets, register_nets, used_nets}
use Rattle.cg_net.specs.NetSets.{is_in}
use Rattle.cg_netlist.specs.Moment.{CellsHold, Settles, bit, function_value, register_bits, values_at}
use Rattle.cg_netlist.specs.WellFormed.{AreRanks, IsDriven}
use Rattle.cg_netlist.proofs.Given.{data_given, driver_within, gater_given, given_driver, in_option, register_given}
use Rattle.cg_net.proofs.Members.{is_in_cases}
use Rattle.cg_netlist.proofs.OrderLemmas.{length-range_with_len}
use Rattle.cg_netlist.proofs.Settle.{settles_some}
use Rattle.cg_net.proofs.TableLemmas.{same_or_not, slice_get-set_other, slice_get-set_same}
use Rattle.cg_netlist.proofs.Values.{bit_shown, by_place, map_same, same_places, same_values, values_by}
use Rattle.cg_netlist.specs.Nets.{IsOrdered, IsWalk, beside, given_bits, nets_of, outputs, put_cells}

pub other_eqb : (x y : ℕ) → (x ≡ y → ⊥) → nat_eq x y ≡ false
other_eqb x y other = false_from_ne_true (nat_eq x y) (λ same. other (eqb-true x y same))

pub beside_at : (f : ℕ → Bool) (nets : List ℕ) (x : ℕ) → is_in nets x ≡ true → beside false nets (map f nets) x ≡ f x
beside_at f [] x among = absurd (both_ways false refl among)
beside_at f (n ∷ nets) x among = go (beside_at f nets x) (nat_eq x n) refl among
  where
    go : (is_in nets x ≡ true → beside false nets (map f nets) x ≡ f x) → (t : Bool) → nat_eq x n ≡ t → (t || is_in nets x) ≡ true → (if t then f n else beside false nets (map f nets) x) ≡ f x
    go later true here inside = ap f (sym (eqb-true x n here))
    go later false there inside = later inside

-- cells that are put in an order, where the nets of none of them are already as they should be
pub put_same : (cells : List (LogicCell ℕ)) (table vs : List Bool) → length table ≡ length vs → CellsHold cells vs → IsOrdered cells
    → ((x : ℕ) → is_in (outputs cells) x ≡ false → slice_get table x ≡ slice_get vs x) → put_cells cells table ≡ vs
put_same [] table vs long holds ordered same = same_places table vs long (λ k below. same k refl)
put_same (cell ∷ cells) table vs long holds ordered same =
    let v : Bool = function_value cell.function (values_at table cell.inputs) in
    let inputs : values_at table cell.inputs ≡ values_at vs cell.inputs = same_values table vs cell.inputs (λ x among. same x (ordered.0 x among)) in
    let is : slice_get vs cell.output ≡ Some v = holds 0 cell refl ∙ ap (λ bits. Some (function_value cell.function bits)) (sym inputs) in
    let within : cell.output < length table = omega (arith, slice_get_within vs cell.output v is, long) in
    put_same cells (slice_set table cell.output v) vs (length-set table cell.output v ∙ long) (λ k. holds (suc k)) ordered.1 (λ x out. elim (same_or_not x cell.output) [
      | inl e ↦ ap (slice_get (slice_set table cell.output v)) e ∙ (slice_get-set_same table cell.output v within ∙ (sym is ∙ ap (slice_get vs) (sym e)))
      | inr e ↦ slice_get-set_other table cell.output x v e ∙ same x (or_from (nat_eq x cell.output) (is_in (outputs cells) x) (other_eqb x cell.output e) out)
    ])

module _ (c : Circuit) (driven : IsDriven c) (walk : List (LogicCell ℕ)) (good : IsWalk c.cells walk) (clock : Bool) (inputs state gates : List Bool) where
  module _ (vs : List Bool) (settles : Settles c clock inputs state gates vs) where
    abbrev table : List Bool
    table = map (beside false (given_nets c) (given_bits c clock inputs state gates)) (range_with_len 0 (length c.names))

    given_bit : (x : ℕ) → is_in (given_nets c) x ≡ true → slice_get vs x ≡ Some (bit vs x)
    given_bit x among = slice_get-get_or vs x false (let within : x < length c.names = driver_within c driven x (given_driver c x among) in omega (arith, settles.long))

    kind : (nets : List ℕ) → ((x : ℕ) → is_in nets x ≡ true → is_in (given_nets c) x ≡ true) → map (bit vs) nets ≡ values_at vs nets
    kind nets given = sym (values_by (bit vs) vs nets (λ x among. given_bit x (given x among)))

    given_are : map (bit vs) (given_nets c) ≡ given_bits c clock inputs state gates
    given_are =
        let ins : map (bit vs) (data_inputs c) ≡ inputs = kind (data_inputs c) (data_given c) ∙ settles.shows_inputs in
        let clk : map (bit vs) (option_to_list c.clock) ≡ map (λ _. clock) (option_to_list c.clock) = map_same (bit vs) (λ _. clock) (option_to_list c.clock) (λ x among. bit_shown vs x clock (settles.shows_clock x (in_option c.clock x among))) in
        let gts : map (bit vs) (gater_outputs c) ≡ gates = kind (gater_outputs c) (gater_given c) ∙ settles.shows_gaters in
        let regs : map (bit vs) (register_nets c) ≡ register_bits c.registers state = kind (register_nets c) (register_given c) ∙ settles.shows_state in
        let one = map-append (bit vs) (data_inputs c ++ option_to_list c.clock ++ gater_outputs c) (register_nets c) in
        let two = map-append (bit vs) (data_inputs c ++ option_to_list c.clock) (gater_outputs c) in
        let three = map-append (bit vs) (data_inputs c) (option_to_list c.clock) in
        cc

    below_same : (x : ℕ) → x < length c.names → is_in (outputs walk) x ≡ false → slice_get table x ≡ slice_get vs x
    below_same x below out =
        elim (is_in_cases (given_nets c) (cell_nets c) x (driven.driven x below)) [
          | inl given ↦
              let at : slice_get table x ≡ Some (beside false (given_nets c) (given_bits c clock inputs state gates) (0 + x)) = by_place (beside false (given_nets c) (given_bits c clock inputs state gates)) (length c.names) 0 x below in
              let zero_x : 0 + x ≡ x = omega arith in
              at ∙ (ap (λ y. Some (beside false (given_nets c) (given_bits c clock inputs state gates) y)) zero_x
              ∙ (ap (λ bits. Some (beside false (given_nets c) bits x)) (sym given_are) ∙ (ap Some (beside_at (bit vs) (given_nets c) x given) ∙ sym (given_bit x given))))
          | inr output ↦ absurd (both_ways (is_in (outputs walk) x) out (good.whole x output))
        ]

    table_long : length table ≡ length c.names
    table_long = length-map (range_with_len 0 (length c.names)) (beside false (given_nets c) (given_bits c clock inputs state gates)) ∙ length-range_with_len (length c.names) 0

    start_same : (x : ℕ) → is_in (outputs walk) x ≡ false → slice_get table x ≡ slice_get vs x
    start_same x out = elim (below_or (length c.names) x) [
      | inl below ↦ below_same x below out
      | inr past ↦ slice_get_past table x (omega (arith, table_long)) ∙ sym (slice_get_past vs x (omega (arith, settles.long)))
    ]
      where
        below_or : (n x : ℕ) → (x < n) ⊎ (n ≤ x)
        below_or zero x = inr (omega arith)
        below_or (suc n) zero = inl (omega arith)
        below_or (suc n) (suc x) = elim (below_or n x) [ inl h ↦ inl (omega arith) | inr h ↦ inr (omega arith) ]

    pub nets_only : nets_of c walk clock inputs state gates ≡ vs
    unfolding nets_of
    nets_only = put_same walk table vs (table_long ∙ sym settles.long) (λ j cell at. let k = good.of_cells j cell at in settles.holds k.0 cell k.1) good.ordered start_same

  pub nets_settle : All (λ net. net < length c.names) (used_nets c) → (ranks : List ℕ) → AreRanks c.cells ranks → length inputs ≡ length (data_inputs c) → length state ≡ length c.registers → length gates ≡ length c.gaters
      → Settles c clock inputs state gates (nets_of c walk clock inputs state gates)
  nets_settle used ranks ranked inputs_long state_long gates_long =
      let some = settles_some c driven used ranks ranked clock inputs state gates inputs_long state_long gates_long in
      subst (Settles c clock inputs state gates) (sym (nets_only some.0 some.1)) some.1
