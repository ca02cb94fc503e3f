-- The bits of a machine's cycle: inputs and registers show them, and cells compute them by their terms.
use Rattle.std.proofs.Common.{◌≡◌, ℕ, suc, ◌<◌, Bool, true, false, not, ◌||◌, if◌then◌else◌, List, [], ◌∷◌, map, length, IsTrue}
use Rattle.std.proofs.Common.{nat_eq, slice_get, Option, None, Some, option_map, refl, sym, ◌∙◌, ap, subst, arith, inl, inr}
use Rattle.std.specs.List.{flat_map, list_any}
use Rattle.std.specs.Option.{option_map_or}
use Rattle.std.proofs.lemmas.Bool.{both_ways, eqb-true, or_cases, or_left, or_right}
use Rattle.std.proofs.lemmas.List.{length-map, map-append}
use Rattle.std.proofs.lemmas.Option.{slice_get-get_or, same_Some}
use Rattle.cg_cell.specs.Domain.{Seen}
use Rattle.cg_cell.specs.Term.{term_value}
use Rattle.cg_cell.proofs.EvalCovers.{cover_value_is}
use Rattle.cg_netlist.specs.Circuit.{Circuit, LogicCell, RegisterCell, cell_nets, data_inputs, gater_outputs, given_nets}
use Rattle.cg_net.specs.NetSets.{is_in}
use Rattle.cg_netlist.specs.Circuit.{register_nets, shown_nets, used_nets}
use Rattle.cg_netlist.specs.Moment.{Settles, bit, function_value, register_bits, shown_bits, values_at}
use Rattle.cg_netlist.specs.WellFormed.{IsOver, RegisterFits}
use Rattle.cg_netlist.specs.declared.parts.LogicFunction.{LogicFunction}
use Rattle.cg_netlist.specs.declared.parts.LogicFunction.TheVariants.{Cover, Cell}
use Rattle.cg_netlist.proofs.Given.{Data, Clock, Gate, Shown, data_given, driver_within, given_driver, kind_of, register_given}
use Rattle.cg_net.proofs.Members.{All-member, is_in_cases}
use Rattle.cg_netlist.proofs.Values.{bit_shown, split_lists, values_by}
use Rattle.cg_machine.specs.Machine.{IsInputs, IsMachine, IsState, MachineData, values, walk_of}
use Rattle.cg_netlist.specs.Nets.{beside}
use Rattle.cg_machine.proofs.Bits.{bit_past}
use Rattle.cg_netlist.proofs.Used.{data_is_used, input_is_used}
use Rattle.cg_machine.proofs.Lists.{all_at, below_or}
use Rattle.cg_machine.proofs.Settled.{settled}
use Rattle.cg_claim.specs.Build.{Values, from_state, function_term, given, output_at, shown_at, shown_by}
use Rattle.cg_claim.specs.Reach.{feeds}
use Rattle.cg_claim.proofs.CellsLaid.{AreTerms, IsFit}
use Rattle.cg_cell.proofs.Runs.{Has}
use Rattle.cg_claim.proofs.NextBits.{IsRegister, option_term}

-- what registers show
outputs_bit : (f : ℕ → Bool) (outs : List (ℕ × Bool)) (b : Bool) (y : ℕ) (inverted : Bool) → map f (map (λ o. o.0) outs) ≡ map (λ o. if o.1 then not b else b) outs
    → output_at outs y ≡ Some inverted → f y ≡ (if inverted then not b else b)
outputs_bit f [] b y inverted same at = absurd (cc)
outputs_bit f (o ∷ outs) b y inverted same at = go (outputs_bit f outs b y inverted) (nat_eq y o.0) refl at
  where
    go : (map f (map (λ o. o.0) outs) ≡ map (λ o. if o.1 then not b else b) outs → output_at outs y ≡ Some inverted → f y ≡ (if inverted then not b else b))
        → (t : Bool) → nat_eq y o.0 ≡ t → (if t then Some o.1 else output_at outs y) ≡ Some inverted → f y ≡ (if inverted then not b else b)
    go known true here is =
        let e : o.1 ≡ inverted = cc in
        let head : f o.0 ≡ (if o.1 then not b else b) = cc in
        ap f (eqb-true y o.0 here) ∙ (head ∙ ap (λ i. if i then not b else b) e)
    go known false there is =
        let tail : map f (map (λ o. o.0) outs) ≡ map (λ o. if o.1 then not b else b) outs = cc in
        known tail is

shown_bit : (f : ℕ → Bool) (rs : List (RegisterCell ℕ ℕ)) (state : List Bool) (y : ℕ) (p : ℕ × Bool) → length state ≡ length rs
    → map f (flat_map shown_nets rs) ≡ register_bits rs state → shown_by rs y ≡ Some p → f y ≡ (if p.1 then not (bit state p.0) else bit state p.0)
shown_bit f [] state y p long same by = absurd (cc)
shown_bit f (r ∷ rs) [] y p long same by = absurd (omega arith)
shown_bit f (r ∷ rs) (b ∷ bs) y p long same by =
    let parts = split_lists (map f (shown_nets r)) (shown_bits r b) (map f (flat_map shown_nets rs)) (register_bits rs bs)
    (length-map (shown_nets r) f ∙ (length-map r.outputs (λ output. output.0) ∙ sym (length-map r.outputs (λ output. if output.1 then not b else b))))
    (sym (map-append f (shown_nets r) (flat_map shown_nets rs)) ∙ same) in
    go (λ q rest is. shown_bit f rs bs y q (omega arith) rest is) parts.0 parts.1 (output_at r.outputs y) refl by
  where
    later : ((q : ℕ × Bool) → map f (flat_map shown_nets rs) ≡ register_bits rs bs → shown_by rs y ≡ Some q → f y ≡ (if q.1 then not (bit bs q.0) else bit bs q.0)) → map f (flat_map shown_nets rs) ≡ register_bits rs bs → (o : Option (ℕ × Bool)) → shown_by rs y ≡ o → option_map (λ (p : ℕ × Bool). (suc p.0, p.1)) o ≡ Some p → f y ≡ (if p.1 then not (bit (b ∷ bs) p.0) else bit (b ∷ bs) p.0)
    later known rest None is at = absurd (cc)
    later known rest (Some q) is at =
        let e : (suc q.0, q.1) ≡ p = same_Some (suc q.0, q.1) p at in
        known q rest is ∙ ap (λ (z : ℕ × Bool). if z.1 then not (bit (b ∷ bs) z.0) else bit (b ∷ bs) z.0) e

    go : ((q : ℕ × Bool) → map f (flat_map shown_nets rs) ≡ register_bits rs bs → shown_by rs y ≡ Some q → f y ≡ (if q.1 then not (bit bs q.0) else bit bs q.0)) → map f (shown_nets r) ≡ shown_bits r b → map f (flat_map shown_nets rs) ≡ register_bits rs bs → (o : Option Bool) → output_at r.outputs y ≡ o
        → shown_at o (shown_by rs y) ≡ Some p → f y ≡ (if p.1 then not (bit (b ∷ bs) p.0) else bit (b ∷ bs) p.0)
    go known first rest None is at = later known rest (shown_by rs y) refl at
    go known first rest (Some inverted) is at =
        let e : (0, inverted) ≡ p = same_Some (0, inverted) p at in
        outputs_bit f r.outputs b y inverted first is ∙ ap (λ (z : ℕ × Bool). if z.1 then not (bit (b ∷ bs) z.0) else bit (b ∷ bs) z.0) e

none_out : (outs : List (ℕ × Bool)) (y : ℕ) → is_in (map (λ o. o.0) outs) y ≡ true → output_at outs y ≡ None → ⊥
none_out [] y among none = both_ways false refl among
none_out (o ∷ outs) y among none = go (none_out outs y) (nat_eq y o.0) refl among none
  where
    go : (is_in (map (λ o. o.0) outs) y ≡ true → output_at outs y ≡ None → ⊥) → (t : Bool) → nat_eq y o.0 ≡ t → (t || is_in (map (λ o. o.0) outs) y) ≡ true → (if t then Some o.1 else output_at outs y) ≡ None → ⊥
    go known true here inside is = cc
    go known false there inside is = known inside is

none_shown : (rs : List (RegisterCell ℕ ℕ)) (y : ℕ) → is_in (flat_map shown_nets rs) y ≡ true → shown_by rs y ≡ None → ⊥
none_shown [] y among none = both_ways false refl among
none_shown (r ∷ rs) y among none = go (none_shown rs y) (output_at r.outputs y) refl none
  where
    later : (is_in (flat_map shown_nets rs) y ≡ true → shown_by rs y ≡ None → ⊥) → is_in (flat_map shown_nets rs) y ≡ true → (o : Option (ℕ × Bool)) → shown_by rs y ≡ o → option_map {U = ℕ × Bool} (λ (p : ℕ × Bool). (suc p.0, p.1)) o ≡ None → ⊥
    later known inside None is at = known inside is
    later known inside (Some q) is at = cc

    go : (is_in (flat_map shown_nets rs) y ≡ true → shown_by rs y ≡ None → ⊥) → (o : Option Bool) → output_at r.outputs y ≡ o → shown_at o (shown_by rs y) ≡ None → ⊥
    go known None is at = elim (is_in_cases (shown_nets r) (flat_map shown_nets rs) y among) [
      | inl here ↦ none_out r.outputs y here is
      | inr there ↦ later known there (shown_by rs y) refl at
    ]
    go known (Some inverted) is at = cc

out_in : (outs : List (ℕ × Bool)) (y : ℕ) (inverted : Bool) → output_at outs y ≡ Some inverted → is_in (map (λ o. o.0) outs) y ≡ true
out_in [] y inverted at = absurd (cc)
out_in (o ∷ outs) y inverted at = go (out_in outs y inverted) (nat_eq y o.0) refl at
  where
    go : (output_at outs y ≡ Some inverted → is_in (map (λ o. o.0) outs) y ≡ true) → (t : Bool) → nat_eq y o.0 ≡ t → (if t then Some o.1 else output_at outs y) ≡ Some inverted → (t || is_in (map (λ o. o.0) outs) y) ≡ true
    go known true here is = refl
    go known false there is = known is

-- the register that shows its bit at a net
pub shown_in : (rs : List (RegisterCell ℕ ℕ)) (y : ℕ) (p : ℕ × Bool) → shown_by rs y ≡ Some p → (cell : RegisterCell ℕ ℕ) × (slice_get rs p.0 ≡ Some cell) × (is_in (shown_nets cell) y ≡ true)
shown_in [] y p by = absurd (cc)
shown_in (r ∷ rs) y p by = go (shown_in rs y) (output_at r.outputs y) refl by
  where
    later : ((q : ℕ × Bool) → shown_by rs y ≡ Some q → (cell : RegisterCell ℕ ℕ) × (slice_get rs q.0 ≡ Some cell) × (is_in (shown_nets cell) y ≡ true)) → (o : Option (ℕ × Bool)) → shown_by rs y ≡ o → option_map (λ (p : ℕ × Bool). (suc p.0, p.1)) o ≡ Some p → (cell : RegisterCell ℕ ℕ) × (slice_get (r ∷ rs) p.0 ≡ Some cell) × (is_in (shown_nets cell) y ≡ true)
    later known None is at = absurd (cc)
    later known (Some q) is at =
        let e : (suc q.0, q.1) ≡ p = same_Some (suc q.0, q.1) p at in
        let c : (cell : RegisterCell ℕ ℕ) × (slice_get rs q.0 ≡ Some cell) × (is_in (shown_nets cell) y ≡ true) = known q is in
        subst (λ (z : ℕ × Bool). (cell : RegisterCell ℕ ℕ) × (slice_get (r ∷ rs) z.0 ≡ Some cell) × (is_in (shown_nets cell) y ≡ true)) e (c.0, c.1, c.2)

    go : ((q : ℕ × Bool) → shown_by rs y ≡ Some q → (cell : RegisterCell ℕ ℕ) × (slice_get rs q.0 ≡ Some cell) × (is_in (shown_nets cell) y ≡ true)) → (o : Option Bool) → output_at r.outputs y ≡ o → shown_at o (shown_by rs y) ≡ Some p → (cell : RegisterCell ℕ ℕ) × (slice_get (r ∷ rs) p.0 ≡ Some cell) × (is_in (shown_nets cell) y ≡ true)
    go known None is at = later known (shown_by rs y) refl at
    go known (Some inverted) is at =
        let e : (0, inverted) ≡ p = same_Some (0, inverted) p at in
        subst (λ (z : ℕ × Bool). (cell : RegisterCell ℕ ℕ) × (slice_get (r ∷ rs) z.0 ≡ Some cell) × (is_in (shown_nets cell) y ≡ true)) e (r, refl, out_in r.outputs y inverted is)

any_common : (nets ys : List ℕ) (y : ℕ) → is_in nets y ≡ true → is_in ys y ≡ true → list_any (is_in nets) ys ≡ true
any_common nets [] y here there = absurd (both_ways false refl there)
any_common nets (z ∷ ys) y here there = elim (or_cases (nat_eq y z) (is_in ys y) there) [
  | inl same ↦ or_left (is_in nets z) (list_any (is_in nets) ys) (subst (λ x. is_in nets x ≡ true) (eqb-true y z same) here)
  | inr later ↦ or_right (is_in nets z) (list_any (is_in nets) ys) (any_common nets ys y here later)
]

-- a register that shows its bit at one of the nets feeds them
pub shown_feeds : (m : MachineData) (nets : List ℕ) (y : ℕ) (p : ℕ × Bool) → is_in nets y ≡ true → shown_by m.circuit.registers y ≡ Some p → feeds m nets p.0 ≡ true
shown_feeds m nets y p among by =
    let c = shown_in m.circuit.registers y p by in
    ap (λ o. option_map_or (λ cell. list_any (is_in nets) (shown_nets cell)) o false) c.1 ∙ any_common nets (shown_nets c.0) y among c.2

-- a cell's function is its term's value
function_is : (f : LogicFunction) (bs : List Bool) → IsOver (length bs) f → function_value f bs ≡ term_value bs (function_term f)
function_is (Cover cover) bs over = sym (cover_value_is bs cover over.1)
function_is (Cell cell) bs over = option_term bs cell.function

beside_map : (f : ℕ → Bool) (nets : List ℕ) (bits : List Bool) (y : ℕ) → map f nets ≡ bits → is_in nets y ≡ true → beside false nets bits y ≡ f y
beside_map f [] bits y same among = absurd (both_ways false refl among)
beside_map f (n ∷ nets) [] y same among = absurd (cc)
beside_map f (n ∷ nets) (b ∷ bits) y same among = go (beside_map f nets bits y) (nat_eq y n) refl among
  where
    go : (map f nets ≡ bits → is_in nets y ≡ true → beside false nets bits y ≡ f y) → (t : Bool) → nat_eq y n ≡ t → (t || is_in nets y) ≡ true → (if t then b else beside false nets bits y) ≡ f y
    go known true here inside = let head : f n ≡ b = cc in sym head ∙ ap f (sym (eqb-true y n here))
    go known false there inside = let tail : map f nets ≡ bits = cc in known tail inside

module _ (m : MachineData) (good : IsMachine m) (s x : List Bool) (state_long : IsState m s) (inputs_long : IsInputs m x) where
  pub settles : Settles m.circuit false x s [] (values m s x)
  settles = settled m good s x state_long inputs_long

  below : (y : ℕ) → is_in (used_nets m.circuit) y ≡ true → y < length m.circuit.names
  below y used = All-member (λ net. net < length m.circuit.names) (used_nets m.circuit) y good.well_formed.used used

  get_bit : (y : ℕ) → y < length m.circuit.names → slice_get (values m s x) y ≡ Some (bit (values m s x) y)
  get_bit y below = slice_get-get_or (values m s x) y false (omega (arith, below, settles.long))

  at_nets : (nets : List ℕ) → ((y : ℕ) → is_in nets y ≡ true → y < length m.circuit.names) → values_at (values m s x) nets ≡ map (bit (values m s x)) nets
  at_nets nets within = values_by (bit (values m s x)) (values m s x) nets (λ y among. get_bit y (within y among))

  given_below : (y : ℕ) → is_in (given_nets m.circuit) y ≡ true → y < length m.circuit.names
  given_below y among = driver_within m.circuit good.well_formed.driven y (given_driver m.circuit y among)

  -- a net that is no output of a cell
  pub bits_given : (y : ℕ) → is_in (cell_nets m.circuit) y ≡ false → bit (values m s x) y ≡ given not false m.circuit (beside false (data_inputs m.circuit) x) (bit s) y
  bits_given y out = go (is_in (data_inputs m.circuit) y) refl
    where
      inputs_are : map (bit (values m s x)) (data_inputs m.circuit) ≡ x
      inputs_are = sym (at_nets (data_inputs m.circuit) (λ z among. given_below z (data_given m.circuit z among))) ∙ settles.shows_inputs

      state_is : map (bit (values m s x)) (register_nets m.circuit) ≡ register_bits m.circuit.registers s
      state_is = sym (at_nets (register_nets m.circuit) (λ z among. given_below z (register_given m.circuit z among))) ∙ settles.shows_state

      no_gate : is_in (gater_outputs m.circuit) y ≡ true → ⊥
      no_gate among = both_ways (is_in (gater_outputs m.circuit) y) (ap (λ gs. is_in (map (λ gater. gater.output) gs) y) good.no_gaters) among

      other : is_in (data_inputs m.circuit) y ≡ false → shown_by m.circuit.registers y ≡ None → bit (values m s x) y ≡ false
      other no_input no_register = elim (below_or (length m.circuit.names) y) [
        | inr past ↦ bit_past (values m s x) y (omega (arith, past, settles.long))
        | inl inside ↦ elim (is_in_cases (given_nets m.circuit) (cell_nets m.circuit) y (good.well_formed.driven.driven y inside)) [
          | inr cell ↦ absurd (both_ways (is_in (cell_nets m.circuit) y) out cell)
          | inl among ↦ elim (kind_of m.circuit y among) [
            | Data input ↦ absurd (both_ways (is_in (data_inputs m.circuit) y) no_input input)
            | Clock is ↦ bit_shown (values m s x) y false (settles.shows_clock y is)
            | Gate gate ↦ absurd (no_gate gate)
            | Shown register ↦ absurd (none_shown m.circuit.registers y register no_register)
          ]
        ]
      ]

      by : is_in (data_inputs m.circuit) y ≡ false → (o : Option (ℕ × Bool)) → shown_by m.circuit.registers y ≡ o → bit (values m s x) y ≡ from_state not false (bit s) o
      by no_input None is = other no_input is
      by no_input (Some p) is = shown_bit (bit (values m s x)) m.circuit.registers s y p state_long state_is is

      go : (b : Bool) → is_in (data_inputs m.circuit) y ≡ b → bit (values m s x) y ≡ (if b then beside false (data_inputs m.circuit) x y else from_state not false (bit s) (shown_by m.circuit.registers y))
      go true is = sym (beside_map (bit (values m s x)) (data_inputs m.circuit) x y inputs_are is)
      go false is = by is (shown_by m.circuit.registers y) refl

  -- cells compute the bits by their terms
  pub are_terms : AreTerms (walk_of m) (bit (values m s x))
  are_terms j cell at =
      let k = good.walk.of_cells j cell at in
      let used : (y : ℕ) → is_in cell.inputs y ≡ true → y < length m.circuit.names = λ y among. below y (input_is_used m.circuit k.0 y cell k.1 among) in
      let ins : values_at (values m s x) cell.inputs ≡ map (bit (values m s x)) cell.inputs = at_nets cell.inputs used in
      let over : IsOver (length cell.inputs) cell.function = all_at (λ (cell : LogicCell ℕ). IsOver (length cell.inputs) cell.function) m.circuit.cells k.0 cell good.well_formed.functions k.1 in
      bit_shown (values m s x) cell.output (function_value cell.function (values_at (values m s x) cell.inputs)) (settles.holds k.0 cell k.1)
      ∙ (ap (function_value cell.function) ins
      ∙ function_is cell.function (map (bit (values m s x)) cell.inputs) (subst (λ n. IsOver n cell.function) (sym (length-map cell.inputs (bit (values m s x)))) over))

  -- and registers take their inputs
  pub registers_are : (r : ℕ) (cell : RegisterCell ℕ ℕ) → slice_get m.circuit.registers r ≡ Some cell → IsRegister (values m s x) cell
  registers_are r cell at = record {
    fits = all_at RegisterFits m.circuit.registers r cell good.well_formed.fitting at;
    inputs = at_nets cell.inputs (λ y among. below y (data_is_used m.circuit r y cell at among));
  }

-- what a table of given nets holds
module _ (d : Values) (bits : List Bool) (fit : IsFit d bits) (s : Seen) (c : Circuit) (input state : ℕ → ℕ) where
  pub given_valid : Has d.ops bits s 0 false → ((y : ℕ) → IsTrue (d.ops.is_valid s (input y))) → ((r : ℕ) → (b : Bool) × Has d.ops bits s (state r) b) → (y : ℕ) → IsTrue (d.ops.is_valid s (given d.inverse 0 c input state y))
  given_valid zero_has inputs states y = go (is_in (data_inputs c) y)
    where
      inv : (r : ℕ) (b : Bool) → IsTrue (d.ops.is_valid s (if b then d.inverse (state r) else state r))
      inv r true = let h = states r in (fit.inverse s (state r) h.0 h.1).valid
      inv r false = (states r).1.valid

      by : (o : Option (ℕ × Bool)) → IsTrue (d.ops.is_valid s (from_state d.inverse 0 state o))
      by None = zero_has.valid
      by (Some p) = inv p.0 p.1

      go : (b : Bool) → IsTrue (d.ops.is_valid s (if b then input y else from_state d.inverse 0 state (shown_by c.registers y)))
      go true = inputs y
      go false = by (shown_by c.registers y)

  pub given_same : (inputs states : ℕ → Bool) (y : ℕ) → Has d.ops bits s 0 false
      → (is_in (data_inputs c) y ≡ true → d.ops.bit s bits (input y) ≡ inputs y)
      → ((p : ℕ × Bool) → shown_by c.registers y ≡ Some p → Has d.ops bits s (state p.0) (states p.0))
      → d.ops.bit s bits (given d.inverse 0 c input state y) ≡ given not false c inputs states y
  given_same inputs states y zero_has ins sts = go (is_in (data_inputs c) y) refl
    where
      inv : (r : ℕ) (b : Bool) → Has d.ops bits s (state r) (states r) → d.ops.bit s bits (if b then d.inverse (state r) else state r) ≡ (if b then not (states r) else states r)
      inv r true h = (fit.inverse s (state r) (states r) h).bit
      inv r false h = h.bit

      by : (o : Option (ℕ × Bool)) → shown_by c.registers y ≡ o → d.ops.bit s bits (from_state d.inverse 0 state o) ≡ from_state not false states o
      by None is = zero_has.bit
      by (Some p) is = inv p.0 p.1 (sts p is)

      go : (b : Bool) → is_in (data_inputs c) y ≡ b → d.ops.bit s bits (if b then input y else from_state d.inverse 0 state (shown_by c.registers y)) ≡ (if b then inputs y else from_state not false states (shown_by c.registers y))
      go true is = ins is
      go false is = by (shown_by c.registers y) refl
