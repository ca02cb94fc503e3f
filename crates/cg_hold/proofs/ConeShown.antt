-- Cycles of the cone of one register's inputs: how they come to be, and what they show.
use Rattle.std.proofs.Common.{◌≡◌, ◌<◌, ℕ, zero, suc, Bool, true, false, not, if◌then◌else◌, List, [], ◌∷◌, length, slice_get, slice_index_or}
use Rattle.std.proofs.Common.{Option, Some, None, refl, sym, ◌∙◌, ap, subst}
use Rattle.std.specs.Int.Bits.{bit_and, bit_xor}
use Rattle.std.specs.List.{filter}
use Rattle.std.specs.Option.{option_map_or}
use Rattle.std.proofs.lemmas.Bool.{and_parts}
use Rattle.std.proofs.lemmas.List.{length-map}
use Rattle.std.proofs.lemmas.Option.{none-some, same_Some}
use Rattle.cg_cell.specs.Gates.{exclusive_or}
use Rattle.cg_claim.specs.LeafBits.{is_never}
use Rattle.cg_claim.specs.Question.{hold_question, idle_question}
use Rattle.cg_claim.specs.Reach.{inputs_of_register}
use Rattle.cg_word.proofs.Lanes.{lane_or, xor_bit}
use Rattle.cg_hold.proofs.Layings.{are_inputs, inputs_in, some_are}
use Rattle.cg_hold.proofs.Shown.{idle_shown, move_shown}
use Rattle.cg_hold.specs.inner.Choosing.{IsLiteralOf}
use Rattle.cg_hold.specs.inner.Laying.{Lays, StartsAt}
use Rattle.cg_hold.specs.inner.Looking.{AreConeCycles, IsLook}
use Rattle.cg_word.specs.Words.{HasOne, IsWord, LANES, lane, lane_bit}
use Rattle.cg_word.specs.inner.WordsLaws.{and_bit}
use Rattle.cg_machine.specs.Claims.{Literal, literal_bit}
use Rattle.cg_machine.specs.Machine.{IsMachine, MachineData, enable_of, next, next_of, values, walk_of}
use Rattle.cg_net.specs.NetSets.{is_in}
use Rattle.cg_netlist.proofs.Values.{same_values}
use Rattle.cg_netlist.specs.Circuit.{LogicCell, RegisterCell}
use Rattle.cg_netlist.specs.History.{next_value}
use Rattle.cg_netlist.specs.Moment.{bit, values_at}
use Rattle.cg_netlist_cone.proofs.Cones.{AreClosed, cone_closed, cone_has}
use Rattle.cg_netlist_cone.specs.Cone.{cone_of}
use Rattle.cg_netlist_cone.specs.declared.cone.Cone.{Cone}
use Rattle.cg_stage_list_laws.specs.Supports.{input_cone}

same_bit : (xs ys : List Bool) (y : ℕ) → slice_get xs y ≡ slice_get ys y → bit xs y ≡ bit ys y
same_bit [] [] y h = refl
same_bit [] (b ∷ ys) zero h = absurd (none-some b h)
same_bit [] (b ∷ ys) (suc y) h = same_bit [] ys y h
same_bit (a ∷ xs) [] zero h = absurd (none-some a (sym h))
same_bit (a ∷ xs) [] (suc y) h = same_bit xs [] y h
same_bit (a ∷ xs) (b ∷ ys) zero h = same_Some a b h
same_bit (a ∷ xs) (b ∷ ys) (suc y) h = same_bit xs ys y h

-- a register without an enable takes the same bit where the nets of the cone of its inputs are the same
next_same : (m : MachineData) (r : ℕ) → enable_of m r ≡ None → (xs ys state : List Bool) → ((y : ℕ) → is_in (input_cone m r) y ≡ true → slice_get xs y ≡ slice_get ys y) → next m xs state r ≡ next m ys state r
next_same m r free xs ys state same =
    ap (λ e. next_of (slice_get m.circuit.registers r) e xs (bit state r)) free
    ∙ (go (slice_get m.circuit.registers r) refl ∙ sym (ap (λ e. next_of (slice_get m.circuit.registers r) e ys (bit state r)) free))
  where
    go : (o : Option (RegisterCell ℕ ℕ)) → slice_get m.circuit.registers r ≡ o → next_of o None xs (bit state r) ≡ next_of o None ys (bit state r)
    go None at = refl
    go (Some cell) at = ap (λ bits. next_value cell.kind bits (bit state r)) (same_values xs ys cell.inputs (λ y among.
        same y (ap (λ o. is_in (cone_of (walk_of m) (option_map_or (λ (c : RegisterCell ℕ ℕ). c.inputs) o [])) y) at ∙ cone_has (walk_of m) cell.inputs y among)))

module _ (m : MachineData) (good : IsMachine m) (r : ℕ) where
  module _ (nets : List ℕ) (cone : Cone) (literals : List Literal) (look : IsLook m r nets cone literals) where
    closed : AreClosed (walk_of m) (is_in (input_cone m r))
    closed = cone_closed (walk_of m) (inputs_of_register m r) good.walk.ordered

    pub cone_cycles_made : (state start laid : List ℕ) (word own moves : ℕ) → length state ≡ length m.circuit.registers → (long : length start ≡ length m.circuit.names) → length laid ≡ length start
        → ((y word : ℕ) → is_in nets y ≡ true → slice_get start y ≡ Some word → StartsAt m state y word) → Lays (values_at m.circuit.cells cone.cells) start laid
        → IsWord word (λ i. next m (lane i laid) (lane i state) r) → own ≡ slice_index_or state r 0 → moves ≡ bit_xor word own → AreConeCycles m r laid moves
    cone_cycles_made state start laid word own moves state_long long same_long each lays is_word own_is moves_is =
        let ins : ℕ → List Bool = inputs_in m good state start state_long long in
        let cells : Lays (filter (λ (cell : LogicCell ℕ). is_in (input_cone m r) cell.output) (walk_of m)) start laid = subst (λ l. Lays l start laid) look.cone_is.cells lays in
        let nets_are : (i y : ℕ) → i < LANES → is_in (input_cone m r) y ≡ true → slice_get (lane i laid) y ≡ slice_get (values m (lane i state) (ins i)) y =
        λ i y below among. some_are m good state start state_long long i below (is_in (input_cone m r)) closed (λ z passes. look.within z (look.nets_are z ∙ passes)) (λ z w passes at. each z w (look.nets_are z ∙ passes) at) laid cells y among in
        record {
          state = state;
          is_state = state_long;
          inputs = ins;
          are_inputs = are_inputs m good state start state_long long;
          long = same_long ∙ long;
          nets_are = nets_are;
          moves_are = record {
            at = λ i below.
                ap (lane_bit i) moves_is
                ∙ (xor_bit word own i
                ∙ (ap (λ b. exclusive_or b (lane_bit i own)) (is_word.at i below ∙ next_same m r look.free (lane i laid) (values m (lane i state) (ins i)) (lane i state) (λ y among. nets_are i y below among))
                ∙ ap (λ b. exclusive_or (next m (values m (lane i state) (ins i)) (lane i state) r) b) (ap (lane_bit i) own_is ∙ sym (lane_or i state r))));
          };
        }

  module _ (words : List ℕ) (moves : ℕ) (are : AreConeCycles m r words moves) (l : Literal) (of : IsLiteralOf m r l) where
    abbrev vs : ℕ → List Bool
    vs i = values m (lane i are.state) (are.inputs i)

    same_literal : (i : ℕ) → i < LANES → literal_bit (bit (lane i words)) l ≡ literal_bit (bit (vs i)) l
    same_literal i below = ap (λ b. if l.1 then not b else b) (same_bit (lane i words) (vs i) l.0 (are.nets_are i l.0 below of.0))

    pub move_in_cone : r < length m.circuit.registers → (zeros : ℕ) → IsWord zeros (λ i. not (literal_bit (bit (lane i words)) l)) → HasOne (bit_and zeros moves) → is_never m (hold_question l r) ≡ false
    move_in_cone there zeros zeros_are some =
        let i : ℕ = some.in_lane in
        let parts = and_parts (lane_bit i zeros) (lane_bit i moves) (sym (and_bit zeros moves i) ∙ some.one) in
        let idle : not (literal_bit (bit (vs i)) l) ≡ true = ap not (sym (same_literal i some.below)) ∙ (sym (zeros_are.at i some.below) ∙ parts.0) in
        move_shown m good (lane i are.state) (are.inputs i) (vs i) (length-map are.state (lane_bit i) ∙ are.is_state) (are.are_inputs i) refl l r there idle (sym (are.moves_are.at i some.below) ∙ parts.1)

    pub idle_in_cone : (zeros : ℕ) → IsWord zeros (λ i. not (literal_bit (bit (lane i words)) l)) → HasOne zeros → is_never m (idle_question (l ∷ [])) ≡ false
    idle_in_cone zeros zeros_are some =
        let i : ℕ = some.in_lane in
        let idle : not (literal_bit (bit (vs i)) l) ≡ true = ap not (sym (same_literal i some.below)) ∙ (sym (zeros_are.at i some.below) ∙ some.one) in
        idle_shown m good (lane i are.state) (are.inputs i) (vs i) (length-map are.state (lane_bit i) ∙ are.is_state) (are.are_inputs i) refl l idle
