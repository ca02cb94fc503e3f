-- Cycles in words: how they come to be, and what they show.
use Rattle.std.proofs.Common.{◌≡◌, ◌<◌, ℕ, false, not, List, [], ◌∷◌, length, slice_get, slice_index_or, sym}
use Rattle.std.proofs.Common.{Some, ◌∙◌, ap, arith}
use Rattle.std.specs.Int.Bits.{bit_and}
use Rattle.std.proofs.lemmas.Bool.{and_parts}
use Rattle.std.proofs.lemmas.List.{length-map}
use Rattle.std.proofs.lemmas.Option.{slice_get-get_or}
use Rattle.cg_claim.specs.LeafBits.{is_never}
use Rattle.cg_claim.specs.Question.{hold_question, idle_question}
use Rattle.cg_machine.proofs.Settled.{wide}
use Rattle.cg_machine.specs.Claims.{Literal, literal_bit}
use Rattle.cg_machine.specs.Machine.{IsMachine, IsState, MachineData, walk_of}
use Rattle.cg_netlist.specs.Moment.{bit}
use Rattle.cg_word.proofs.Lanes.{lane_or}
use Rattle.cg_hold.proofs.Layings.{are_inputs, inputs_in, nets_are}
use Rattle.cg_hold.proofs.Shown.{idle_shown, move_shown}
use Rattle.cg_hold.specs.declared.cycles.CycleWords.{CycleWords}
use Rattle.cg_hold.specs.inner.Cycles.{AreCycles}
use Rattle.cg_hold.specs.inner.Laying.{AreMoves, IsStart, Lays}
use Rattle.cg_word.specs.Words.{HasOne, IsWord, lane, lane_bit, word_not}
use Rattle.cg_word.specs.inner.WordsLaws.{and_bit, not_bit}

pub cycles_made : (m : MachineData) → IsMachine m → (state start nets moves : List ℕ) → length state ≡ length m.circuit.registers → IsStart m state start → Lays (walk_of m) start nets → AreMoves m state nets moves
    → AreCycles m (record { nets = nets; moves = moves })
cycles_made m good state start nets moves long starts laid moved = record {
  state = state;
  is_state = long;
  inputs = inputs_in m good state start long starts.long;
  are_inputs = are_inputs m good state start long starts.long;
  nets = λ i below. nets_are m good state start long starts.long i below starts nets laid;
  moves = moved;
}

-- where a net is 0
pub plain_zeros : (nets : List ℕ) (l : Literal) (net word : ℕ) → l ≡ (net, false) → word ≡ word_not (slice_index_or nets net 0) → IsWord word (λ i. not (literal_bit (bit (lane i nets)) l))
plain_zeros nets l net word is inverse = record {
  at = λ i below.
      ap (lane_bit i) inverse
      ∙ (not_bit (slice_index_or nets net 0) i below
      ∙ (ap not (sym (lane_or i nets net)) ∙ ap (λ (k : Literal). not (literal_bit (bit (lane i nets)) k)) (sym is)));
}

module _ (m : MachineData) (good : IsMachine m) (words : CycleWords) (are : AreCycles m words) where
  states : (i : ℕ) → IsState m (lane i are.state)
  states i = length-map are.state (lane_bit i) ∙ are.is_state

  -- there is a word for each net
  pub nets_long : length words.nets ≡ length m.circuit.names
  nets_long =
      sym (length-map words.nets (lane_bit 0))
      ∙ (ap length (are.nets 0 (omega arith)) ∙ wide m good (lane 0 are.state) (are.inputs 0) (states 0) (are.are_inputs 0))

  module _ (l : Literal) (zeros : ℕ) (zeros_are : IsWord zeros (λ i. not (literal_bit (bit (lane i words.nets)) l))) where
    pub idle_seen : HasOne zeros → is_never m (idle_question (l ∷ [])) ≡ false
    idle_seen some =
        let i : ℕ = some.in_lane in
        idle_shown m good (lane i are.state) (are.inputs i) (lane i words.nets) (states i) (are.are_inputs i) (are.nets i some.below) l
        (sym (zeros_are.at i some.below) ∙ some.one)

    pub move_seen : (r : ℕ) → r < length m.circuit.registers → HasOne (bit_and zeros (slice_index_or words.moves r 0)) → is_never m (hold_question l r) ≡ false
    move_seen r there some =
        let i : ℕ = some.in_lane in
        let moves : ℕ = slice_index_or words.moves r 0 in
        let below : r < length words.moves = omega (arith, there, are.moves.long) in
        let at : slice_get words.moves r ≡ Some moves = slice_get-get_or words.moves r 0 below in
        let parts = and_parts (lane_bit i zeros) (lane_bit i moves) (sym (and_bit zeros moves i) ∙ some.one) in
        move_shown m good (lane i are.state) (are.inputs i) (lane i words.nets) (states i) (are.are_inputs i) (are.nets i some.below) l r there
        (sym (zeros_are.at i some.below) ∙ parts.0) (sym ((are.moves.each r moves at).at i some.below) ∙ parts.1)
