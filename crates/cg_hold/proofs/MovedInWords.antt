-- The next bits of registers, in each lane.
use Rattle.std.proofs.Common.{◌≡◌, ◌<◌, ◌≤◌, ℕ, Bool, List, [], ◌∷◌, ◌++◌, length, slice_get, slice_index_or, if◌then◌else◌, Option, Some}
use Rattle.std.proofs.Common.{None, refl, sym, ◌∙◌, ap, subst, inl, inr, arith}
use Rattle.std.specs.Int.Bits.{bit_xor}
use Rattle.std.specs.Prelude.{◌+◌}
use Rattle.std.proofs.lemmas.List.{length-append, length-map}
use Rattle.cg_cell.specs.Gates.{exclusive_or}
use Rattle.cg_word.proofs.Lanes.{lane_or, xor_bit}
use Rattle.cg_hold.specs.inner.Laying.{AreMoves}
use Rattle.cg_word.specs.Words.{IsWord, LANES, lane, lane_bit}
use Rattle.cg_machine.proofs.Cycles.{delay_net_below, delay_next}
use Rattle.cg_machine.specs.Machine.{IsMachine, MachineData, delay_cell, enable_of, next, next_of}
use Rattle.cg_netlist.specs.Circuit.{RegisterCell}
use Rattle.cg_netlist.specs.History.{next_value}
use Rattle.cg_netlist.specs.Moment.{bit, values_at}
use Rattle.cg_netlist.proofs.SearchSteps.{push_cases}

-- the net of a delay register has a word
pub net_below : (m : MachineData) → IsMachine m → (nets : List ℕ) → length nets ≡ length m.circuit.names → (r : ℕ) (cell : RegisterCell ℕ ℕ) (net : ℕ)
    → slice_get m.circuit.registers r ≡ Some cell → slice_get cell.inputs 0 ≡ Some net → net < length nets
net_below m good nets long r cell net at first =
    let bits : List Bool = lane 0 nets in
    let same : length bits ≡ length nets = length-map nets (lane_bit 0) in
    subst (λ n. net < n) same (delay_net_below m good bits [] (same ∙ long) r cell net at first)

module _ (m : MachineData) (good : IsMachine m) (state nets : List ℕ) (long : length nets ≡ length m.circuit.names) (r : ℕ) where
  -- a delay register takes the bit of its net
  pub delay_word : (clock net output : ℕ) → m.own_registers ≤ r → slice_get m.circuit.registers r ≡ Some (delay_cell clock net output)
      → IsWord (slice_index_or nets net 0) (λ i. next m (lane i nets) (lane i state) r)
  delay_word clock net output added at = record {
    at = λ i below.
        sym (lane_or i nets net) ∙ delay_next m good (lane i nets) (lane i state) (length-map nets (lane_bit i) ∙ long) r clock net output added at;
  }

  module _ (cell : RegisterCell ℕ ℕ) (at : slice_get m.circuit.registers r ≡ Some cell) (own word : ℕ) (own_is : own ≡ slice_index_or state r 0)
      (computes : IsWord word (λ i. next_value cell.kind (values_at (lane i nets) cell.inputs) (lane_bit i own))) where
    own_bit : (i : ℕ) → lane_bit i own ≡ bit (lane i state) r
    own_bit i = ap (lane_bit i) own_is ∙ sym (lane_or i state r)

    word_bit : (i : ℕ) → i < LANES → lane_bit i word ≡ next_value cell.kind (values_at (lane i nets) cell.inputs) (bit (lane i state) r)
    word_bit i below = computes.at i below ∙ ap (next_value cell.kind (values_at (lane i nets) cell.inputs)) (own_bit i)

    next_is : (i : ℕ) (enable : Option ℕ) → enable_of m r ≡ enable → next_of (Some cell) enable (lane i nets) (bit (lane i state) r) ≡ next m (lane i nets) (lane i state) r
    next_is i enable is =
        ap (λ e. next_of (Some cell) e (lane i nets) (bit (lane i state) r)) (sym is)
        ∙ ap (λ (o : Option (RegisterCell ℕ ℕ)). next_of o (enable_of m r) (lane i nets) (bit (lane i state) r)) (sym at)

    -- another one its function, where it has no enable
    pub free_word : None ≡ enable_of m r → IsWord word (λ i. next m (lane i nets) (lane i state) r)
    free_word none = record { at = λ i below. word_bit i below ∙ next_is i None (sym none) }

    -- and else that where the enable is 1
    pub enabled_word : (enable chosen : ℕ) → Some enable ≡ enable_of m r → IsWord chosen (λ i. if lane_bit i (slice_index_or nets enable 0) then lane_bit i word else lane_bit i own)
        → IsWord chosen (λ i. next m (lane i nets) (lane i state) r)
    enabled_word enable chosen some is = record {
      at = λ i below.
          let D : Bool = next_value cell.kind (values_at (lane i nets) cell.inputs) (bit (lane i state) r) in
          is.at i below
          ∙ (ap (λ b. if b then lane_bit i word else lane_bit i own) (sym (lane_or i nets enable))
          ∙ (ap (λ d. if bit (lane i nets) enable then d else lane_bit i own) (word_bit i below)
          ∙ (ap (λ o. if bit (lane i nets) enable then D else o) (own_bit i) ∙ next_is i (Some enable) (sym some))));
    }

-- the registers up to a place
pub record MovesTo (m : MachineData) (state nets moves : List ℕ) (k : ℕ) : Type 0 where
  pub long : length moves ≡ k
  pub each : (r word : ℕ) → slice_get moves r ≡ Some word → IsWord word (λ i. exclusive_or (next m (lane i nets) (lane i state) r) (bit (lane i state) r))

pub moves_none : (m : MachineData) (state nets : List ℕ) → MovesTo m state nets [] 0
moves_none m state nets = record { long = refl; each = λ r word at. absurd (Rattle.std.proofs.lemmas.Option.none-some word at) }

pub moves_more : (m : MachineData) (state nets moves : List ℕ) (k r word : ℕ) → r ≡ k → IsWord word (λ i. next m (lane i nets) (lane i state) r) → MovesTo m state nets moves k
    → MovesTo m state nets (moves ++ bit_xor word (slice_index_or state k 0) ∷ []) (k + 1)
moves_more m state nets moves k r word same is so_far =
    let last : ℕ = bit_xor word (slice_index_or state k 0) in
    record {
      long = let l = length-append moves (last ∷ []) in omega (arith, l, so_far.long);
      each = λ j w at. elim (push_cases moves last w j at) [
        | inl before ↦ so_far.each j w before
        | inr here ↦
            let place : r ≡ j = same ∙ (sym so_far.long ∙ sym here.0) in
            let own : k ≡ j = sym so_far.long ∙ sym here.0 in
            subst (λ x. IsWord x (λ i. exclusive_or (next m (lane i nets) (lane i state) j) (bit (lane i state) j))) here.1
            (record {
              at = λ i below.
                  xor_bit word (slice_index_or state k 0) i
                  ∙ (ap (λ b. exclusive_or b (lane_bit i (slice_index_or state k 0))) (is.at i below ∙ ap (next m (lane i nets) (lane i state)) place)
                  ∙ ap (exclusive_or (next m (lane i nets) (lane i state) j)) (sym (lane_or i state k) ∙ ap (bit (lane i state)) own));
            })
      ];
    }

pub moves_all : (m : MachineData) (state nets moves : List ℕ) (k : ℕ) → k ≡ length m.circuit.registers → MovesTo m state nets moves k → AreMoves m state nets moves
moves_all m state nets moves k whole to = record { long = to.long ∙ whole; each = to.each }
