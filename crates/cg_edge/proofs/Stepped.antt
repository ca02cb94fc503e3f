-- Registers that are moved one after another, and show their bits.
use Rattle.std.proofs.Common.{◌≡◌, ◌≢◌, ℕ, zero, suc, ◌+◌, ◌<◌, ◌≤◌, inl, inr, Bool, true, false, not, ◌&&◌, List, [], ◌∷◌, ◌++◌}
use Rattle.std.proofs.Common.{if◌then◌else◌, length, map, replicate, slice_get, slice_index_or, slice_set, Some, nat_eq, refl, sym, ◌∙◌}
use Rattle.std.proofs.Common.{ap, subst, arith}
use Rattle.std.specs.List.{All, IsDistinct, flat_map}
use Rattle.std.specs.Option.{option_map}
use Rattle.std.proofs.lemmas.Bool.{both_ways, false_from_ne_true}
use Rattle.std.proofs.lemmas.List.{length-map, length-replicate}
use Rattle.std.proofs.lemmas.Option.{same_Some, slice_get-map, slice_get_within}
use Rattle.cg_netlist.specs.Circuit.{Circuit, RegisterCell, clock_nets, register_nets, shown_nets}
use Rattle.cg_netlist.specs.History.{next_bit, next_value, rises}
use Rattle.cg_net.specs.NetSets.{is_in}
use Rattle.cg_netlist.specs.Moment.{bit, register_bits, shown_bits, values_at, zip_with}
use Rattle.cg_netlist.specs.WellFormed.{IsWellFormed}
use Rattle.cg_net.proofs.Members.{distinct_apart, distinct_right}
use Rattle.cg_net.proofs.TableLemmas.{same_or_not, slice_get-set_other, slice_get-set_same}
use Rattle.cg_netlist.proofs.Used.{in_flat}
use Rattle.cg_netlist.proofs.Values.{element_at, length-values_at, length-zip_with, same_values, split_lists, values_at-append, zip_with_at}
use Rattle.cg_edge.specs.inner.Keeping.{SameBut}
use Rattle.cg_edge.specs.declared.runs.Run.{Run}
use Rattle.cg_edge.specs.inner.Runs.{IsRun}
use Rattle.cg_edge.specs.inner.Stepped.{AreStepped, IsWritten, ShowBits}
use Rattle.cg_edge.proofs.Chained.{same_bit}
use Rattle.cg_edge.proofs.Facts.{distinct_registers, shown_within}
use Rattle.cg_edge.proofs.Follows.{clock_no_register}
use Rattle.cg_edge.proofs.InRuns.{run_clocked}
use Rattle.cg_edge.proofs.Moved.{moved}
use Rattle.cg_edge.proofs.Puts.{same_none, same_wider}
use Rattle.cg_edge.proofs.Written.{replicate_at, written_all, written_more, written_none, written_past}

-- the nets of two items are apart
flat_two : {X : Type 0} (f : X → List ℕ) (xs : List X) (j k : ℕ) (x y : X) → IsDistinct nat_eq (flat_map f xs) → slice_get xs j ≡ Some x → slice_get xs k ≡ Some y → j < k → (z : ℕ) → is_in (f x) z ≡ true → is_in (f y) z ≡ false
flat_two f [] j k x y distinct here there below z among = absurd (cc)
flat_two f (w ∷ xs) j zero x y distinct here there below z among = absurd (omega arith)
flat_two f (w ∷ xs) zero (suc k) x y distinct here there below z among =
    let first : is_in (f w) z ≡ true = ap (λ v. is_in (f v) z) (same_Some w x here) ∙ among in
    false_from_ne_true (is_in (f y) z) (λ both. both_ways (is_in (flat_map f xs) z) (distinct_apart (f w) (flat_map f xs) distinct z first) (in_flat f xs k y z there both))
flat_two f (w ∷ xs) (suc j) (suc k) x y distinct here there below z among = flat_two f xs j k x y (distinct_right (f w) (flat_map f xs) distinct) here there (omega (arith, below)) z among

flat_others : {X : Type 0} (f : X → List ℕ) (xs : List X) (j k : ℕ) (x y : X) → IsDistinct nat_eq (flat_map f xs) → slice_get xs j ≡ Some x → slice_get xs k ≡ Some y → j ≢ k → (z : ℕ) → is_in (f x) z ≡ true → is_in (f y) z ≡ false
flat_others f xs j k x y distinct here there differ z among = elim (Rattle.cg_edge.proofs.Bits.below_or j k) [
  | inr later ↦ false_from_ne_true (is_in (f y) z) (λ both. both_ways (is_in (f x) z) (flat_two f xs k j y x distinct there here later z both) among)
  | inl early ↦ flat_two f xs j k x y distinct here there (omega (arith, differ, early)) z among
]

-- what all registers show, of each, and back
module _ (nets : List Bool) where
  shown_parts : (r : RegisterCell ℕ ℕ) (b : Bool) (rs : List (RegisterCell ℕ ℕ)) (state : List Bool) → All (λ x. x < length nets) (shown_nets r) → values_at nets (shown_nets r ++ flat_map shown_nets rs) ≡ shown_bits r b ++ register_bits rs state
      → (values_at nets (shown_nets r) ≡ shown_bits r b) × (values_at nets (flat_map shown_nets rs) ≡ register_bits rs state)
  shown_parts r b rs state within shown =
      let many : length (values_at nets (shown_nets r)) ≡ length (shown_bits r b) = length-values_at nets (shown_nets r) within ∙ (length-map r.outputs (λ (o : ℕ × Bool). o.0) ∙ sym (length-map r.outputs (λ (o : ℕ × Bool). if o.1 then not b else b))) in
      split_lists (values_at nets (shown_nets r)) (shown_bits r b) (values_at nets (flat_map shown_nets rs)) (register_bits rs state) many (sym (values_at-append nets (shown_nets r) (flat_map shown_nets rs)) ∙ shown)

  pub shown_each : (rs : List (RegisterCell ℕ ℕ)) (state : List Bool) → ((k : ℕ) (r : RegisterCell ℕ ℕ) → slice_get rs k ≡ Some r → All (λ x. x < length nets) (shown_nets r)) → length state ≡ length rs
      → values_at nets (flat_map shown_nets rs) ≡ register_bits rs state → ShowBits rs state nets
  shown_each [] state within long shown k r b at is = absurd (cc)
  shown_each (s ∷ rs) [] within long shown k r b at is = absurd (omega (arith, long))
  shown_each (s ∷ rs) (t ∷ state) within long shown zero r b at is =
      ap (λ (x : RegisterCell ℕ ℕ). values_at nets (shown_nets x)) (sym (same_Some s r at))
      ∙ ((shown_parts s t rs state (within 0 s refl) shown).0 ∙ (ap (λ (x : RegisterCell ℕ ℕ). shown_bits x t) (same_Some s r at) ∙ ap (shown_bits r) (same_Some t b is)))
  shown_each (s ∷ rs) (t ∷ state) within long shown (suc k) r b at is =
      shown_each rs state (λ j x there. within (suc j) x there) (omega (arith, long)) (shown_parts s t rs state (within 0 s refl) shown).1 k r b at is

  pub shown_all : (rs : List (RegisterCell ℕ ℕ)) (state : List Bool) → length state ≡ length rs → ShowBits rs state nets → values_at nets (flat_map shown_nets rs) ≡ register_bits rs state
  shown_all [] state long shown = refl
  shown_all (s ∷ rs) [] long shown = absurd (omega (arith, long))
  shown_all (s ∷ rs) (t ∷ state) long shown =
      values_at-append nets (shown_nets s) (flat_map shown_nets rs)
      ∙ (ap (λ l. l ++ values_at nets (flat_map shown_nets rs)) (shown 0 s t refl refl) ∙ ap (λ l. shown_bits s t ++ l) (shown_all rs state (omega (arith, long)) (λ k r b at is. shown (suc k) r b at is)))

module _ (c : Circuit) (good : IsWellFormed c) (before now was : List Bool) where
  -- no register moved yet
  pub stepped_none : (rose : List Bool) → length was ≡ length c.registers → length now ≡ length c.names → rose ≡ replicate (length c.registers) false → values_at now (register_nets c) ≡ register_bits c.registers was → AreStepped c before now was 0 now was rose
  stepped_none rose many long none shown = record {
    count = many;
    moved = written_none was (zip_with (next_bit before now) c.registers was) (many ∙ sym (length-zip_with (next_bit before now) c.registers was (sym many)));
    told = subst (IsWritten 0 (replicate (length c.registers) false) (map (rises before now) c.registers)) (sym none)
        (written_none (replicate (length c.registers) false) (map (rises before now) c.registers) (length-replicate (length c.registers) false ∙ sym (length-map c.registers (rises before now))));
    same = same_none (register_nets c) now;
    shown = shown_each now c.registers was (λ k r at. shown_within c good k r at (length now) long) many shown;
  }

  -- one more register, which rises
  pub stepped_more : (k : ℕ) (r : RegisterCell ℕ ℕ) (v : Bool) (nets state rose new : List Bool) → slice_get c.registers k ≡ Some r → rises before now r ≡ true → v ≡ next_value r.kind (values_at before r.inputs) (slice_index_or state k false)
      → SameBut (shown_nets r) nets new → values_at new (shown_nets r) ≡ shown_bits r v → AreStepped c before now was k nets state rose → AreStepped c before now was (k + 1) new (slice_set state k v) (slice_set rose k true)
  stepped_more k r v nets state rose new at rise value same own stepped =
      let below : k < length c.registers = slice_get_within c.registers k r at in
      let up : option_map (rises before now) (slice_get c.registers k) ≡ Some true = ap (option_map (rises before now)) at ∙ ap (λ b. Some b) rise in
      let wanted : slice_get (zip_with (next_bit before now) c.registers was) k ≡ Some v = moved before now c.registers was state k true v stepped.count below stepped.moved up
      (λ e. ap (option_map (λ (x : RegisterCell ℕ ℕ). next_value x.kind (values_at before x.inputs) (slice_index_or state k false))) at ∙ ap (λ b. Some b) (sym value)) in
      let long : length state ≡ length c.registers = stepped.moved.long ∙ (length-zip_with (next_bit before now) c.registers was (sym stepped.count)) in
      record {
        count = stepped.count;
        moved = written_more k was (zip_with (next_bit before now) c.registers was) state v stepped.moved wanted;
        told = written_more k (replicate (length c.registers) false) (map (rises before now) c.registers) rose true stepped.told (slice_get-map (rises before now) c.registers k ∙ up);
        same = same_wider (shown_nets r) (register_nets c) now nets new (λ x among. in_flat shown_nets c.registers k r x at among) stepped.same same;
        shown = λ j s b here is. elim (same_or_not j k) [
          | inl e ↦
              let one : r ≡ s = same_Some r s (sym at ∙ (ap (slice_get c.registers) (sym e) ∙ here)) in
              let stored : v ≡ b = same_Some v b (sym (slice_get-set_same state k v (omega (arith, long, below))) ∙ (ap (slice_get (slice_set state k v)) (sym e) ∙ is)) in
              subst (λ (x : RegisterCell ℕ ℕ). values_at new (shown_nets x) ≡ shown_bits x b) one (own ∙ ap (shown_bits r) stored)
          | inr e ↦
              same_values new nets (shown_nets s) (λ x among. same.same x (flat_others shown_nets c.registers j k s r (distinct_registers c good) here at e x among))
              ∙ stepped.shown j s b here (sym (slice_get-set_other state k j v e) ∙ is)
        ];
      }

  -- registers that do not rise, one behind the other
  pub stepped_past : (k n : ℕ) (nets state rose : List Bool) → k ≤ n → n ≤ length c.registers → ((j : ℕ) (r : RegisterCell ℕ ℕ) → k ≤ j → j < n → slice_get c.registers j ≡ Some r → rises before now r ≡ false)
      → AreStepped c before now was k nets state rose → AreStepped c before now was n nets state rose
  stepped_past k n nets state rose further within still stepped = record {
    count = stepped.count;
    moved = written_past k n was (zip_with (next_bit before now) c.registers was) state further stepped.moved (λ j past below.
        let r = element_at c.registers j (omega (arith, below, within)) in
        let b = element_at was j (let many = stepped.count in omega (arith, below, within, many)) in
        zip_with_at (next_bit before now) c.registers was j r.0 b.0 r.1 b.1 ∙ (ap (λ t. Some (if t then next_value r.0.kind (values_at before r.0.inputs) b.0 else b.0)) (still j r.0 past below r.1) ∙ sym b.1));
    told = written_past k n (replicate (length c.registers) false) (map (rises before now) c.registers) rose further stepped.told (λ j past below.
        let r = element_at c.registers j (omega (arith, below, within)) in
        slice_get-map (rises before now) c.registers j ∙ (ap (option_map (rises before now)) r.1 ∙ (ap (λ b. Some b) (still j r.0 past below r.1) ∙ sym (replicate_at (length c.registers) j (omega (arith, below, within))))));
    same = stepped.same;
    shown = stepped.shown;
  }

  -- of a clock net the present bit is still that of before the step
  pub stepped_clock : (k x : ℕ) (nets state rose : List Bool) → is_in (clock_nets c) x ≡ true → AreStepped c before now was k nets state rose → bit nets x ≡ bit now x
  stepped_clock k x nets state rose among stepped = same_bit nets now x (stepped.same.same x (clock_no_register c good x among))

  pub stepped_state : (k : ℕ) (nets state rose : List Bool) → length c.registers ≤ k → AreStepped c before now was k nets state rose → state ≡ zip_with (next_bit before now) c.registers was
  stepped_state k nets state rose all stepped = written_all k was (zip_with (next_bit before now) c.registers was) state stepped.moved (let long = length-zip_with (next_bit before now) c.registers was (sym stepped.count) in omega (arith, long, all))

  pub stepped_rose : (k : ℕ) (nets state rose : List Bool) → length c.registers ≤ k → AreStepped c before now was k nets state rose → rose ≡ map (rises before now) c.registers
  stepped_rose k nets state rose all stepped = written_all k (replicate (length c.registers) false) (map (rises before now) c.registers) rose stepped.told (let long = length-map c.registers (rises before now) in omega (arith, long, all))

  pub stepped_shown : (k : ℕ) (nets state rose : List Bool) → AreStepped c before now was k nets state rose → values_at nets (register_nets c) ≡ register_bits c.registers state
  stepped_shown k nets state rose stepped = shown_all nets c.registers state (stepped.moved.long ∙ length-zip_with (next_bit before now) c.registers was (sym stepped.count)) stepped.shown

  -- whether the registers of a run rise
  pub run_rises : (k : ℕ) (run : Run) (b : Bool) (nets state rose : List Bool) → IsRun c.registers k run → run.end ≤ length c.registers → AreStepped c before now was k nets state rose → b ≡ (not (bit before run.clock) && bit nets run.clock)
      → (j : ℕ) (r : RegisterCell ℕ ℕ) → k ≤ j → j < run.end → slice_get c.registers j ≡ Some r → rises before now r ≡ b
  run_rises k run b nets state rose is within stepped rise j r past below at =
      ap (λ x. not (bit before x) && bit now x) (is.clocked j r past below at)
      ∙ (ap (λ y. not (bit before run.clock) && y) (sym (stepped_clock k run.clock nets state rose (run_clocked c good k run is within) stepped)) ∙ sym rise)
