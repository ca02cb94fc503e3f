-- Where the test input was 1, each register of the written netlist rises with the clock.
use Rattle.std.proofs.Common.{◌≡◌, ℕ, zero, suc, ◌+◌, Bool, true, false, not, ◌&&◌, ◌||◌, List, [], ◌∷◌, ◌++◌, length}
use Rattle.std.proofs.Common.{slice_get, slice_index_or, is_some, Option, None, Some, refl, sym, ◌∙◌, ap, arith}
use Rattle.std.proofs.lemmas.Option.{none-some, same_Some}
use Rattle.cg_insert.specs.Insert.{own_tick}
use Rattle.cg_insert.specs.Insertion.{RisesAre}
use Rattle.cg_machine.specs.Machine.{MachineData, enable_of, load, values}
use Rattle.cg_netlist.specs.Circuit.{Circuit, RegisterCell, data_inputs}
use Rattle.cg_netlist.specs.History.{AreTicks, Moment, Tick, rises}
use Rattle.cg_net.specs.Names.{NetName}
use Rattle.cg_gate.specs.Headline.{with_bit, with_bits}
use Rattle.cg_gate.specs.Loading.{LoadsWhere}

-- the bit behind the others
bit_behind : (inputs : List Bool) (b : Bool) (n : ℕ) → n ≡ length inputs → slice_index_or (inputs ++ b ∷ []) n false ≡ b
bit_behind [] b n is = ap (λ k. slice_index_or (b ∷ []) k false) is
bit_behind (x ∷ inputs) b n is = ap (λ k. slice_index_or (x ∷ inputs ++ b ∷ []) k false) is ∙ bit_behind inputs b (length inputs) refl

both_on : (low high enabled tested : Bool) → low ≡ false → high ≡ true → tested ≡ true → ((not low && high) && (enabled || tested)) ≡ true
both_on false true true true low high on = refl
both_on false true false true low high on = refl
both_on low high enabled false is are on = absurd (cc)
both_on low false enabled tested is are on = absurd (cc)
both_on true high enabled tested is are on = absurd (cc)

module _ (read written : Circuit) (m : MachineData) (same : length (data_inputs m.circuit) ≡ length (data_inputs read)) (name : NetName) where
  loads : (wave : List Tick) (bits : List Bool) (history : List Moment) → AreTicks read wave → RisesAre written m (with_bits (Some name) wave bits) history
      → (k : ℕ) (low high : Tick) (before now : Moment) → slice_get wave k ≡ Some low → slice_get wave (suc k) ≡ Some high → low.clock ≡ false → high.clock ≡ true
      → slice_get bits k ≡ Some true → slice_get history k ≡ Some before → slice_get history (suc k) ≡ Some now
      → (r : ℕ) (register : RegisterCell ℕ ℕ) → slice_get written.registers r ≡ Some register → rises before.nets now.nets register ≡ true
  loads [] bits history ticks are k low high before now at next is rose on was there r register among = absurd (none-some low at)
  loads (a ∷ []) bits history ticks are k low high before now at next is rose on was there r register among = absurd (none-some high next)
  loads (a ∷ b ∷ wave) [] history ticks are k low high before now at next is rose on was there r register among = absurd (none-some true on)
  loads (a ∷ b ∷ wave) (x ∷ bits) [] ticks are k low high before now at next is rose on was there r register among = absurd (none-some before was)
  loads (a ∷ b ∷ wave) (x ∷ bits) (p ∷ []) ticks are k low high before now at next is rose on was there r register among = absurd (none-some now there)
  loads (a ∷ b ∷ wave) (x ∷ []) (p ∷ q ∷ history) ticks are k low high before now at next is rose on was there r register among = absurd are
  loads (a ∷ b ∷ wave) (x ∷ y ∷ bits) (p ∷ q ∷ history) ticks are zero low high before now at next is rose on was there r register among =
      let first : a ≡ low = same_Some a low at in
      let second : b ≡ high = same_Some b high next in
      let one : x ≡ true = same_Some x true on in
      let tested : slice_index_or (a.inputs ++ x ∷ []) (length (data_inputs m.circuit)) false ≡ true = bit_behind a.inputs x (length (data_inputs m.circuit)) (same ∙ sym ticks.0) ∙ one in
      let tick : Tick = with_bit (Some name) a x in
      ap (λ (u : Moment). rises u.nets now.nets register) (sym (same_Some p before was))
      ∙ (ap (λ (u : Moment). rises p.nets u.nets register) (sym (same_Some q now there))
      ∙ (are.0 r register among
      ∙ both_on a.clock b.clock (load (values m p.state (own_tick m tick).0.inputs) (enable_of m r)) (own_tick m tick).1 (ap (λ (t : Tick). t.clock) first ∙ is) (ap (λ (t : Tick). t.clock) second ∙ rose) tested))
  loads (a ∷ b ∷ wave) (x ∷ y ∷ bits) (p ∷ q ∷ history) ticks are (suc k) low high before now at next is rose on was there r register among =
      loads (b ∷ wave) (y ∷ bits) (q ∷ history) ticks.1 are.1 k low high before now at next is rose on was there r register among

  loads_where : (wave : List Tick) (bits : List Bool) (history : List Moment) → AreTicks read wave → RisesAre written m (with_bits (Some name) wave bits) history → LoadsWhere written wave bits history
  loads_where wave bits history ticks are k low high before now at next is rose on was there r register among =
      let e : k + 1 ≡ suc k = omega arith in
      loads wave bits history ticks are k low high before now at (ap (slice_get wave) (sym e) ∙ next) is rose on was (ap (slice_get history) (sym e) ∙ there) r register among

-- in a history whose rises are those of the machine with such a test input, where there is one
pub test_input_loads : (read written : Circuit) (m : MachineData) → length (data_inputs m.circuit) ≡ length (data_inputs read) → (test : Option NetName) → is_some test ≡ true
    → (wave : List Tick) (bits : List Bool) (history : List Moment) → AreTicks read wave → RisesAre written m (with_bits test wave bits) history → LoadsWhere written wave bits history
test_input_loads read written m same None none = absurd (cc)
test_input_loads read written m same (Some name) some = loads_where read written m same name
