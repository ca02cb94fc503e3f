-- At a low clock all clock nets are low, so no register rises and none asks for the bits before: whichever are kept will do.
use Rattle.std.proofs.Common.{◌≡◌, ℕ, zero, suc, ◌<◌, Bool, true, false, not, if◌then◌else◌, List, map, slice_get, slice_index}
use Rattle.std.proofs.Common.{slice_index_or, Some, refl, ap, sym, ◌∙◌, subst, inl, inr, arith}
use Rattle.std.specs.Option.{option_to_list}
use Rattle.std.proofs.lemmas.Bool.{and_right}
use Rattle.cg_net.specs.NetSets.{is_in}
use Rattle.cg_net.proofs.Members.{is_in_cases, place_of_member}
use Rattle.cg_netlist.specs.Circuit.{Circuit, GatingCell, RegisterCell, clock_nets, gater_outputs}
use Rattle.cg_netlist.specs.History.{next_bit, next_value, rises}
use Rattle.cg_netlist.specs.Moment.{bit, values_at, zip_with}
use Rattle.cg_netlist.specs.WellFormed.{IsWellFormed}
use Rattle.cg_netlist.proofs.Given.{in_option}
use Rattle.cg_netlist.proofs.Values.{under_map, zip_with_same}
use Rattle.cg_edge.specs.inner.Keeping.{ShowClocks}
use Rattle.cg_edge.proofs.Facts.{register_clocked}
use Rattle.cg_edge.proofs.Follows.{map_same_at}

module _ (c : Circuit) (good : IsWellFormed c) where
  module _ (latches nets : List Bool) (shows : ShowClocks c false latches nets) where
    -- a gating cell passes what its clock pin has: the clock, or the output of a gating cell of a lower number
    low_gate : (n k : ℕ) (a : GatingCell ℕ) → slice_index good.numbers k < n → slice_get c.gaters k ≡ Some a → bit nets a.output ≡ false
    low_gate zero k a below at = absurd (omega arith)
    low_gate (suc n) k a below at =
        let pin : bit nets a.clock ≡ false = elim (good.chained.chained k a at) [
          | inl clk ↦ shows.on_clock a.clock clk
          | inr lower ↦ subst (λ x. bit nets x ≡ false) lower.3 (low_gate n lower.0 lower.1 (let less : slice_index good.numbers lower.0 < slice_index good.numbers k = lower.4 in omega arith) lower.2)
        ] in
        shows.on_gaters k a at ∙ and_right (slice_index_or latches k false) (bit nets a.clock) pin

    low_clock_net : (x : ℕ) → is_in (clock_nets c) x ≡ true → bit nets x ≡ false
    low_clock_net x among = elim (is_in_cases (option_to_list c.clock) (gater_outputs c) x among) [
      | inl clk ↦ shows.on_clock x (in_option c.clock x clk)
      | inr gate ↦
          let place : (k : ℕ) × (slice_get (gater_outputs c) k ≡ Some x) = place_of_member (gater_outputs c) x gate in
          let gater : (a : GatingCell ℕ) × (slice_get c.gaters place.0 ≡ Some a) × (a.output ≡ x) = under_map (λ (g : GatingCell ℕ). g.output) c.gaters place.0 x place.1 in
          subst (λ y. bit nets y ≡ false) gater.2 (low_gate (suc (slice_index good.numbers place.0)) place.0 gater.0 (omega arith) gater.1)
    ]

    none_rises : (before : List Bool) (k : ℕ) (r : RegisterCell ℕ ℕ) → slice_get c.registers k ≡ Some r → rises before nets r ≡ false
    none_rises before k r at = and_right (not (bit before r.clock)) (bit nets r.clock) (low_clock_net r.clock (register_clocked c good k r at))

    none_moves : (before : List Bool) (k : ℕ) (r : RegisterCell ℕ ℕ) (own : Bool) → slice_get c.registers k ≡ Some r → next_bit before nets r own ≡ own
    none_moves before k r own at = ap (λ rise. if rise then next_value r.kind (values_at before r.inputs) own else own) (none_rises before k r at)

  -- with bits that are those before where the clock is high, registers move and rise as they do with those before
  pub kept_state : (clock : Bool) (latches nets kept before state : List Bool) → ShowClocks c clock latches nets → (clock ≡ true → kept ≡ before) →
      zip_with (next_bit kept nets) c.registers state ≡ zip_with (next_bit before nets) c.registers state
  kept_state true latches nets kept before state shows same = ap (λ bits. zip_with (next_bit bits nets) c.registers state) (same refl)
  kept_state false latches nets kept before state shows same = zip_with_same (next_bit kept nets) (next_bit before nets) c.registers state
      (λ k r own at was. none_moves latches nets shows kept k r own at ∙ sym (none_moves latches nets shows before k r own at))

  pub kept_rose : (clock : Bool) (latches nets kept before : List Bool) → ShowClocks c clock latches nets → (clock ≡ true → kept ≡ before) →
      map (rises kept nets) c.registers ≡ map (rises before nets) c.registers
  kept_rose true latches nets kept before shows same = ap (λ bits. map (rises bits nets) c.registers) (same refl)
  kept_rose false latches nets kept before shows same = map_same_at (rises kept nets) (rises before nets) c.registers
      (λ k r at. none_rises latches nets shows kept k r at ∙ sym (none_rises latches nets shows before k r at))
