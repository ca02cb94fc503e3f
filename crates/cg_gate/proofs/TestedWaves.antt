-- A waveform of the original, with bits of a test input beside it, is one of the written netlist.
use Rattle.std.proofs.Common.{◌≡◌, ◌+◌, Bool, List, [], ◌∷◌, ◌++◌, map, length, take, Option, None, Some, refl, sym, ◌∙◌, ap, subst}
use Rattle.std.proofs.Common.{arith, length-append}
use Rattle.std.specs.Option.{option_to_list}
use Rattle.std.proofs.Math.Seq.{take-append_seam}
use Rattle.std.proofs.lemmas.List.{length-map}
use Rattle.cg_gate_laws.specs.Gated.{Behaves, Gating, own_wave, planned}
use Rattle.cg_machine.specs.Machine.{MachineData}
use Rattle.cg_netlist.specs.Circuit.{Circuit, data_inputs}
use Rattle.cg_netlist.specs.History.{AreTicks, BeginsLow, IsWaveform, Tick}
use Rattle.cg_net.specs.Names.{NetName, net_name}
use Rattle.cg_gate.specs.Headline.{with_bits}

plain_wave : (wave : List Tick) (bits : List Bool) → length bits ≡ length wave → with_bits None wave bits ≡ wave
plain_wave [] bits long = refl
plain_wave (tick ∷ wave) [] long = absurd (omega (arith, long))
plain_wave (tick ∷ wave) (bit ∷ bits) long = ap (λ w. tick ∷ w) (plain_wave wave bits (omega (arith, long)))

module _ (read written : Circuit) (n : MachineData) (same : length (data_inputs n.circuit) ≡ length (data_inputs read)) (name : NetName) (more : length (data_inputs written) ≡ length (data_inputs read) + 1) where
  tested_ticks : (wave : List Tick) (bits : List Bool) → AreTicks read wave → AreTicks written (with_bits (Some name) wave bits)
  tested_ticks [] bits ticks = tt
  tested_ticks (tick ∷ wave) [] ticks = tt
  tested_ticks (tick ∷ wave) (bit ∷ bits) ticks = (omega (arith, length-append tick.inputs (bit ∷ []), ticks.0, more), tested_ticks wave bits ticks.1)

  tested_low : (wave : List Tick) (bits : List Bool) → BeginsLow wave → BeginsLow (with_bits (Some name) wave bits)
  tested_low [] bits low = tt
  tested_low (tick ∷ wave) [] low = tt
  tested_low (tick ∷ wave) (bit ∷ bits) low = low

  tested_own : (wave : List Tick) (bits : List Bool) → length bits ≡ length wave → AreTicks read wave → own_wave n (with_bits (Some name) wave bits) ≡ wave
  tested_own [] bits long ticks = refl
  tested_own (tick ∷ wave) [] long ticks = absurd (omega (arith, long))
  tested_own (tick ∷ wave) (bit ∷ bits) long ticks =
      let count : length (data_inputs n.circuit) ≡ length tick.inputs = same ∙ sym ticks.0 in
      let inputs : take (length (data_inputs n.circuit)) (tick.inputs ++ bit ∷ []) ≡ tick.inputs = ap (λ k. take k (tick.inputs ++ bit ∷ [])) count ∙ take-append_seam tick.inputs (bit ∷ []) in
      let tail : own_wave n (with_bits (Some name) wave bits) ≡ wave = tested_own wave bits (omega (arith, long)) ticks.1 in
      ap (λ xs. record { clock = tick.clock; inputs = xs } ∷ own_wave n (with_bits (Some name) wave bits)) inputs ∙ ap (λ w. tick ∷ w) tail

-- the waveform is one, and the original sees of it what it was made of
pub record IsTested (written : Circuit) (n : MachineData) (wave tested : List Tick) : Type 0 where
  pub waveform : IsWaveform written tested
  pub own : own_wave n tested ≡ wave

pub tested_wave : (by : Gating) (read written : Circuit) → Behaves by read written → length (data_inputs (planned by read).circuit) ≡ length (data_inputs read) → (wave : List Tick) (bits : List Bool) → IsWaveform read wave → length bits ≡ length wave
    → IsTested written (planned by read) wave (with_bits by.test wave bits)
tested_wave by read written behaves same wave bits waves long = go by.test refl
  where
    n : MachineData
    n = planned by read

    counts : length (data_inputs written) ≡ length (data_inputs read) + length (option_to_list by.test)
    counts =
        sym (length-map (data_inputs written) (net_name written.names)) ∙ (ap length behaves.inputs ∙ (length-append (map (net_name read.names) (data_inputs read)) (option_to_list by.test)
        ∙ ap (λ k. k + length (option_to_list by.test)) (length-map (data_inputs read) (net_name read.names))))

    go : (test : Option NetName) → by.test ≡ test → IsTested written (planned by read) wave (with_bits test wave bits)
    go None is =
        let whole = behaves.whole is wave waves in
        subst (IsTested written (planned by read) wave) (sym (plain_wave wave bits long)) (record { waveform = whole.0; own = whole.1 })
    go (Some name) is =
        let more : length (data_inputs written) ≡ length (data_inputs read) + 1 = counts ∙ ap (λ t. length (data_inputs read) + length (option_to_list t)) is in
        record {
          waveform = (tested_ticks read written (planned by read) same name more wave bits waves.0, tested_low read written (planned by read) same name more wave bits waves.1);
          own = tested_own read written (planned by read) same name more wave bits long waves.0;
        }
