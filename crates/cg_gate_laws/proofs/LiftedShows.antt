-- The machine with which a plan begins shows what the netlist shows, and has as many registers and data inputs.
use Rattle.std.proofs.Common.{◌≡◌, ℕ, zero, suc, ◌-◌, Bool, true, List, [], ◌∷◌, ◌++◌, length, replicate, None, refl, sym, ◌∙◌, ap}
use Rattle.std.proofs.Common.{arith}
use Rattle.std.proofs.lemmas.List.{append-nil, length-map}
use Rattle.cg_netlist.specs.Circuit.{Circuit, data_inputs}
use Rattle.cg_netlist.specs.History.{AreTicks, IsLawful, IsStart, IsWaveform, Moment, Tick, outputs_of}
use Rattle.cg_net.specs.Names.{net_name}
use Rattle.cg_machine.specs.Machine.{MachineData}
use Rattle.cg_machine.specs.Run.{ones, shown, shown_from}
use Rattle.cg_machine.specs.Start.{CanStart}
use Rattle.cg_extract.proofs.LiftedMachine.{lifted_is_small}
use Rattle.cg_extract.proofs.LiftedRun.{lifted_is_run}
use Rattle.cg_extract.specs.Laws.{KeepsNames}
use Rattle.cg_extract.specs.Lifted.{CanExtract, HasNoTests, bare, lifted}
use Rattle.cg_extract.proofs.ForGating.{bare_is_netlist, lifted_own}

-- a waveform of a netlist is one of each with as many data inputs
pub same_ticks : (c d : Circuit) → length (data_inputs d) ≡ length (data_inputs c) → (wave : List Tick) → AreTicks c wave → AreTicks d wave
same_ticks c d same [] ticks = tt
same_ticks c d same (tick ∷ wave) ticks = (ticks.0 ∙ sym same, same_ticks c d same wave ticks.1)

-- without gating cells the netlist has the machine of a start
pub starts_ungated : (c : Circuit) (prefix : List ℕ) → CanExtract c prefix → c.gaters ≡ [] → CanStart c prefix
starts_ungated c prefix can none = record { netlist = can.netlist; outputs_once = can.outputs_once; no_gaters = none; named = can.named; new = can.new }

module _ (c : Circuit) (prefix : List ℕ) (can : CanExtract c prefix) where
  abbrev m : MachineData
  m = lifted c prefix

  pub kept_names : KeepsNames c
  kept_names = (bare_is_netlist c can.netlist).1

  pub bare_inputs : length (data_inputs (bare c)) ≡ length (data_inputs c)
  bare_inputs = sym (length-map (data_inputs (bare c)) (net_name (bare c).names)) ∙ (ap length kept_names.inputs ∙ length-map (data_inputs c) (net_name c.names))

  lifted_inputs : length (data_inputs (lifted c prefix).circuit) ≡ length (data_inputs c)
  lifted_inputs = ap (λ (d : Circuit). length (data_inputs d)) (lifted_own c prefix can).own ∙ bare_inputs

  none_more : ones (lifted c prefix) ≡ []
  none_more = let small = lifted_is_small c prefix can in go (length m.circuit.registers - m.own_registers) (omega (arith, small.1, small.2))
    where
      go : (n : ℕ) → n ≡ 0 → replicate n true ≡ []
      go zero is = refl
      go (suc n) is = absurd (omega (arith, is))

  pub lifted_ticks : (wave : List Tick) → AreTicks c wave → AreTicks (lifted c prefix).circuit wave
  lifted_ticks wave ticks = same_ticks c m.circuit lifted_inputs wave ticks

  pub lifted_shows : HasNoTests c → (start : List Bool) (wave : List Tick) (history : List Moment) → IsStart c start → IsWaveform c wave → IsLawful c start wave history → shown (lifted c prefix) start wave ≡ outputs_of c history
  lifted_shows untested start wave history started waves lawful =
      ap (λ s. shown_from m None s wave) (ap (λ l. start ++ l) none_more ∙ append-nil start)
      ∙ sym (lifted_is_run c prefix can untested start wave history started waves lawful).1
