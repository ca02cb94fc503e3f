-- The gated netlist of a netlist: its machine, to whose enables its own gating cells are lifted, is changed by hints of the engineer's
-- own, planned, and written with a gating cell for each enable.
use Rattle.std.specs.Prelude.{◌≡◌, ◌≢◌, IsTrue, ℕ, ◌+◌, Bool, List, [], ◌∷◌, ◌++◌, length, map, Option, None, Some, is_some}
use Rattle.std.specs.List.{All, AllByRecursion}
use Rattle.std.specs.Option.{option_to_list}
use Rattle.cg_cell.specs.Cell.{CellData, IsCell}
use Rattle.cg_cell.specs.Library.{first_fit}
use Rattle.cg_cell.specs.Name.{is_name}
use Rattle.cg_cell.specs.declared.fit.FitKind.TheVariants.{And2}
use Rattle.cg_netlist.specs.Circuit.{Circuit, GatingCell, data_inputs}
use Rattle.cg_netlist.specs.History.{HasHistory, HasOneHistory, IsLawful, IsStart, IsWaveform, Moment, Tick, outputs_of}
use Rattle.cg_net.specs.Names.{net_name}
use Rattle.cg_netlist_parts.specs.Writable.{IsOf}
use Rattle.cg_machine.specs.Machine.{MachineData}
use Rattle.cg_machine.specs.Run.{ones}
use Rattle.cg_extract.specs.Lifted.{CanExtract, first_refused}
use Rattle.cg_hint_laws.specs.OfNetlist.{IsOf as IsHintOf}
use Rattle.cg_hint_laws.specs.declared.hint.Hint.{Hint}
use Rattle.cg_insert.specs.Insert.{gate_names, inserted, own_tick}
use Rattle.cg_stage_list_laws.specs.Literals.{ZeroCounts}
use Rattle.cg_plan_laws.specs.Plan.{plan_of}
use Rattle.cg_plan_laws.specs.declared.settings.Settings.{Settings}
use Rattle.cg_gate_laws.specs.Begun.{begun_by}
use Rattle.cg_gate_laws.specs.TestRun.{ticks_of}

-- what a netlist is gated by: the cells, the settings, how often nets are 0 on a stimulus, the prefix of the names of added
-- nets, the name of the test input, where there is to be one, and hints
pub record Gating : Type 0 where
  pub library : List CellData
  pub settings : Settings
  pub counts : Option ZeroCounts
  pub prefix : List ℕ
  pub test : Option (List ℕ)
  pub hints : List Hint

-- the machine with which the plan begins, the machine of the plan, and the gated netlist
abbrev pub begun : Gating → Circuit → MachineData
begun by c = begun_by by.library by.settings.width by.prefix by.hints c

abbrev pub planned : Gating → Circuit → MachineData
planned by c = (plan_of by.library by.settings by.counts (begun by c)).machine

abbrev pub gated_by : Gating → Circuit → Circuit
gated_by by c = inserted by.library by.test (planned by c)

-- the waveform that the original sees: the same clock, and the inputs without the test input
abbrev pub own_wave : MachineData → List Tick → List Tick
own_wave m wave = ticks_of (map (own_tick m) wave)

-- whether a library has a cell for the and of two nets
abbrev pub has_and : List CellData → Bool
has_and library = is_some (first_fit And2 library)

-- the first gating cell with which a netlist is not gated: where there is to be a test input the first of all; else the first
-- that has a test pin, or stands behind another while the library has no cell for the and of two nets
abbrev pub first_gater : List (GatingCell ℕ) → Option ℕ
first_gater [] = None
first_gater (gater ∷ gaters) = Some 0

abbrev pub refused_gater : List CellData → Option (List ℕ) → Circuit → Option ℕ
refused_gater library None c = first_refused c (has_and library)
refused_gater library (Some test) c = first_gater c.gaters

-- what gating needs: no gating cell of the netlist is refused, and each is a cell of the library; no net's name begins with the
-- prefix; the library has cells; the plan is made for a test input exactly where there is to be one, and the name of that is new;
-- the hints are hints of the netlist, and there are none where there is to be a test input
pub record CanGate (by : Gating) (c : Circuit) : Type 0 where
  pub start : CanExtract c by.prefix
  pub lifts : refused_gater by.library by.test c ≡ None
  pub own : All (λ gater. IsOf by.library gater.cell) c.gaters
  pub cells : All IsCell by.library
  pub tested : by.settings.test ≡ is_some by.test
  pub named : All (λ name. IsTrue (is_name name)) (option_to_list by.test)
  pub new : (name : List ℕ) → by.test ≡ Some name →
      All (λ other. other ≢ name) ((planned by c).circuit.names ++ gate_names (planned by c))
  pub hints : AllByRecursion (IsHintOf c) by.hints
  pub untested : (name : List ℕ) → by.test ≡ Some name → by.hints ≡ []

-- The gated netlist behaves as the netlist. It has the registers of that one and the delay registers, which start with 1; the
-- data inputs of that one and, behind them, a test input where there is to be one; and outputs of the same names. From each
-- start of the registers and over each waveform that begins with the clock low it has exactly one lawful history, and at every
-- moment its outputs are those of the netlist, which sees the same waveform without the test input.
pub record Behaves (by : Gating) (read written : Circuit) : Type 0 where
  pub registers : length written.registers ≡ length read.registers + length (ones (planned by read))
  pub inputs : map (net_name written.names) (data_inputs written) ≡ map (net_name read.names) (data_inputs read)
      ++ option_to_list by.test
  pub outputs : map (net_name written.names) written.outputs ≡ map (net_name read.names) read.outputs
  pub starts : (start : List Bool) → IsStart read start → IsStart written (start ++ ones (planned by read))
  pub waves : (wave : List Tick) → IsWaveform written wave → IsWaveform read (own_wave (planned by read) wave)
  pub whole : by.test ≡ None → (wave : List Tick) → IsWaveform read wave →
      IsWaveform written wave × (own_wave (planned by read) wave ≡ wave)
  pub some : HasHistory written
  pub one : HasOneHistory written
  pub same : (start : List Bool) (wave : List Tick) (history original : List Moment) → IsStart read start → IsWaveform written wave
      → IsLawful written (start ++ ones (planned by read)) wave history →
      IsLawful read start (own_wave (planned by read) wave) original
      → outputs_of written history ≡ outputs_of read original
