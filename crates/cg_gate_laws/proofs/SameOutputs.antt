-- The gated netlist shows what the netlist shows.
use Rattle.std.proofs.Common.{◌≡◌, ℕ, ◌+◌, Bool, false, is_some, List, [], ◌∷◌, ◌++◌, map, length, Option, None, Some, refl, sym}
use Rattle.std.proofs.Common.{◌∙◌, ap, subst, arith, length-append}
use Rattle.std.specs.Option.{option_to_list}
use Rattle.std.proofs.lemmas.List.{length-map, length-take-le}
use Rattle.cg_netlist.specs.Circuit.{Circuit, data_inputs, net_order}
use Rattle.cg_netlist.specs.History.{AreTicks, BeginsLow, IsLawful, IsStart, IsWaveform, Moment, Tick, outputs_of}
use Rattle.cg_netlist.specs.Ordered.{place_in}
use Rattle.cg_netlist.proofs.OrderedForm.{data_is as data_ordered}
use Rattle.cg_machine.specs.Machine.{IsMachine, IsState, MachineData}
use Rattle.cg_machine.specs.Run.{Same, ones, shown}
use Rattle.cg_insert.specs.Insert.{CanInsert, gated, inserted, own_tick, test_net}
use Rattle.cg_insert.proofs.GatedForm.{gated_formed, inputs_once}
use Rattle.cg_insert.proofs.GatedMoments.{data_is}
use Rattle.cg_insert.proofs.Inserted.{insertion_is_plain, insertion_is_right, own_wave as own_is}
use Rattle.cg_stage_laws.proofs.Fitting.{starts_long}
use Rattle.cg_plan_laws.specs.Plan.{plan_of}
use Rattle.cg_plan_laws.proofs.AllSafe.{plans_safe}
use Rattle.cg_gate_laws.specs.TestRun.{test_shown, ticks_of}
use Rattle.cg_gate_laws.proofs.AllTest.{test_shows_netlist}
use Rattle.cg_extract.proofs.LiftedMachine.{lifted_is_small}
use Rattle.cg_extract.specs.Lifted.{bare, lifted}
use Rattle.cg_hint_laws.specs.Laws.{IsSafe}
use Rattle.cg_machine.proofs.Simulation.{same_then}
use Rattle.cg_gate_laws.proofs.BegunSafe.{begun_bare, begun_safe}
use Rattle.cg_gate_laws.specs.Gated.{CanGate, Gating, begun, gated_by, own_wave, planned}
use Rattle.cg_gate_laws.specs.Laws.{GatedShowsSame}
use Rattle.cg_extract.proofs.ForGating.{lifted_of_ungated}
use Rattle.cg_gate_laws.proofs.LiftedShows.{bare_inputs, lifted_shows, lifted_ticks, starts_ungated}
use Rattle.cg_gate_laws.proofs.NetlistKept.{keeps_netlist}
use Rattle.cg_gate_laws.proofs.OwnGaters.{ungated_tested, untested}
use Rattle.cg_gate_laws.proofs.Planned.{can_insert}

module _ (by : Gating) (c : Circuit) (can : CanGate by c) where
  abbrev n : MachineData
  n = planned by c

  pub good : IsMachine (planned by c)
  good = (can_insert by c can).0

  pub inserts : CanInsert by.library by.test (planned by c)
  inserts = (can_insert by c can).1

  pub whole : Same (lifted c by.prefix) (planned by c)
  whole =
      let safe : IsSafe by.library (lifted c by.prefix) (begun by c) = begun_safe by c can.start can.hints in
      same_then (lifted c by.prefix) (begun by c) (planned by c) safe.same (plans_safe by.library by.settings by.counts (begun by c) safe.is_machine).1

  -- the plan's machine has the registers and the data inputs of the netlist
  pub own_count : (planned by c).own_registers ≡ length c.registers
  own_count = whole.own ∙ (lifted_is_small c by.prefix can.start).2

  pub own_inputs : data_inputs (planned by c).circuit ≡ data_inputs (bare c)
  own_inputs = ap data_inputs (keeps_netlist by c can.start can.hints)

  pub inputs_count : length (data_inputs (planned by c).circuit) ≡ length (data_inputs c)
  inputs_count = ap length own_inputs ∙ bare_inputs c by.prefix can.start

  -- each moment has a bit for each data input of the plan's machine, and that of the test input behind them
  pub counts : length (data_inputs (gated_by by c)) ≡ length (data_inputs (planned by c).circuit) + length (option_to_list (test_net (planned by c) by.test))
  counts =
      let g : Circuit = gated by.library by.test n in
      ap length (data_ordered g (gated_formed by.library by.test n good inserts) (inputs_once by.library by.test n good inserts))
      ∙ (length-map (data_inputs g) (place_in (net_order g))
      ∙ (ap length (data_is by.library by.test n good inserts)
      ∙ length-append (data_inputs n.circuit) (option_to_list (test_net n by.test))))

  pub own_ticks : (wave : List Tick) → AreTicks (gated_by by c) wave → AreTicks c (own_wave (planned by c) wave)
  own_ticks [] ticks = tt
  own_ticks (tick ∷ wave) ticks = (
    length-take-le (length (data_inputs n.circuit)) tick.inputs (omega (arith, ticks.0, counts)) ∙ inputs_count,
    own_ticks wave ticks.1,
  )

  pub own_low : (wave : List Tick) → BeginsLow wave → BeginsLow (own_wave (planned by c) wave)
  own_low [] low = tt
  own_low (tick ∷ wave) low = low

  pub machine_ticks : by.test ≡ None → (wave : List Tick) → AreTicks (gated_by by c) wave → AreTicks (planned by c).circuit wave
  machine_ticks none [] ticks = tt
  machine_ticks none (tick ∷ wave) ticks = (omega (arith, ticks.0, counts, ap (λ t. length (option_to_list (test_net n t))) none), machine_ticks none wave ticks.1)

  pub back : (wave : List Tick) → ticks_of (map (λ (k : Tick). (k, false)) wave) ≡ wave
  back [] = refl
  back (tick ∷ wave) = ap (λ l. tick ∷ l) (back wave)

  module _ (start : List Bool) (wave : List Tick) (history other : List Moment) (started : IsStart c start) (waves : IsWaveform (gated_by by c) wave)
      (lawful : IsLawful (gated_by by c) (start ++ ones (planned by c)) wave history) (original : IsLawful c start (own_wave (planned by c) wave) other) where
    long : IsState (planned by c) (start ++ ones (planned by c))
    long = starts_long n good.own_registers start (started ∙ sym own_count)

    original_waves : IsWaveform c (own_wave (planned by c) wave)
    original_waves = (own_ticks wave waves.0, own_low wave waves.1)

    -- with a test input there is no gating cell in the netlist
    tested : (name : List ℕ) → by.test ≡ Some name → outputs_of (gated_by by c) history ≡ outputs_of c other
    tested name is =
        let none : c.gaters ≡ [] = ungated_tested by c can name is in
        (insertion_is_right by.library by.test n good inserts (start ++ ones n) wave history long waves lawful).outputs
        ∙ subst (λ (m : MachineData). test_shown (plan_of by.library by.settings by.counts m).machine start (map (own_tick n) wave) ≡ outputs_of c other) (sym (begun_bare by c (can.untested name is) ∙ lifted_of_ungated c by.prefix can.start none))
        (test_shows_netlist by.library by.settings by.counts c by.prefix (starts_ungated c by.prefix can.start none) (can.tested ∙ ap is_some is) start (map (own_tick n) wave) other started original_waves original)

    plain : by.test ≡ None → outputs_of (gated_by by c) history ≡ outputs_of c other
    plain none =
        let same : own_wave n wave ≡ wave = ap ticks_of (own_is n wave (machine_ticks none wave waves.0)) ∙ back wave in
        let small = lifted_is_small c by.prefix can.start in
        (subst (λ t. (d : CanInsert by.library t n) → IsWaveform (inserted by.library t n) wave → IsLawful (inserted by.library t n) (start ++ ones n) wave history → outputs_of (inserted by.library t n) history ≡ shown n start wave) (sym none)
        (λ d w l. (insertion_is_plain by.library n good d (start ++ ones n) wave history long w l).1)) inserts waves lawful
        ∙ (ap (shown n start) (sym same)
        ∙ (whole.shows start (own_wave n wave) (started ∙ sym small.2) (lifted_ticks c by.prefix can.start (own_wave n wave) original_waves.0)
        ∙ lifted_shows c by.prefix can.start (untested by c can none) start (own_wave n wave) other started original_waves original))

    pub outputs_same : outputs_of (gated_by by c) history ≡ outputs_of c other
    outputs_same = go by.test refl
      where
        go : (t : Option (List ℕ)) → by.test ≡ t → outputs_of (gated_by by c) history ≡ outputs_of c other
        go None is = plain is
        go (Some name) is = tested name is

pub shows_same : GatedShowsSame
shows_same by c can start wave history other started waves lawful original = outputs_same by c can start wave history other started waves lawful original
