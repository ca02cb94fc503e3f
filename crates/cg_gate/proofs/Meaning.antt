-- What gating gives means what the headline says.
use Rattle.std.proofs.Common.{◌≡◌, ◌+◌, ◌-◌, ◌≤◌, ℕ, Bool, true, List, ◌++◌, map, length, Option, None, Some, is_some, refl, sym, ◌∙◌, ap, subst}
use Rattle.std.proofs.lemmas.List.{length-replicate}
use Rattle.cg_blif_text.specs.BlifText.{BlifText}
use Rattle.cg_blif_text.proofs.CanonicalText.{no_two, says_itself}
use Rattle.cg_extract.proofs.LiftedMachine.{lifted_is_machine, lifted_is_small}
use Rattle.cg_extract.specs.Lifted.{kept_nets, lifted, origins}
use Rattle.cg_gate_laws.proofs.BegunSafe.{all_fit, begun_few, begun_safe}
use Rattle.cg_gate_laws.proofs.SameOutputs.{whole}
use Rattle.cg_gate_laws.specs.Begun.{renamed}
use Rattle.cg_hint_laws.proofs.Deserved.{turns_deserved}
use Rattle.cg_hint_laws.proofs.Worthy.{turns_worthy}
use Rattle.cg_hint_laws.specs.Answers.{Reported}
use Rattle.cg_hint_laws.specs.Laws.{IsSafe}
use Rattle.cg_gate_laws.specs.Gated.{Behaves, CanGate, Gating, gated_by, planned}
use Rattle.cg_gate_laws.specs.Kept.{KeepsParts}
use Rattle.cg_gate_laws.proofs.Behaving.{gated_behaves}
use Rattle.cg_gate.proofs.LiftedInputs.{lifted_inputs}
use Rattle.cg_gate_laws.proofs.NetlistKept.{keeps_netlist}
use Rattle.cg_gate_laws.proofs.PartsKept.{keeps_parts}
use Rattle.cg_gate_laws.proofs.Planned.{can_insert, is_formed}
use Rattle.cg_insert.specs.Insert.{CanInsert, inserted, insertion_limit}
use Rattle.cg_insert.specs.Insertion.{RisesAre}
use Rattle.cg_insert.proofs.Finishing.{writable}
use Rattle.cg_insert.proofs.Inserted.{insertion_is_right}
use Rattle.cg_machine.specs.Added.{own_netlist}
use Rattle.cg_machine.specs.Machine.{IsMachine, IsState, MachineData}
use Rattle.cg_machine.specs.Run.{Same, ones}
use Rattle.cg_netlist.specs.Circuit.{Circuit, data_inputs}
use Rattle.cg_netlist.specs.History.{IsLawful, IsStart, IsWaveform, Moment, Tick}
use Rattle.cg_netlist.specs.Netlist.{IsNetlist}
use Rattle.cg_netlist.specs.WellFormed.{IsWellFormed}
use Rattle.cg_netlist_parts.specs.Writable.{IsPlaceable, IsWritable}
use Rattle.cg_netlist.proofs.Histories.{has_history, has_one_history}
use Rattle.cg_plan_laws.specs.Laws.{IsTurn}
use Rattle.cg_plan_laws.specs.Plan.{Plan, plan_of}
use Rattle.cg_plan_laws.proofs.AllSafe.{each_fits}
use Rattle.cg_plan_laws.proofs.Deserved.{outcomes_deserved}
use Rattle.cg_register_text.proofs.KindsAdded.{kinds_add_up}
use Rattle.cg_register_text.specs.Words.{registers_text, tried_of}
use Rattle.cg_report.specs.Zeros.{low_moments, zeros_of}
use Rattle.cg_stage_laws.proofs.Fitting.{starts_long}
use Rattle.cg_stimulus.specs.Inputs.{Rows}
use Rattle.cg_stimulus.specs.Played.{IsPlayed, played_start, played_wave}
use Rattle.cg_stimulus.proofs.Playing.{start_is, wave_is}
use Rattle.cg_gate.specs.Gating.{GivesGated, begun_data, where_asked}
use Rattle.cg_gate.specs.Headline.{Headline, ShowsSame, VerilogMeans, with_bits}
use Rattle.cg_gate.specs.ZeroCounting.{zero_counts, zeros_by}
use Rattle.cg_gate.specs.Loading.{LoadsWhere}
use Rattle.cg_gate.specs.Played.{Saying, SumUp}
use Rattle.cg_gate.specs.Proper.{IsProper}
use Rattle.cg_gate.specs.Request.{MayGate, RequestData, begun_of, gating_of, hints_of}
use Rattle.cg_gate.specs.Turns.{Lead}
use Rattle.cg_gate.specs.declared.gate.Texts.{Texts}
use Rattle.cg_gate.proofs.Counted.{counts}
use Rattle.cg_gate.proofs.Deserved.{exactly_worthy}
use Rattle.cg_gate.proofs.Gated.{for_inserted}
use Rattle.cg_gate.proofs.HintNames.{hints_named}
use Rattle.cg_gate.proofs.Leads.{plan_leads}
use Rattle.cg_gate.proofs.Loading.{test_input_loads}
use Rattle.cg_extract.proofs.ForGating.{bare_is_netlist, bare_is_placeable, lifted_own}
use Rattle.cg_gate.proofs.MayInsert.{may_gate}
use Rattle.cg_gate.proofs.RegistersTold.{means_so, same_text}
use Rattle.cg_gate.proofs.RisesSummed.{sum_up}
use Rattle.cg_gate.proofs.TestedWaves.{IsTested, tested_wave}
use Rattle.cg_gate.proofs.TextShows.{means_asked, text_means}
use Rattle.cg_gate.proofs.Unrefused.{untested}
use Rattle.cg_verilog_text.specs.Written.{verilog}
use Rattle.std.specs.Prelude.{IfSome}

module _ (request : RequestData) (says : Option Saying) (read : Circuit) (texts : Texts) (proper : IsProper request) (may : MayGate request read) (gives : GivesGated request says read texts) where
  abbrev by : Gating
  by = gating_of request read

  abbrev m : MachineData
  m = begun_of request read

  abbrev n : MachineData
  n = planned (gating_of request read) read

  abbrev w : Circuit
  w = gives.written

  abbrev plan : Plan
  plan = plan_of request.library request.settings (gating_of request read).counts (begun_of request read)

  can : CanGate (gating_of request read) read
  can = may_gate request read proper may

  -- the hints as they are told
  abbrev hints : Reported
  hints = record { machine = begun_of request read; outcomes = gives.hints.outcomes; certificates = gives.hints.certificates }

  machine_is : gives.told.machine ≡ n
  machine_is = gives.gated.plan.machine

  is : gives.written ≡ gated_by by read
  is = gives.gated.is ∙ ap (inserted request.library request.test) machine_is

  behaves : Behaves by read gives.written
  behaves = subst (Behaves by read) (sym is) (gated_behaves by read can)

  safe : IsSafe request.library (lifted read request.prefix) m
  safe = begun_safe by read may.start may.hints

  good : IsMachine m
  good = safe.is_machine

  good_planned : IsMachine n
  good_planned = (can_insert by read can).0

  inserts : CanInsert request.library request.test n
  inserts = (can_insert by read can).1

  same_shown : Same (lifted read request.prefix) n
  same_shown = whole by read can

  inputs_long : length (data_inputs n.circuit) ≡ length (data_inputs read)
  inputs_long = ap length same_shown.inputs ∙ lifted_inputs read request.prefix may.start

  formed : IsWellFormed gives.written
  formed = subst IsWellFormed (sym is) (is_formed by read can).0

  is_writable : IsWritable request.library gives.written
  is_writable =
      let own : IsNetlist (own_netlist n) = subst IsNetlist (sym (keeps_netlist by read may.start may.hints)) (bare_is_netlist read may.start.netlist).0 in
      let small : insertion_limit request.test n ≡ None = ap (insertion_limit request.test) (sym machine_is) ∙ gives.gated.fits in
      writable request.library request.test n good_planned inserts own small gives.written is proper.found (subst (IsPlaceable request.library) (sym (keeps_netlist by read may.start may.hints)) (bare_is_placeable request.library read may.placeable))

  says_it : BlifText texts.out request.library None gives.written
  says_it = subst (λ text. BlifText text request.library None w) (sym gives.tells.gives.out) (says_itself request.library w is_writable)

  -- the two histories
  shows : (start : List Bool) (wave : List Tick) (bits : List Bool) → IsStart read start → IsWaveform read wave → length bits ≡ length wave
      → ShowsSame gives.told.machine read gives.written start (ones n) wave (with_bits request.test wave bits)
  shows start wave bits starts waves long =
      let tested : List Tick = with_bits request.test wave bits in
      let full : List Bool = start ++ ones n in
      let facts : IsTested w n wave tested = tested_wave by read w behaves inputs_long wave bits waves long in
      let started : IsStart w full = behaves.starts start starts in
      let one = has_history read may.start.netlist.well_formed start wave starts waves in
      let two = behaves.some full tested started facts.waveform in
      let state : IsState n full = starts_long n good_planned.own_registers start (starts ∙ (sym (lifted_is_small read request.prefix may.start).2 ∙ sym same_shown.own)) in
      let waves_there : IsWaveform (gated_by by read) tested = subst (λ c. IsWaveform c tested) is facts.waveform in
      let lawful_there : IsLawful (gated_by by read) full tested two.0 = subst (λ c. IsLawful c full tested two.0) is two.1 in
      let rises : RisesAre (inserted request.library request.test n) n tested two.0 = (insertion_is_right request.library request.test n good_planned inserts full tested two.0 state waves_there lawful_there).edges in
      record {
        original = one.0;
        original_lawful = one.1;
        original_alone = λ other lawful. has_one_history read may.start.netlist.well_formed start wave starts waves other one.0 lawful one.1;
        waveform = facts.waveform;
        history = two.0;
        lawful = two.1;
        alone = λ other lawful. behaves.one full tested started facts.waveform other two.0 lawful two.1;
        same = behaves.same start tested two.0 one.0 starts facts.waveform two.1 (subst (λ v. IsLawful read start v one.0) (sym facts.own) one.1);
        rises = subst (λ c. RisesAre c gives.told.machine tested two.0) (sym gives.gated.is) (subst (λ k. RisesAre (inserted request.library request.test k) k tested two.0) (sym machine_is) rises);
      }

  loads : is_some request.test ≡ true → (start : List Bool) (wave : List Tick) (bits : List Bool) (history : List Moment) → IsStart read start → IsWaveform read wave → length bits ≡ length wave
      → IsLawful gives.written (start ++ ones n) (with_bits request.test wave bits) history → LoadsWhere gives.written wave bits history
  loads some start wave bits history starts waves long lawful =
      let tested : List Tick = with_bits request.test wave bits in
      let shown : ShowsSame gives.told.machine read gives.written start (ones n) wave tested = shows start wave bits starts waves long in
      let are : RisesAre gives.written gives.told.machine tested history = subst (RisesAre gives.written gives.told.machine tested) (sym (shown.alone history lawful)) shown.rises in
      test_input_loads read gives.written gives.told.machine (ap (λ (k : MachineData). length (data_inputs k.circuit)) machine_is ∙ inputs_long) request.test some wave bits history waves.0 are

  ranked : (stimulus : Rows) → request.stimulus ≡ Some stimulus → (history : List Moment) × IsPlayed read stimulus.rows history
      × ((zero_counts read request.prefix m stimulus).zeros ≡ map (zeros_by (λ net. zeros_of net (low_moments history))) (origins read m))
  ranked stimulus there =
      let for' = may.played stimulus there in
      let rows = proper.rows stimulus there in
      let some = has_history read may.start.netlist.well_formed (played_start read) (played_wave read stimulus.rows) (start_is read) (wave_is read stimulus rows for') in
      let few : length (kept_nets read) ≤ length m.circuit.names = begun_few by read may.start may.hints in
      (some.0, some.1, counts read request.prefix may.start m few (untested request.library request.test read may.lifts) stimulus rows for' some.0 some.1)

  abbrev delays : ℕ
  delays = length n.circuit.registers - n.own_registers

  verilog_means : IfSome texts.verilog (VerilogMeans request gives.told.machine read delays gives.written)
  verilog_means =
      means_asked (VerilogMeans request gives.told.machine read delays gives.written) request.verilog texts.verilog (verilog w) gives.tells.gives.verilog
      (text_means request gives.told.machine read delays w is_writable.placeable shows loads)

  summed : SumUp gives.tells.gives.registers.rises gives.tells.played.edges
  summed =
      sum_up read w may.start.netlist.well_formed formed request.stimulus
      (λ rows there. (
        proper.rows rows there,
        may.played rows there,
        for_inserted request read proper may gives.hints gives.told gives.gated.tried gives.gated.plan w gives.gated.is rows there,
      ))
      gives.tells.gives.registers.rises gives.tells.gives.registers.counted gives.tells.played.edges gives.tells.what.edges

  registers_told : texts.registers
      ≡ where_asked request.registers (registers_text (begun_data request read w hints gives.told) gives.tells.gives.registers.rises)
  registers_told =
      gives.tells.gives.registers.is ∙ ap (where_asked request.registers) (same_text request read proper may gives.hints gives.told w gives.gated gives.tells.gives.registers.rises)

  pub means : Headline request says read texts
  means = record {
    written = w;
    well_formed = formed;
    text = gives.tells.gives.out;
    says_it = says_it;
    no_other = λ c other. no_two texts.out request.library None c w other says_it;
    inputs = behaves.inputs;
    outputs = behaves.outputs;
    delays = delays;
    registers = behaves.registers ∙ ap (λ k. length read.registers + k) (length-replicate (length n.circuit.registers - n.own_registers) true);
    parts = subst (KeepsParts read) (sym is) (keeps_parts by read can);
    plan = gives.told;
    shows = shows;
    loads = loads;
    verilog = gives.tells.gives.verilog;
    verilog_means = verilog_means;
    is = gives.gated.is;
    hints = hints;
    tried = gives.gated.tried;
    asked = hints_named read may.start.netlist request.library request.settings.width (lifted read request.prefix) (hints_of request) gives.gated.tried.done
        (lifted_own read request.prefix may.start).own (lifted_is_machine read request.prefix may.start) (all_fit read request.prefix may.start (hints_of request) may.hints) may.hints gives.gated.tried.tried;
    deserved_hints = turns_worthy request.library request.settings.width (lifted read request.prefix) (map (renamed read) (hints_of request)) gives.gated.tried.done
        (lifted_is_machine read request.prefix may.start) (all_fit read request.prefix may.start (hints_of request) may.hints) gives.gated.tried.tried;
    outcomes_of_hints = turns_deserved request.library request.settings.width (lifted read request.prefix) (map (renamed read) (hints_of request)) gives.gated.tried.done
        (lifted_is_machine read request.prefix may.start) (all_fit read request.prefix may.start (hints_of request) may.hints) gives.gated.tried.tried;
    turns = plan.turns;
    planned = refl;
    whole = gives.gated.plan.whole;
    lead = subst (Lead plan.turns m) (sym machine_is) (plan_leads request.library request.settings m by.counts);
    deserved = λ k turn at. exactly_worthy request.library request.settings turn (each_fits request.library request.settings by.counts m good k turn at);
    outcomes = λ k turn at.
        let fits : IsTurn request.library request.settings turn = each_fits request.library request.settings by.counts m good k turn at in
        outcomes_deserved request.library request.settings turn.machine turn.stage turn.outcome fits.is_machine fits.fits fits.comes;
    ranked = ranked;
    told = gives.gated.plan.stages;
    wide = gives.gated.plan.wide;
    certified = gives.gated.plan.certificates;
    writable = gives.gated.writable;
    proof = gives.tells.gives.proof;
    played = gives.tells.played;
    edges = gives.tells.what.edges;
    line = gives.tells.what.line;
    said = gives.tells.gives.said;
    report = gives.tells.gives.report;
    rises = gives.tells.gives.registers.rises;
    risen = gives.tells.gives.registers.counted;
    summed = summed;
    registers_told = registers_told;
    causes = means_so request read proper may gives.hints gives.told w gives.gated;
    kinds = (kinds_add_up (tried_of (begun_data request read w hints gives.told))).1;
  }
