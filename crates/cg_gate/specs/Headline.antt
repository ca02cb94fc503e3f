-- What gating a netlist means: the written netlist shows what the one that was read shows, from every state and for all time.
use Rattle.std.specs.Prelude.{◌≡◌, ◌↔◌, ◌<◌, ℕ, ◌+◌, Bool, true, List, [], ◌∷◌, ◌++◌, map, length, replicate, slice_get, Option, None}
use Rattle.std.specs.Prelude.{Some, IfSome, is_some}
use Rattle.std.specs.Option.{option_map, option_to_list}
use Rattle.cg_blif_text.specs.BlifText.{BlifText}
use Rattle.cg_blif_text.specs.Canonical.{blif}
use Rattle.cg_extract.specs.Lifted.{lifted, origins}
use Rattle.cg_gate_laws.specs.Begun.{renamed}
use Rattle.cg_gate_laws.specs.Kept.{KeepsParts}
use Rattle.cg_hint_laws.specs.Answers.{Reported}
use Rattle.cg_hint_laws.specs.Laws.{IsWorthInserting as IsHintWorthInserting}
use Rattle.cg_hint_laws.specs.Outcomes.{Deserves as HintDeserves}
use Rattle.cg_hint_laws.specs.Trying.{Turn as HintTurn}
use Rattle.cg_hint_laws.specs.declared.outcome.HintOutcome.TheVariants as hint_outcomes
use Rattle.cg_hints.specs.Applying.{AreApplied}
use Rattle.cg_insert.specs.Insert.{inserted}
use Rattle.cg_insert.specs.Insertion.{RisesAre}
use Rattle.cg_machine.specs.Machine.{MachineData}
use Rattle.cg_netlist.specs.Circuit.{Circuit}
use Rattle.cg_netlist.specs.History.{IsLawful, IsStart, IsWaveform, Moment, Tick, outputs_of}
use Rattle.cg_netlist.specs.Moment.{zip_with}
use Rattle.cg_netlist.specs.WellFormed.{IsWellFormed}
use Rattle.cg_net.specs.Names.{NetName, net_name}
use Rattle.cg_plan_laws.specs.Outcomes.{Deserves}
use Rattle.cg_plan_laws.specs.Plan.{Turn, plan_of, wide_of}
use Rattle.cg_plan_laws.specs.Reported.{AreCertified, AreTold, ReportedPlan, kept_claims}
use Rattle.cg_plan_laws.specs.declared.outcome.Outcome.TheVariants.{Inserted}
use Rattle.cg_plan_text.specs.ProofText.{proof_text}
use Rattle.cg_plan_text.specs.Summary.{report_text, said_text}
use Rattle.cg_plan_text.specs.declared.summary.Played.{Played}
use Rattle.cg_plan.specs.Planning.{AreWritable}
use Rattle.cg_register_text.specs.Causes.{cause_of, causes_of}
use Rattle.cg_register_text.specs.Laws.{of_kinds}
use Rattle.cg_register_text.specs.Meaning.{Means}
use Rattle.cg_register_text.specs.Rises.{RisesWhere}
use Rattle.cg_register_text.specs.Words.{registers_text, tried_of}
use Rattle.cg_register_text.specs.declared.rises.BothRises.{BothRises}
use Rattle.cg_report.specs.Zeros.{low_moments, zeros_of}
use Rattle.cg_stimulus.specs.Inputs.{Rows, input_names}
use Rattle.cg_stimulus.specs.Played.{IsPlayed}
use Rattle.cg_verilog_text.specs.VEqual.{AreVEqual}
use Rattle.cg_verilog_text.specs.VerilogText.{VerilogText}
use Rattle.cg_verilog_text.specs.Written.{verilog}
use Rattle.cg_gate.specs.WorthInserting.{IsWorthInserting}
use Rattle.cg_gate.specs.Gating.{begun_data, told_outcomes, where_asked}
use Rattle.cg_gate.specs.HintNames.{AreAsked}
use Rattle.cg_gate.specs.Loading.{LoadsWhere}
use Rattle.cg_gate.specs.ZeroCounting.{zero_counts, zero_counts_of, zeros_by}
use Rattle.cg_gate.specs.Played.{EdgesAre, LineIs, Saying, SumUp}
use Rattle.cg_gate.specs.Request.{RequestData, hints_of}
use Rattle.cg_gate.specs.Turns.{Lead}
use Rattle.cg_gate.specs.declared.gate.Texts.{Texts}

-- a waveform of the original as one of the written netlist, whose test input, where it has one, has at each moment the next of
-- these bits
abbrev pub with_bit : Option NetName → Tick → Bool → Tick
with_bit None tick bit = tick
with_bit (Some test) tick bit = record { clock = tick.clock; inputs = tick.inputs ++ bit ∷ [] }

abbrev pub with_bits : Option NetName → List Tick → List Bool → List Tick
with_bits test wave bits = zip_with (with_bit test) wave bits

-- Both netlists have one lawful history each, and at every moment the same bits at their outputs. A register of the written
-- netlist rises where the clock rises and its enable, or the test input, was 1 a moment before.
pub record ShowsSame (m : MachineData) (read written : Circuit) (start added : List Bool) (wave tested : List Tick) : Type 0 where
  pub original : List Moment
  pub original_lawful : IsLawful read start wave original
  pub original_alone : (other : List Moment) → IsLawful read start wave other → other ≡ original
  pub waveform : IsWaveform written tested
  pub history : List Moment
  pub lawful : IsLawful written (start ++ added) tested history
  pub alone : (other : List Moment) → IsLawful written (start ++ added) tested other → other ≡ history
  pub same : outputs_of written history ≡ outputs_of read original
  pub rises : RisesAre written m tested history

-- From every state of the original's registers, with 1 in the delay registers, and over every waveform that begins with the clock
-- low, whatever the test input does, a netlist shows what the original shows.
abbrev pub ShowsAlways : Option NetName → MachineData → Circuit → ℕ → Circuit → Type 0
ShowsAlways test m read delays c =
    (start : List Bool) (wave : List Tick) (bits : List Bool) → IsStart read start → IsWaveform read wave →
    length bits ≡ length wave
    → ShowsSame m read c start (replicate delays true) wave (with_bits test wave bits)

-- With a test input all registers of such a netlist can be loaded: in its history each rises at each rise of the clock a moment after
-- the test input was 1.
abbrev pub LoadsAlways : Option NetName → Circuit → ℕ → Circuit → Type 0
LoadsAlways test read delays c = is_some test ≡ true
    → (start : List Bool) (wave : List Tick) (bits : List Bool) (history : List Moment) → IsStart read start →
    IsWaveform read wave → length bits ≡ length wave
    → IsLawful c (start ++ replicate delays true) (with_bits test wave bits) history → LoadsWhere c wave bits history

-- A Verilog text, read with the same library and with the written netlist's clock as the option, says one netlist and no other, which
-- is well formed. This is the written netlist, but for what Verilog does not keep; it shows what the original shows, and with a test
-- input all its registers can be loaded.
pub record VerilogMeans (request : RequestData) (m : MachineData) (read : Circuit) (delays : ℕ) (written : Circuit)
    (text : List ℕ) : Type 0 where
  pub said : Circuit
  pub well_formed : IsWellFormed said
  pub says : VerilogText text request.library (option_map (net_name written.names) written.clock) said
  pub no_other : (c : Circuit) → VerilogText text request.library (option_map (net_name written.names) written.clock) c → c ≡ said
  pub same : AreVEqual written said
  pub shows : ShowsAlways request.test m read delays said
  pub loads : LoadsAlways request.test read delays said

-- The texts of a netlist that was gated, and what they mean.
pub record Headline (request : RequestData) (says : Option Saying) (read : Circuit) (texts : Texts) : Type 0 where
  -- there is a written netlist, which is well formed, and the text that is put out says it with the same library, and no other
  pub written : Circuit
  pub well_formed : IsWellFormed written
  pub text : texts.out ≡ blif written
  pub says_it : BlifText texts.out request.library None written
  pub no_other : (c : Circuit) → BlifText texts.out request.library None c → c ≡ written
  -- its data inputs and outputs have the names of the original's, but that a test input, where there is to be one, stands behind
  -- the others
  pub inputs : input_names written ≡ input_names read ++ option_to_list request.test
  pub outputs : map (net_name written.names) written.outputs ≡ map (net_name read.names) read.outputs
  -- its model, its clock and its first logic cells are the original's, and its registers are those of the original, each as it
  -- was but for its clock, and behind them delay registers
  pub delays : ℕ
  pub registers : length written.registers ≡ length read.registers + delays
  pub parts : KeepsParts read written
  -- from every state and over every waveform it shows what the original shows
  pub plan : ReportedPlan
  pub shows : ShowsAlways request.test plan.machine read delays written
  -- and with a test input all its registers can be loaded
  pub loads : LoadsAlways request.test read delays written
  -- the Verilog text, where it is asked for, is that of the written netlist, and the netlist that it says shows the same
  pub verilog : texts.verilog ≡ where_asked request.verilog (verilog written)
  pub verilog_means : IfSome texts.verilog (VerilogMeans request plan.machine read delays written)
  -- the hints were tried one after another on the machine of the original, to whose enables the original's gating cells are lifted,
  -- each as what it says by the names of its nets, and each is inserted exactly where it is worth it on the machine of its turn; they
  -- are told with their outcomes, bits that are told of a refuted claim violate it, and where a proof file is asked for there is a
  -- certificate for each register of each inserted hint, in order, with the defined formula and an accepted log, and no other
  pub hints : Reported
  pub tried : AreApplied request.library request.settings.width request.settings.proof (lifted read request.prefix)
      (map (renamed read) (hints_of request)) hints
  pub asked : AreAsked read (hints_of request) tried.done.turns
  pub deserved_hints : (k : ℕ) (turn : HintTurn) → slice_get tried.done.turns k ≡ Some turn →
      (turn.outcome ≡ hint_outcomes.Inserted)
      ↔ IsHintWorthInserting request.library request.settings.width turn.machine turn.hint
  -- and each outcome of a hint says what is so of it there, over all states and inputs where it speaks of a claim or of the condition
  pub outcomes_of_hints : (k : ℕ) (turn : HintTurn) → slice_get tried.done.turns k ≡ Some turn →
      HintDeserves request.library request.settings.width turn.machine turn.hint turn.outcome
  -- it is what the plan's machine is written as; the plan came to its end, its stages lead there from the machine that the hints
  -- leave, and each is inserted exactly where it is worth it on the machine of its turn
  pub is : written ≡ inserted request.library request.test plan.machine
  pub turns : List Turn
  pub planned : turns
      ≡ (plan_of request.library request.settings (zero_counts_of read request.prefix hints.machine request.stimulus) hints.machine).turns
  pub whole :
      (plan_of request.library request.settings (zero_counts_of read request.prefix hints.machine request.stimulus) hints.machine).limit
      ≡ None
  pub lead : Lead turns hints.machine plan.machine
  pub deserved : (k : ℕ) (turn : Turn) → slice_get turns k ≡ Some turn →
      (turn.outcome ≡ Inserted) ↔ IsWorthInserting request.library request.settings turn.machine turn.stage
  -- and every other outcome says what is so of the stage there, over all states and inputs where it speaks of a claim or of idling
  pub outcomes : (k : ℕ) (turn : Turn) → slice_get turns k ≡ Some turn →
      Deserves request.library request.settings turn.machine turn.stage turn.outcome
  -- literals are ranked by how often their nets are 0 in the history on which the stimulus is played on the original; a net that
  -- stands for none of the original's counts 0
  pub ranked : (stimulus : Rows) → request.stimulus ≡ Some stimulus
      → (history : List Moment) × IsPlayed read stimulus.rows history
      × ((zero_counts read request.prefix hints.machine stimulus).zeros
      ≡ map (zeros_by (λ net. zeros_of net (low_moments history))) (origins read hints.machine))
  -- the stages are told with their outcomes, and bits that are told of a refuted claim violate it
  pub told : AreTold turns plan.stages
  -- and it is told of how many registers the hold claims are too wide
  pub wide : plan.wide ≡ wide_of request.settings hints.machine
  -- the proof file has, behind the certificates of the hints, for each claim of each inserted stage, in order, the defined formula and
  -- an accepted log that proves that nothing satisfies it, and nothing else; formulas and logs keep to the bounds of their formats, so
  -- that they are read back
  pub certified : AreCertified (kept_claims request.settings turns) plan.certificates
  pub writable : AreWritable plan.certificates
  pub proof : texts.proof ≡ where_asked request.settings.proof (proof_text plan hints.certificates)
  -- the edges are those of the histories on which the stimulus is played on both netlists, and the watcher says its line of exactly
  -- the moments of the written one's
  pub played : Played
  pub edges : EdgesAre request.stimulus read written played.edges
  pub line : LineIs says request.stimulus written played.watched
  pub said : texts.said ≡ said_text plan (told_outcomes request hints.outcomes) played
  pub report : texts.report
      ≡ where_asked request.report (report_text plan (hints_of request) hints.outcomes (length written.gaters) played)
  -- in those histories the registers rise so often, and their rises sum up to the edges; the text of the registers, where it is asked
  -- for, is that of these rises, of both netlists, of the hints, of the machine that they leave and of the plan; each cause in it is true
  -- of its register, and the sums of the kinds of causes add up to the registers
  pub rises : Option BothRises
  pub risen : RisesWhere request.stimulus read written rises
  pub summed : SumUp rises played.edges
  pub registers_told : texts.registers
      ≡ where_asked request.registers (registers_text (begun_data request read written hints plan) rises)
  pub causes : (r : ℕ) → r < length read.registers
      → Means (record {
        read = read;
        lifted = lifted read request.prefix;
        hints = tried.done.turns;
        began = hints.machine;
        stages = turns;
        ended = plan.machine;
        width = request.settings.width;
      }) r (cause_of (tried_of (begun_data request read written hints plan)) r)
  pub kinds : of_kinds (causes_of (tried_of (begun_data request read written hints plan))) ≡ length read.registers
