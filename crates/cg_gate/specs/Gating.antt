-- What gating gives: hints and a plan, the netlist that its machine is written as, what comes of the stimulus, and the texts of these.
use Rattle.std.specs.Prelude.{◌≡◌, ℕ, Bool, if◌then◌else◌, List, length, map, Option, None, Some}
use Rattle.std.specs.Option.{option_map}
use Rattle.cg_blif_text.specs.Canonical.{blif}
use Rattle.cg_gate_laws.specs.Begun.{renamed}
use Rattle.cg_gate_laws.specs.Gated.{Gating, begun}
use Rattle.cg_hint_laws.specs.Answers.{Reported}
use Rattle.cg_hint_laws.specs.declared.outcome.HintOutcome.{HintOutcome}
use Rattle.cg_hints.specs.Applying.{AreApplied}
use Rattle.cg_insert.specs.Insert.{inserted, insertion_limit}
use Rattle.cg_extract.specs.Lifted.{lifted}
use Rattle.cg_netlist.specs.Circuit.{Circuit}
use Rattle.cg_plan_laws.specs.Reported.{IsPlan, ReportedPlan}
use Rattle.cg_plan_text.specs.ProofText.{proof_text}
use Rattle.cg_plan_text.specs.Summary.{demo_text, report_text, said_text}
use Rattle.cg_plan_text.specs.declared.summary.Edges.{Edges}
use Rattle.cg_plan_text.specs.declared.summary.Played.{Played}
use Rattle.cg_register_text.specs.Rises.{RisesWhere}
use Rattle.cg_register_text.specs.Words.{GatedData, registers_text}
use Rattle.cg_register_text.specs.declared.rises.BothRises.{BothRises}
use Rattle.cg_stimulus.specs.Inputs.{Rows}
use Rattle.cg_verilog_text.specs.Written.{verilog}
use Rattle.cg_plan.specs.Planning.{AreWritable}
use Rattle.cg_gate.specs.Played.{AreEdges, IsWhatPlayed, Saying}
use Rattle.cg_gate.specs.Request.{RequestData, begun_of, gating_of, hints_of}
use Rattle.cg_gate.specs.declared.planning.TriedHints.{TriedHints}
use Rattle.cg_gate.specs.declared.gate.Texts.{Texts}

-- hints of a netlist were tried one after another on its machine, and are told so
abbrev pub AreHintsTried : Gating → Circuit → TriedHints → Type 0
AreHintsTried by c hints =
    AreApplied by.library by.settings.width by.settings.proof (lifted c by.prefix) (map (renamed c) by.hints)
    (record { machine = begun by c; outcomes = hints.outcomes; certificates = hints.certificates })

-- hints as they are told, a plan as it is told, which begins with the machine that they leave and whose certificates keep to the bounds
-- of their formats, and the netlist that its machine is written as. Free are the bits that are told of a refuted claim and the logs of
-- the certificates, as far as their definitions leave them open.
pub record IsWritten (by : Gating) (c : Circuit) (hints : TriedHints) (told : ReportedPlan) (written : Circuit) : Type 0 where
  pub tried : AreHintsTried by c hints
  pub plan : IsPlan by.library by.settings by.counts (begun by c) told
  pub writable : AreWritable told.certificates
  pub fits : insertion_limit by.test told.machine ≡ None
  pub is : written ≡ inserted by.library by.test told.machine

-- the plan that begins with the machine that the hints leave
abbrev pub IsBegunPlan : RequestData → Circuit → ReportedPlan → Type 0
IsBegunPlan request c told = IsPlan request.library request.settings (gating_of request c).counts (begun_of request c) told

-- a text that is there where it is asked for
abbrev pub where_asked : Bool → List ℕ → Option (List ℕ)
where_asked asked text = if asked then Some text else None

-- the outcomes of hints, where hints are asked for
abbrev pub told_outcomes : RequestData → List HintOutcome → Option (List HintOutcome)
told_outcomes request outcomes = option_map (λ asked. outcomes) request.hints

-- A netlist that was read and what it is written as, with its hints and its plan, as far as its registers are told. The plan began with
-- the machine that the hints leave.
abbrev pub begun_data : RequestData → Circuit → Circuit → Reported → ReportedPlan → GatedData
begun_data request read written hints told = record {
  read = read;
  written = written;
  began = hints.machine;
  width = request.settings.width;
  hints = hints_of request;
  outcomes = hints.outcomes;
  plan = told;
}

-- so too, but that the plan's machine stands for the one with which it began: the text is the same
abbrev pub gated_data : RequestData → Circuit → Circuit → List HintOutcome → ReportedPlan → GatedData
gated_data request read written outcomes told = record {
  read = read;
  written = written;
  began = told.machine;
  width = request.settings.width;
  hints = hints_of request;
  outcomes = outcomes;
  plan = told;
}

-- the text of the registers, where it is asked for, with how often each rises where the stimulus is played on both netlists
pub record TellsRegisters (request : RequestData) (g : GatedData) (text : Option (List ℕ)) : Type 0 where
  pub rises : Option BothRises
  pub counted : RisesWhere request.stimulus g.read g.written rises
  pub is : text ≡ where_asked request.registers (registers_text g rises)

-- the texts of a netlist that was read, of what it is written as, of the hints and of the plan
pub record AreTexts (request : RequestData) (read written : Circuit) (hints : TriedHints) (told : ReportedPlan) (played : Played)
    (texts : Texts) : Type 0 where
  pub out : texts.out ≡ blif written
  pub proof : texts.proof ≡ where_asked request.settings.proof (proof_text told hints.certificates)
  pub report : texts.report
      ≡ where_asked request.report (report_text told (hints_of request) hints.outcomes (length written.gaters) played)
  pub verilog : texts.verilog ≡ where_asked request.verilog (verilog written)
  pub registers : TellsRegisters request (gated_data request read written hints.outcomes told) texts.registers
  pub said : texts.said ≡ said_text told (told_outcomes request hints.outcomes) played

-- those texts, with what comes of the stimulus
pub record TellsGated (request : RequestData) (says : Option Saying) (read written : Circuit) (hints : TriedHints)
    (told : ReportedPlan) (texts : Texts) : Type 0 where
  pub played : Played
  pub what : IsWhatPlayed says request.stimulus read written played
  pub gives : AreTexts request read written hints told played texts

-- what gating gives of a netlist, with a watcher that says this, if there is one
pub record GivesGated (request : RequestData) (says : Option Saying) (c : Circuit) (texts : Texts) : Type 0 where
  pub hints : TriedHints
  pub told : ReportedPlan
  pub written : Circuit
  pub gated : IsWritten (gating_of request c) c hints told written
  pub tells : TellsGated request says c written hints told texts

-- what is said of a generated pipeline of this size that was gated
pub record SaysDemo (size : ℕ) (rows : List (List Bool)) (read written : Circuit) (told : ReportedPlan) (text : List ℕ) : Type 0 where
  pub both : Edges
  pub edges : AreEdges rows read written both
  pub said : text ≡ demo_text size told (length written.gaters) both

pub record GivesDemo (size : ℕ) (request : RequestData) (c : Circuit) (text : List ℕ) : Type 0 where
  pub stimulus : Rows
  pub played : request.stimulus ≡ Some stimulus
  pub hints : TriedHints
  pub told : ReportedPlan
  pub written : Circuit
  pub gated : IsWritten (gating_of request c) c hints told written
  pub says : SaysDemo size stimulus.rows c written told text
