-- What is left of hints and a plan once the proof file is made of their certificates, and the texts of that.
use Rattle.std.specs.Prelude.{◌≡◌, List, [], ℕ, Option, length}
use Rattle.cg_blif_text.specs.Canonical.{blif}
use Rattle.cg_netlist.specs.Circuit.{Circuit}
use Rattle.cg_plan.specs.Planning.{told}
use Rattle.cg_plan.specs.declared.plan.Plan.{Plan}
use Rattle.cg_plan_laws.specs.Reported.{ReportedPlan}
use Rattle.cg_plan_text.specs.ProofText.{proof_text}
use Rattle.cg_plan_text.specs.Summary.{report_text, said_text}
use Rattle.cg_plan_text.specs.declared.summary.Played.{Played}
use Rattle.cg_verilog_text.specs.Written.{verilog}
use Rattle.cg_gate.specs.Gating.{IsWritten, TellsRegisters, gated_data, told_outcomes, where_asked}
use Rattle.cg_gate.specs.Played.{IsWhatPlayed, Saying}
use Rattle.cg_gate.specs.Request.{RequestData, gating_of, hints_of}
use Rattle.cg_gate.specs.declared.gate.OtherTexts.{OtherTexts}
use Rattle.cg_gate.specs.declared.gate.Texts.{Texts}
use Rattle.cg_gate.specs.declared.planning.Gated.{Gated}
use Rattle.cg_gate.specs.declared.planning.Planned.{Planned}
use Rattle.cg_gate.specs.declared.proving.Proved.{Proved}
use Rattle.cg_gate.specs.declared.planning.TriedHints.{TriedHints}

-- a plan as it is told, without its certificates
abbrev pub uncertified : ReportedPlan → ReportedPlan
uncertified plan = record plan { certificates = [] }

-- hints and a plan with this proof file, without their certificates; and with the netlist that the plan's machine is written as
abbrev pub proved_by : Planned → Option (List ℕ) → Proved
proved_by planned proof = record {
  outcomes = planned.hints.outcomes;
  plan = record planned.plan { certificates = [] };
  proof = proof;
  kept = planned.kept;
}

abbrev pub gated_by : Proved → Circuit → Gated
gated_by proved netlist = record {
  outcomes = proved.outcomes;
  plan = proved.plan;
  proof = proved.proof;
  netlist = netlist;
  kept = proved.kept;
}

-- A netlist was gated: there are hints and a plan that are written as a netlist, of which this is left: the outcomes, the plan but for its
-- certificates and, where it is asked for, the proof file.
pub record IsGatedAs (request : RequestData) (read : Circuit) (gated : Gated) : Type 0 where
  pub hints : TriedHints
  pub plan : ReportedPlan
  pub written : IsWritten (gating_of request read) read hints plan gated.netlist
  pub outcomes : gated.outcomes ≡ hints.outcomes
  pub uncertified : told gated.plan ≡ uncertified plan
  pub proof : gated.proof ≡ where_asked request.settings.proof (proof_text plan hints.certificates)

-- the texts of that beside the proof file and the text of the written netlist
pub record AreOthers (request : RequestData) (read : Circuit) (gated : Gated) (played : Played) (others : OtherTexts) : Type 0 where
  pub report : others.report
      ≡ where_asked request.report
      (report_text (told gated.plan) (hints_of request) gated.outcomes (length gated.netlist.gaters) played)
  pub verilog : others.verilog ≡ where_asked request.verilog (verilog gated.netlist)
  pub registers : TellsRegisters request (gated_data request read gated.netlist gated.outcomes (told gated.plan)) others.registers
  pub said : others.said ≡ said_text (told gated.plan) (told_outcomes request gated.outcomes) played

-- with what comes of the stimulus
pub record TellsOthers (request : RequestData) (says : Option Saying) (read : Circuit) (gated : Gated) (others : OtherTexts) : Type 0 where
  pub played : Played
  pub what : IsWhatPlayed says request.stimulus read gated.netlist played
  pub gives : AreOthers request read gated played others

-- all texts, with this proof file and this text of the written netlist
abbrev pub texts_with : OtherTexts → Option (List ℕ) → List ℕ → Texts
texts_with others proof out = record {
  out = out;
  proof = proof;
  report = others.report;
  verilog = others.verilog;
  registers = others.registers;
  said = others.said;
}

-- all texts of what is left
pub record TellsLeft (request : RequestData) (says : Option Saying) (read : Circuit) (gated : Gated) (texts : Texts) : Type 0 where
  pub others : OtherTexts
  pub tells : TellsOthers request says read gated others
  pub is : texts ≡ texts_with others gated.proof (blif gated.netlist)
