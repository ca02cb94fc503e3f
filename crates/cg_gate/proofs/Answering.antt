-- What gating answers, from what its steps answer.
use Rattle.std.proofs.Common.{◌≡◌, Option, None, Some, Result, Ok, Err, IfOk, IfErr, refl, sym, ap, ◌∙◌, subst}
use Rattle.std.specs.Prelude.{OnOk}
use Rattle.std.specs.Option.{option_map, option_or}
use Rattle.cg_gate_laws.specs.Gated.{gated_by}
use Rattle.cg_netlist.specs.Circuit.{Circuit}
use Rattle.cg_netlist.specs.declared.fault.AddFault.{AddFault}
use Rattle.cg_netlist.specs.declared.fault.AddFault.TheVariants.{Limit as Passed, NoMemory}
use Rattle.cg_gate.specs.declared.planning.TriedHints.{TriedHints}
use Rattle.cg_plan_laws.specs.Reported.{PlanMayFail, ReportedPlan}
use Rattle.cg_stimulus.specs.Inputs.{Rows}
use Rattle.cg_gate.specs.Gating.{GivesGated, IsWritten, TellsGated}
use Rattle.cg_gate.specs.Headline.{Headline}
use Rattle.cg_gate.specs.Proper.{IsProper}
use Rattle.cg_gate.specs.Played.{IsWhatPlayed, LineIs, Saying}
use Rattle.cg_gate.specs.Request.{MayGate, RequestData, gating_of, stops_at}
use Rattle.cg_gate.specs.Stops.{GatingMayFail, fault_of_limit, gating_stop, verilog_stop}
use Rattle.cg_gate.specs.declared.fault.GateFault.{GateFault}
use Rattle.cg_gate.specs.declared.fault.GateFault.TheVariants as faults
use Rattle.cg_gate.specs.declared.gate.Texts.{Texts}
use Rattle.cg_gate.proofs.Meaning.{means}

pub if_ok : {A E : Type 0} (P Q : A → Type 0) (r : Result A E) → ((x : A) → P x → Q x) → IfOk r P → IfOk r Q
if_ok P Q (Ok x) all is = all x is
if_ok P Q (Err fault) all is = tt

-- what stops the plan stops gating
pub plan_stops : (request : RequestData) (read : Circuit) (cause : AddFault) → PlanMayFail (stops_at request read) cause → GatingMayFail (gating_stop request read) (fault_of_limit cause)
plan_stops request read NoMemory may = tt
plan_stops request read (Passed limit) may = ap (λ stop. option_or (option_map faults.Limit stop) (verilog_stop request.verilog (gated_by (gating_of request read) read))) may

-- once the gated netlist is made, only what keeps it from having a Verilog text stops gating
pub text_stops : (request : RequestData) (read written : Circuit) → stops_at request read ≡ None → written ≡ gated_by (gating_of request read) read → gating_stop request read ≡ verilog_stop request.verilog written
text_stops request read written unstopped is =
    ap (λ stop. option_or (option_map faults.Limit stop) (verilog_stop request.verilog (gated_by (gating_of request read) read))) unstopped ∙ ap (verilog_stop request.verilog) (sym is)

module _ {A : Type 0} (stop other : Option GateFault) (same : stop ≡ other) where
  pub unstopped_so : (r : Result A GateFault) → OnOk r (other ≡ None) → OnOk r (stop ≡ None)
  unstopped_so (Ok x) none = same ∙ none
  unstopped_so (Err fault) none = tt

  pub stopped_so : (r : Result A GateFault) → IfErr r (GatingMayFail other) → IfErr r (GatingMayFail stop)
  stopped_so (Ok x) may = tt
  stopped_so (Err fault) may = subst (λ stop. GatingMayFail stop fault) (sym same) may

unsaid : (says : Option Saying) (written : Circuit) → LineIs says None written None
unsaid None written = refl
unsaid (Some says) written = refl

-- without a stimulus nothing comes of it, whoever looks on
pub unplayed : (says : Option Saying) (stimulus : Option Rows) (read written : Circuit) → stimulus ≡ None → IsWhatPlayed says stimulus read written (record { edges = None; watched = None })
unplayed says stimulus read written none = subst (λ (s : Option Rows). IsWhatPlayed says s read written (record { edges = None; watched = None })) (sym none) (record { edges = refl; line = unsaid says written })

module _ (request : RequestData) (says : Option Saying) (read written : Circuit) (hints : TriedHints) (told : ReportedPlan) (gated : IsWritten (gating_of request read) read hints told written) where
  pub gives_all : (texts : Texts) → TellsGated request says read written hints told texts → GivesGated request says read texts
  gives_all texts tells = record { hints = hints; told = told; written = written; gated = gated; tells = tells }

  pub means_all : IsProper request → MayGate request read → (texts : Texts) → TellsGated request says read written hints told texts → Headline request says read texts
  means_all proper may texts tells = means request says read texts proper may (gives_all texts tells)
