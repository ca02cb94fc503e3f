-- What the code makes of a netlist: the plan's machine may be written, and what comes of it is what gating gives.
use Rattle.std.proofs.Common.{◌≡◌, ◌++◌, map, Option, None, Some, Result, Ok, Err, refl, sym, ◌∙◌, ap, subst, append_assoc, inl, inr}
use Rattle.std.specs.Option.{option_or, option_to_list}
use Rattle.cg_gate_laws.specs.Gated.{CanGate, Gating, gated_by, planned}
use Rattle.cg_gate_laws.proofs.Behaving.{gated_behaves}
use Rattle.cg_gate_laws.proofs.Planned.{can_insert}
use Rattle.cg_insert.specs.Insert.{CanInsert, inserted, insertion_limit}
use Rattle.cg_insert.specs.Inserting.{insertion, unless_passed}
use Rattle.cg_limit.specs.Answers.{OrNoMemory}
use Rattle.cg_limit.specs.declared.Limit.{Limit}
use Rattle.cg_netlist.specs.Circuit.{Circuit}
use Rattle.cg_netlist.specs.declared.fault.AddFault.{AddFault}
use Rattle.cg_netlist.specs.declared.fault.AddFault.TheVariants.{Limit as LimitFault, NoMemory}
use Rattle.cg_plan_laws.specs.Reported.{PlanMayFail, ReportedPlan}
use Rattle.cg_stimulus.specs.Inputs.{IsFor, Rows, input_names}
use Rattle.cg_plan.specs.Planning.{AreWritable}
use Rattle.cg_extract.specs.Lifted.{lifted}
use Rattle.cg_gate.specs.Gating.{AreHintsTried, IsBegunPlan, IsWritten}
use Rattle.cg_gate_laws.specs.Begun.{renamed}
use Rattle.cg_gate.specs.Proper.{IsProper}
use Rattle.cg_gate.specs.Request.{MayGate, RequestData, begun_of, gating_of, hints_limit, hints_of, limit_of, plan_limit, stops_at}
use Rattle.cg_gate.specs.declared.planning.TriedHints.{TriedHints}
use Rattle.cg_gate_laws.proofs.BegunSafe.{left_is}
use Rattle.cg_hint_laws.specs.Answers.{MayFail, Reported}
use Rattle.cg_hints.specs.Applying.{AreApplied}
use Rattle.cg_gate.proofs.MayInsert.{may_gate}

-- a netlist that was inserted passes no limit
unpassed : (limit : Option Limit) (c d : Circuit) → unless_passed limit c ≡ Ok d → (limit ≡ None) × (d ≡ c)
unpassed None c d is = (refl, let same : c ≡ d = cc in sym same)
unpassed (Some limit) c d is = absurd (cc)

passed : (limit : Option Limit) (c : Circuit) (fault : AddFault) → unless_passed limit c ≡ Err fault → PlanMayFail limit fault
passed None c fault is = absurd (cc)
passed (Some limit) c NoMemory is = tt
passed (Some limit) c (LimitFault which) is = let same : limit ≡ which = cc in ap Some same

-- a limit that a hint passes stops the plan
pub hint_stops : {A : Type 0} (tried : Result A AddFault) (fault : AddFault) → MayFail tried fault → PlanMayFail (limit_of tried) fault
hint_stops tried NoMemory is = tt
hint_stops tried (LimitFault limit) is = ap limit_of is

-- hints that were tried leave the machine with which the plan begins
pub told_left : (request : RequestData) (read : Circuit) (hints : Reported) → AreApplied request.library request.settings.width request.settings.proof (lifted read request.prefix) (map (renamed read) (hints_of request)) hints → hints.machine ≡ begun_of request read
told_left request read hints tried = tried.machine ∙ left_is (gating_of request read) read tried.done tried.tried

module _ (request : RequestData) (read : Circuit) (proper : IsProper request) (may : MayGate request read) (hints : TriedHints) (told : ReportedPlan)
    (tried : AreHintsTried (gating_of request read) read hints) (plan : IsBegunPlan request read told) where
  abbrev by : Gating
  by = gating_of request read

  can : CanGate (gating_of request read) read
  can = may_gate request read proper may

  pub may_insert : CanInsert request.library request.test told.machine
  may_insert = subst (CanInsert request.library request.test) (sym plan.machine) (can_insert by read can).1

  pub gives_gated : AreWritable told.certificates → (written : Circuit) → insertion request.library request.test told.machine ≡ Ok written
      → IsWritten (gating_of request read) read hints told written
  gives_gated can_write written is =
      let un = unpassed (insertion_limit request.test told.machine) (inserted request.library request.test told.machine) written is in
      record { tried = tried; plan = plan; writable = can_write; fits = un.0; is = un.1 }

  pub for_inserted : (written : Circuit) → written ≡ inserted request.library request.test told.machine → (stimulus : Rows) → request.stimulus ≡ Some stimulus → IsFor written stimulus
  for_inserted written is stimulus there =
      let same : written ≡ gated_by by read = is ∙ ap (inserted request.library request.test) plan.machine in
      let for' = may.played stimulus there in
      let names : input_names written ≡ input_names read ++ option_to_list request.test = ap input_names same ∙ (gated_behaves by read can).inputs in
      (for'.0 ++ option_to_list request.test, names ∙ (ap (λ front. front ++ option_to_list request.test) for'.1 ∙ append_assoc stimulus.inputs for'.0 (option_to_list request.test)))

  pub for_written : (written : Circuit) → insertion request.library request.test told.machine ≡ Ok written → (stimulus : Rows) → request.stimulus ≡ Some stimulus → IsFor written stimulus
  for_written written is = for_inserted written (unpassed (insertion_limit request.test told.machine) (inserted request.library request.test told.machine) written is).1

  -- neither a hint nor the plan passes a limit
  passes_none : option_or (hints_limit by read) (plan_limit by read) ≡ None
  passes_none = ap (λ r. option_or (limit_of r) (plan_limit by read)) tried.tried ∙ plan.whole

  pub insertion_stops : (fault : AddFault) → OrNoMemory {A = Circuit} {B = Circuit} NoMemory (λ (c : Circuit). c) (Err fault) (insertion request.library request.test told.machine) → PlanMayFail (stops_at request read) fault
  insertion_stops fault answer = elim answer [
    | inl none ↦ subst (PlanMayFail (stops_at request read)) (sym none) tt
    | inr some ↦ subst (λ l. PlanMayFail l fault) limits (passed (insertion_limit request.test told.machine) (inserted request.library request.test told.machine) fault some)
  ]
    where
      limits : insertion_limit request.test told.machine ≡ stops_at request read
      limits = ap (insertion_limit request.test) plan.machine ∙ ap (λ l. option_or l (insertion_limit request.test (planned by read))) (sym passes_none)

  pub written_is : (written : Circuit) → IsWritten (gating_of request read) read hints told written → written ≡ gated_by (gating_of request read) read
  written_is written is = is.is ∙ ap (inserted request.library request.test) plan.machine

  pub unstopped : (written : Circuit) → IsWritten (gating_of request read) read hints told written → stops_at request read ≡ None
  unstopped written is = ap (λ l. option_or l (insertion_limit request.test (planned by read))) passes_none ∙ (ap (insertion_limit request.test) (sym plan.machine) ∙ is.fits)
