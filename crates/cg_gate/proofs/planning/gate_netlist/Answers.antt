use Rattle.cg_extract.specs.Reading.{read_of}
use Rattle.cg_gate.proofs.Gated.{for_written, gives_gated, insertion_stops, may_insert}
use Rattle.cg_gate.proofs.Hinted.{hints_writable}
use Rattle.cg_gate.proofs.Kept.{read_planned}
use Rattle.cg_gate.proofs.planning.gate_netlist.Goals as goal
use Rattle.cg_gate.specs.Left.{IsGatedAs, gated_by}
use Rattle.cg_gate.specs.Gating.{where_asked}
use Rattle.cg_gate.specs.Request.{RequestData, gating_of}
use Rattle.cg_gate.specs.declared.planning.Gated.{Gated}
use Rattle.cg_gate.specs.declared.proving.Proved.{Proved}
use Rattle.cg_hints.specs.Applying.{kept_claims}
use Rattle.cg_insert.specs.Insert.{CanInsert}
use Rattle.cg_insert.specs.Inserting.{insertion}
use Rattle.cg_limit.specs.Answers.{OrNoMemory}
use Rattle.cg_machine.specs.Machine.{MachineData}
use Rattle.cg_netlist.specs.Circuit.{Circuit}
use Rattle.cg_netlist.specs.declared.fault.AddFault.TheVariants.{NoMemory}
use Rattle.cg_plan.specs.Planning.{told}
use Rattle.cg_plan_text.specs.ProofText.{proof_text}
use Rattle.cg_stimulus.specs.Inputs.{IsFor, Rows}
use Rattle.std.proofs.Common.{◌≡◌, ◌∙◌, Err, Ok, Some, ap, refl, sym, subst}

pub prove-requires-clause-hints : goal.prove-requires-clause-hints
prove-requires-clause-hints g c =
    let tried = c.in_ok-planned.ensures.tried in
    hints_writable (kept_claims c.args.request.now.settings.proof tried.done.turns) c.in_ok-planned.planned.hints.certificates tried.certificates

pub write_plan-requires : goal.write_plan-requires
write_plan-requires g c =
    let p = c.in_ok-planned.planned in
    let request = c.args.request.now in
    subst (CanInsert request.library request.test) (sym (ap (λ (d : Proved). d.plan.machine) c.in_ok-proved.ensures))
    (may_insert request c.args.netlist c.hold_request.ensures c.requires p.hints (told p.plan) c.in_ok-planned.ensures.tried c.in_ok-planned.ensures.plan)

pub returns-in-Err-clause-fault : goal.returns-in-Err-clause-fault
returns-in-Err-clause-fault g c =
    let p = c.in_ok-planned.planned in
    let request = c.args.request.now in
    insertion_stops request c.args.netlist c.hold_request.ensures c.requires p.hints (told p.plan) c.in_ok-planned.ensures.tried c.in_ok-planned.ensures.plan c.in-Err.fault
    (subst (λ (m : MachineData). OrNoMemory {A = Circuit} {B = Circuit} NoMemory (λ (n : Circuit). n) (Err c.in-Err.fault) (insertion request.library request.test m)) (ap (λ (d : Proved). d.plan.machine) c.in_ok-proved.ensures) c.in-Err.ensures)

pub returns-in-Ok-clause-gated : goal.returns-in-Ok-clause-gated
returns-in-Ok-clause-gated g c =
    let p = c.in_ok-planned.planned in
    let request = c.args.request.now in
    let netlist = c.args.netlist in
    let inserted = subst (λ (m : MachineData). insertion request.library request.test m ≡ Ok c.in-Ok.netlist) (ap (λ (d : Proved). d.plan.machine) c.in_ok-proved.ensures) c.in-Ok.ensures in
    subst (IsGatedAs request netlist) (sym (c.written.ensures ∙ ap (λ (d : Proved). gated_by d c.in-Ok.netlist) c.in_ok-proved.ensures))
    (record {
      hints = p.hints;
      plan = told p.plan;
      written = gives_gated request netlist c.hold_request.ensures c.requires p.hints (told p.plan) c.in_ok-planned.ensures.tried c.in_ok-planned.ensures.plan c.in_ok-planned.ensures.writable c.in-Ok.netlist inserted;
      outcomes = refl;
      uncertified = refl;
      proof = ap (λ (r : RequestData). where_asked r.settings.proof (proof_text (told p.plan) p.hints.certificates)) c.request.view_is;
    })

pub returns-in-Ok-clause-read : goal.returns-in-Ok-clause-read
returns-in-Ok-clause-read g c =
    let p = c.in_ok-planned.planned in
    let request = c.args.request.now in
    let netlist = c.args.netlist in
    subst (λ (gated : Gated). read_of gated.kept gated.plan.machine ≡ netlist) (sym (c.written.ensures ∙ ap (λ (d : Proved). gated_by d c.in-Ok.netlist) c.in_ok-proved.ensures))
    (ap (read_of p.kept) c.in_ok-planned.ensures.plan.machine ∙ read_planned (gating_of request netlist) netlist p.kept c.requires.start c.requires.hints c.in_ok-planned.ensures.kept)

pub returns-in-Ok-clause-fits : goal.returns-in-Ok-clause-fits
returns-in-Ok-clause-fits g c =
    let p = c.in_ok-planned.planned in
    let request = c.args.request.now in
    let inserted = subst (λ (m : MachineData). insertion request.library request.test m ≡ Ok c.in-Ok.netlist) (ap (λ (d : Proved). d.plan.machine) c.in_ok-proved.ensures) c.in-Ok.ensures in
    subst (λ (gated : Gated). (stimulus : Rows) → request.stimulus ≡ Some stimulus → IsFor gated.netlist stimulus) (sym c.written.ensures)
    (for_written request c.args.netlist c.hold_request.ensures c.requires p.hints (told p.plan) c.in_ok-planned.ensures.tried c.in_ok-planned.ensures.plan c.in-Ok.netlist inserted)
