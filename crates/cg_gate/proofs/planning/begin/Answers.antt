use Rattle.std.proofs.Common.{◌≡◌, ◌∙◌, List, map, Option, unwrap_or, ap, sym, subst}
use Rattle.std.specs.List.{AllByRecursion}
use Rattle.cg_extract.specs.Lifted.{bare, lifted}
use Rattle.cg_gate.proofs.Answering.{if_ok}
use Rattle.cg_gate.proofs.Gated.{hint_stops, told_left}
use Rattle.cg_gate.proofs.Hinted.{if_err}
use Rattle.cg_gate.proofs.planning.begin.Goals as goal
use Rattle.cg_gate.specs.Gating.{AreHintsTried}
use Rattle.cg_gate.specs.Request.{RequestData, begun_of, gating_of, hints_limit, hints_of}
use Rattle.cg_gate.specs.declared.planning.Begun.{Begun}
use Rattle.cg_gate_laws.proofs.BegunSafe.{all_fit}
use Rattle.cg_gate_laws.specs.Begun.{hinted_by, renamed}
use Rattle.cg_hint_laws.specs.Answers.{MayFail, Reported}
use Rattle.cg_hints.specs.Applying.{AreApplied}
use Rattle.cg_hint_laws.specs.Laws.{AllFit}
use Rattle.cg_hint_laws.specs.OfNetlist.{IsOf}
use Rattle.cg_hint_laws.specs.Trying.{hinted}
use Rattle.cg_hint_laws.specs.declared.hint.Hint.{Hint}
use Rattle.cg_machine.specs.Machine.{MachineData}
use Rattle.cg_netlist.specs.Circuit.{Circuit}
use Rattle.cg_netlist.specs.declared.fault.AddFault.{AddFault}
use Rattle.cg_plan_laws.specs.Reported.{PlanMayFail}

pub machine_hints-requires : goal.machine_hints-requires
machine_hints-requires c = subst (λ (r : RequestData). AllByRecursion (IsOf c.args.netlist) (hints_of r)) (sym c.request.view_is) c.requires.hints

pub try_hints-requires : goal.try_hints-requires
try_hints-requires c =
    let request = c.args.request.now in
    let netlist = c.args.netlist in
    let are : c.deref.result.now ≡ map (renamed netlist) (hints_of request) = c.deref.ensures.value ∙ (c.in-Ok.ensures ∙ ap (λ (r : RequestData). map (renamed netlist) (hints_of r)) c.request.view_is) in
    subst (AllFit c.in-Ok-lift.made.machine) (sym are)
    (subst (λ (m : MachineData). AllFit m (map (renamed netlist) (hints_of request))) (sym c.in-Ok-lift.ensures.machine) (all_fit netlist request.prefix c.requires.start (hints_of request) c.requires.hints))

-- hints that were tried, as they are told of what they leave
abbrev told_of : Begun → Reported
told_of begun = record { machine = begun.machine; outcomes = begun.hints.outcomes; certificates = begun.hints.certificates }

module _ (request : RequestData) (netlist : Circuit) (m : MachineData) (hs : List Hint) (are : hs ≡ map (renamed netlist) (hints_of request)) (is : m ≡ lifted netlist request.prefix) where
  -- they are tried on the netlist's machine
  tried_so : (begun : Begun) → AreApplied request.library request.settings.width request.settings.proof m hs (told_of begun)
      → AreApplied request.library request.settings.width request.settings.proof (lifted netlist request.prefix) (map (renamed netlist) (hints_of request)) (told_of begun)
  tried_so begun tried =
      subst (λ (l : List Hint). AreApplied request.library request.settings.width request.settings.proof (lifted netlist request.prefix) l (told_of begun)) are
      (subst (λ (k : MachineData). AreApplied request.library request.settings.width request.settings.proof k hs (told_of begun)) is tried)

  left_so : (begun : Begun) → AreApplied request.library request.settings.width request.settings.proof m hs (told_of begun) → begun.machine ≡ begun_of request netlist
  left_so begun tried = told_left request netlist (told_of begun) (tried_so begun tried)

  hints_so : (begun : Begun) → AreApplied request.library request.settings.width request.settings.proof m hs (told_of begun) → AreHintsTried (gating_of request netlist) netlist begun.hints
  hints_so begun tried =
      subst (λ (k : MachineData). AreApplied request.library request.settings.width request.settings.proof (lifted netlist request.prefix) (map (renamed netlist) (hints_of request)) (record { machine = k; outcomes = begun.hints.outcomes; certificates = begun.hints.certificates }))
      (left_so begun tried) (tried_so begun tried)

  stops_so : (fault : AddFault) → MayFail (hinted request.library request.settings.width m hs) fault → PlanMayFail (hints_limit (gating_of request netlist) netlist) fault
  stops_so fault may =
      let one = subst (λ (k : MachineData). MayFail (hinted request.library request.settings.width k hs) fault) is may in
      let all = subst (λ (l : List Hint). MayFail (hinted request.library request.settings.width (lifted netlist request.prefix) l) fault) are one in
      hint_stops (hinted_by request.library request.settings.width request.prefix (hints_of request) netlist) fault all

pub returns-clause-machine : goal.returns-clause-machine
returns-clause-machine c =
    let request = c.args.request.now in
    let netlist = c.args.netlist in
    let m = c.in-Ok-lift.made.machine in
    let hs = c.deref.result.now in
    let are : hs ≡ map (renamed netlist) (hints_of request) = c.deref.ensures.value ∙ (c.in-Ok.ensures ∙ ap (λ (r : RequestData). map (renamed netlist) (hints_of r)) c.request.view_is) in
    if_ok (λ (begun : Begun). AreApplied request.library request.settings.width request.settings.proof m hs (told_of begun)) (λ (begun : Begun). begun.machine ≡ begun_of request netlist) c.try_hints.result
    (left_so request netlist m hs are c.in-Ok-lift.ensures.machine) c.try_hints.ensures.tried

pub returns-clause-tried : goal.returns-clause-tried
returns-clause-tried c =
    let request = c.args.request.now in
    let netlist = c.args.netlist in
    let m = c.in-Ok-lift.made.machine in
    let hs = c.deref.result.now in
    let are : hs ≡ map (renamed netlist) (hints_of request) = c.deref.ensures.value ∙ (c.in-Ok.ensures ∙ ap (λ (r : RequestData). map (renamed netlist) (hints_of r)) c.request.view_is) in
    if_ok (λ (begun : Begun). AreApplied request.library request.settings.width request.settings.proof m hs (told_of begun)) (λ (begun : Begun). AreHintsTried (gating_of request netlist) netlist begun.hints) c.try_hints.result
    (hints_so request netlist m hs are c.in-Ok-lift.ensures.machine) c.try_hints.ensures.tried

pub returns-clause-kept : goal.returns-clause-kept
returns-clause-kept c =
    let netlist = c.args.netlist in
    if_ok (λ (begun : Begun). begun.kept ≡ c.in-Ok-lift.made.kept) (λ (begun : Begun). unwrap_or begun.kept (bare netlist) ≡ netlist) c.try_hints.result
    (λ begun is. ap (λ (k : Option Circuit). unwrap_or k (bare netlist)) is ∙ c.in-Ok-lift.ensures.kept) c.try_hints.ensures.kept

pub returns-clause-fault : goal.returns-clause-fault
returns-clause-fault c =
    let request = c.args.request.now in
    let netlist = c.args.netlist in
    let m = c.in-Ok-lift.made.machine in
    let hs = c.deref.result.now in
    let are : hs ≡ map (renamed netlist) (hints_of request) = c.deref.ensures.value ∙ (c.in-Ok.ensures ∙ ap (λ (r : RequestData). map (renamed netlist) (hints_of r)) c.request.view_is) in
    if_err (MayFail (hinted request.library request.settings.width m hs)) (PlanMayFail (hints_limit (gating_of request netlist) netlist)) c.try_hints.result
    (stops_so request netlist m hs are c.in-Ok-lift.ensures.machine) c.try_hints.ensures.fault
