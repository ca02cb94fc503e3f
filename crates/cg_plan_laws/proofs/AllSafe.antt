-- The laws of plans, each by its name.
use Rattle.std.proofs.Common.{◌≡◌, ℕ, zero, suc, ◌-◌, ◌<◌, true, List, [], ◌++◌, length, replicate, None, refl, sym, ◌∙◌, ap, subst}
use Rattle.std.proofs.Common.{arith}
use Rattle.cg_net.specs.NetSets.{is_in}
use Rattle.cg_machine.specs.Machine.{IsMachine, MachineData}
use Rattle.cg_machine.specs.Run.{Same}
use Rattle.cg_stage_laws.proofs.StageSafe.{stage_safe}
use Rattle.cg_plan_laws.specs.Plan.{plan_of}
use Rattle.cg_netlist.specs.Circuit.{Circuit}
use Rattle.cg_machine.specs.Run.{ones}
use Rattle.cg_machine.specs.Start.{machine_of}
use Rattle.cg_machine.proofs.Started.{netlist_is_run, start_is_machine}
use Rattle.cg_stage_list_laws.proofs.HoldFits.{hold_fits}
use Rattle.cg_stage_list_laws.proofs.StableFits.{stable_fits}
use Rattle.cg_stage_list_laws.proofs.UnseenFits.{unseen_fits}
use Rattle.cg_plan_laws.specs.Laws.{EachFits, InsertedIsSafe, PlanHasCells, PlanIsSafe, PlanShowsNetlist, ReportedIsSafe}
use Rattle.cg_plan_laws.specs.Plan.{earlier_of}
use Rattle.cg_plan_laws.proofs.Decided.{inserted_claims, inserted_free}
use Rattle.cg_plan_laws.proofs.PlanSafe.{IsSafe, plan_safe}
use Rattle.std.proofs.lemmas.List.{append-nil}
use Rattle.cg_machine.specs.Run.{shown_from}

pub inserted_safe : InsertedIsSafe
inserted_safe library settings m s good fits is =
    let below : (r : ℕ) → is_in s.regs r ≡ true → r < length m.circuit.registers = λ r among. let b = fits.registers r among in omega (arith, b, good.own_registers) in
    stage_safe m s good fits (inserted_free m s good below library settings is) (inserted_claims m s good below library settings is)

pub plans_safe : PlanIsSafe
plans_safe library settings counts m good =
    let safe : IsSafe library settings m (plan_of library settings counts m) = plan_safe library settings m counts good (hold_fits m good counts settings.width)
    (λ p g. stable_fits p.machine g (earlier_of p)) (λ p g. unseen_fits p.machine g (earlier_of p) settings.test) in
    (safe.good, safe.same)

pub none_more : (c : Circuit) (prefix : List ℕ) → ones (machine_of c prefix) ≡ []
none_more c prefix = go (length c.registers - length c.registers) (omega arith)
  where
    go : (n : ℕ) → n ≡ 0 → replicate n true ≡ []
    go zero is = refl
    go (suc n) is = absurd (omega (arith, is))

pub shows_netlist : PlanShowsNetlist
shows_netlist library settings counts c prefix can start wave history started waves lawful =
    let m : MachineData = machine_of c prefix in
    (plans_safe library settings counts m (start_is_machine c prefix can)).1.shows start wave started waves.0
    ∙ (ap (λ s. shown_from m None s wave) (ap (λ l. start ++ l) (none_more c prefix) ∙ append-nil start)
    ∙ sym (netlist_is_run c prefix can start wave history started waves lawful).1)

pub reported_safe : ReportedIsSafe
reported_safe library settings counts m told good is =
    subst (λ n. IsMachine n × Same m n) (sym is.machine) (plans_safe library settings counts m good)

pub each_fits : EachFits
each_fits library settings counts m good k turn at =
    let safe : IsSafe library settings m (plan_of library settings counts m) = plan_safe library settings m counts good (hold_fits m good counts settings.width)
    (λ p g. stable_fits p.machine g (earlier_of p)) (λ p g. unseen_fits p.machine g (earlier_of p) settings.test) in
    safe.turns k turn at

pub has_cells : PlanHasCells
has_cells library settings counts m good has =
    let safe : IsSafe library settings m (plan_of library settings counts m) = plan_safe library settings m counts good (hold_fits m good counts settings.width)
    (λ p g. stable_fits p.machine g (earlier_of p)) (λ p g. unseen_fits p.machine g (earlier_of p) settings.test) in
    safe.cells has
