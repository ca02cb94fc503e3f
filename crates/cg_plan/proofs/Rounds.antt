-- Rounds, from the lists that the draft finds.
use Rattle.std.proofs.Common.{◌≡◌, ℕ, zero, suc, ◌==◌, IfOk, true, List, [], ◌∷◌, length, None, Result, Ok, Err, refl, sym, ◌∙◌, ap}
use Rattle.std.proofs.Common.{subst, arith}
use Rattle.std.proofs.lemmas.Bool.{eqb-true}
use Rattle.std.specs.declared.alloc.AllocError.{AllocError}
use Rattle.cg_cell.specs.Cell.{CellData}
use Rattle.cg_stage_list_laws.proofs.StableFits.{stable_fits}
use Rattle.cg_stage_list_laws.proofs.UnseenFits.{unseen_fits}
use Rattle.cg_stage_list_laws.specs.Fit.{AllFit}
use Rattle.cg_machine.specs.Machine.{IsMachine, MachineData}
use Rattle.cg_machine.specs.declared.stage.Earlier.{Earlier}
use Rattle.cg_machine.specs.declared.stage.Stage.{Stage}
use Rattle.cg_machine.specs.declared.stage.StageKind.{StageKind}
use Rattle.cg_machine.specs.declared.stage.StageKind.TheVariants.{Hold, Stable, Unseen}
use Rattle.cg_netlist.specs.declared.fault.AddFault.{AddFault}
use Rattle.cg_plan_laws.specs.Plan.{Plan, list_by, rounds, try_all, unless_stopped}
use Rattle.cg_plan_laws.specs.Reported.{PlanMayFail}
use Rattle.cg_plan_laws.specs.declared.settings.Settings.{Settings}
use Rattle.cg_plan.specs.declared.plan.Draft.{Draft}
use Rattle.cg_plan.specs.inner.Drafting.{IsDraft, Leads, MayStop, round_list}

-- the list of a round, as the draft has it
pub list_reported : (kind : StageKind) (settings : Settings) (p : Plan) (d : Draft) → IsDraft settings p d → round_list kind settings d.machine d.earlier ≡ list_by kind settings p
list_reported Hold settings p d draft = refl
list_reported Stable settings p d draft = ap (λ m. round_list Stable settings m d.earlier) draft.machine ∙ ap (λ l. round_list Stable settings p.machine l) draft.earlier
list_reported Unseen settings p d draft = ap (λ m. round_list Unseen settings m d.earlier) draft.machine ∙ ap (λ l. round_list Unseen settings p.machine l) draft.earlier

pub list_fits : (kind : StageKind) (settings : Settings) (m : MachineData) (earlier : List Earlier) → IsMachine m → AllFit m (round_list kind settings m earlier)
list_fits Hold settings m earlier good = tt
list_fits Stable settings m earlier good = stable_fits m good earlier
list_fits Unseen settings m earlier good = unseen_fits m good earlier settings.test

-- rounds without stages
pub no_rounds : (library : List CellData) (settings : Settings) (kind : StageKind) (n : ℕ) (p : Plan) → list_by kind settings p ≡ [] → p.limit ≡ None → rounds library settings kind n p ≡ p
no_rounds library settings kind zero p none going = refl
no_rounds library settings kind (suc n) p none going =
    ap (λ stages. let q = try_all library settings p stages in unless_stopped q.limit q (rounds library settings kind n q)) none
    ∙ (ap (λ o. unless_stopped o p (rounds library settings kind n p)) going ∙ no_rounds library settings kind n p none going)

pub no_stages : (stages : List Stage) → (length stages == 0) ≡ true → stages ≡ []
no_stages [] none = refl
no_stages (s ∷ stages) none = absurd (omega (arith, eqb-true (length (s ∷ stages)) 0 none))

-- a list that is found for a kind and what was tried
pub found_list : (r : Result (List Stage) AllocError) (kind found : StageKind) (settings : Settings) (m : MachineData) (earlier seen : List Earlier) → kind ≡ found → seen ≡ earlier
    → IfOk r (λ stages. stages ≡ round_list found settings m seen) → IfOk r (λ stages. stages ≡ round_list kind settings m earlier)
found_list r kind found settings m earlier seen same tried is =
    subst (λ k. IfOk r (λ stages. stages ≡ round_list k settings m earlier)) (sym same) (subst (λ l. IfOk r (λ stages. stages ≡ round_list found settings m l)) tried is)

-- where a list of a round is found, it fits
pub found_fits : (r : Result (List Stage) AllocError) (kind : StageKind) (settings : Settings) (m : MachineData) (earlier : List Earlier) → IsMachine m
    → IfOk r (λ stages. stages ≡ round_list kind settings m earlier) → IfOk r (AllFit m)
found_fits (Ok stages) kind settings m earlier good is = subst (AllFit m) (sym is) (list_fits kind settings m earlier good)
found_fits (Err fault) kind settings m earlier good is = tt

-- a round on the stages that the draft found
pub leads_round : (library : List CellData) (settings : Settings) (kind : StageKind) (stages : List Stage) (d e : Draft) → stages ≡ round_list kind settings d.machine d.earlier
    → Leads settings (λ p. try_all library settings p stages) d e → Leads settings (λ p. try_all library settings p (list_by kind settings p)) d e
leads_round library settings kind stages d e is leads p draft = subst (λ l. IsDraft settings (try_all library settings p l) e) (is ∙ list_reported kind settings p d draft) (leads p draft)

pub stops_round : (library : List CellData) (settings : Settings) (kind : StageKind) (stages : List Stage) (d : Draft) (fault : AddFault) → stages ≡ round_list kind settings d.machine d.earlier
    → MayStop settings (λ p. try_all library settings p stages) d fault → MayStop settings (λ p. try_all library settings p (list_by kind settings p)) d fault
stops_round library settings kind stages d fault is may p draft = subst (λ l. PlanMayFail (try_all library settings p l).limit fault) (is ∙ list_reported kind settings p d draft) (may p draft)
