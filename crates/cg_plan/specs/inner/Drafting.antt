-- What ties a plan in the making to the plan that it tells.
use Rattle.std.specs.Prelude.{◌≡◌, ℕ, List, [], ◌∷◌, ◌++◌, None}
use Rattle.cg_cell.specs.Cell.{CellData}
use Rattle.cg_stage_list_laws.specs.Fit.{AllFit, AreApart}
use Rattle.cg_stage_list_laws.specs.StableList.{stable_list}
use Rattle.cg_stage_list_laws.specs.UnseenList.{unseen_list}
use Rattle.cg_machine.specs.Machine.{MachineData}
use Rattle.cg_machine.specs.declared.stage.Earlier.{Earlier}
use Rattle.cg_machine.specs.declared.stage.Stage.{Stage}
use Rattle.cg_machine.specs.declared.stage.StageKind.{StageKind}
use Rattle.cg_machine.specs.declared.stage.StageKind.TheVariants.{Hold, Stable, Unseen}
use Rattle.cg_netlist.specs.declared.fault.AddFault.{AddFault}
use Rattle.cg_plan_laws.specs.Cleared.{AllCleared}
use Rattle.cg_plan_laws.specs.Plan.{Plan, earlier_of, is_inserted, rounds, try_all, unless_stopped}
use Rattle.cg_plan_laws.specs.Reported.{AreCertified, AreTold, PlanMayFail, kept_claims}
use Rattle.cg_plan_laws.specs.declared.outcome.Outcome.{Outcome}
use Rattle.cg_plan_laws.specs.declared.settings.Settings.{Settings}
use Rattle.cg_plan.specs.Planning.{AreWritable}
use Rattle.cg_plan.specs.declared.plan.Draft.{Draft}

-- the draft tells this plan, which has not stopped, with proofs where the settings ask for them
pub record IsDraft (settings : Settings) (p : Plan) (d : Draft) : Type 0 where
  pub going : p.limit ≡ None
  pub machine : d.machine ≡ p.machine
  pub stages : AreTold p.turns d.stages
  pub earlier : d.earlier ≡ earlier_of p
  pub certificates : AreCertified (kept_claims settings p.turns) d.certificates.items
  pub writable : AreWritable d.certificates.items

-- of each plan that the draft d tells, e tells what f makes of it
abbrev pub Leads : Settings → (Plan → Plan) → Draft → Draft → Type 0
Leads settings f d e = (p : Plan) → IsDraft settings p d → IsDraft settings (f p) e

-- a fault where f is made of a plan that the draft tells: the limit at which it stops, or want of memory
abbrev pub MayStop : Settings → (Plan → Plan) → Draft → AddFault → Type 0
MayStop settings f d fault = (p : Plan) → IsDraft settings p d → PlanMayFail (f p).limit fault

-- a plan that the draft d tells, and of which g makes the plan that is wanted
pub record Left (settings : Settings) (wanted : Plan) (g : Plan → Plan) (d : Draft) : Type 0 where
  pub plan : Plan
  pub tells : IsDraft settings plan d
  pub same : g plan ≡ wanted

-- what is left between a plan that the draft c tells and what f makes of it is g, at the draft d
abbrev pub IsLeft : Settings → (Plan → Plan) → (Plan → Plan) → Draft → Draft → Type 0
IsLeft settings f g c d = (p : Plan) → IsDraft settings p c → Left settings (f p) g d

-- one and then the other, unless the plan stops
abbrev pub in_turn : (Plan → Plan) → (Plan → Plan) → Plan → Plan
in_turn f g p = let q = f p in unless_stopped q.limit q (g q)

-- the parts of a plan with this hold list
abbrev pub all_parts : List CellData → Settings → List Stage → Plan → Plan
all_parts library settings stages =
    in_turn (in_turn (λ p. try_all library settings p stages) (rounds library settings Stable settings.rounds))
    (rounds library settings Unseen settings.rounds)

-- a plan of which nothing was tried
abbrev pub unbegun : MachineData → Plan
unbegun m = record { machine = m; turns = []; limit = None }

-- stages that fit m, and have no register of s, fit n
abbrev pub StillFit : Stage → MachineData → MachineData → Type 0
StillFit s m n = (stages : List Stage) → AreApart s.regs stages → AllFit m stages → AllFit n stages

-- stages that come through their claims on m, and have no register of the hold stage s, come through them on n
abbrev pub StayCleared : ℕ → Stage → MachineData → MachineData → Type 0
StayCleared width s m n = s.kind ≡ Hold → (stages : List Stage) → AreApart s.regs stages → AllFit m stages
    → AllCleared m width stages → AllCleared n width stages

-- a stage that was tried, as later rounds see it
abbrev pub earlier_by : Stage → Outcome → Earlier
earlier_by s outcome = record { stage = s; inserted = is_inserted outcome }

-- a draft that also tells a stage with its outcome
abbrev pub kept : Draft → Stage → Outcome → Draft
kept d s outcome = record d { stages = d.stages ++ (s, outcome) ∷ []; earlier = d.earlier ++ earlier_by s outcome ∷ [] }

-- the list of a round, where these stages were tried before
abbrev pub round_list : StageKind → Settings → MachineData → List Earlier → List Stage
round_list Stable settings m earlier = stable_list m earlier
round_list Unseen settings m earlier = unseen_list m settings.test earlier
round_list _ settings m earlier = []
