-- The stages of a plan lead, one after another, from the machine that the plan begins with to the plan's.
use Rattle.std.proofs.Common.{◌≡◌, ℕ, zero, suc, List, [], ◌∷◌, ◌++◌, Option, None, Some, refl, ◌∙◌, ap}
use Rattle.cg_cell.specs.Cell.{CellData}
use Rattle.cg_limit.specs.declared.Limit.{Limit}
use Rattle.cg_stage_list_laws.specs.HoldList.{hold_list}
use Rattle.cg_stage_list_laws.specs.Literals.{ZeroCounts}
use Rattle.cg_machine.specs.Machine.{MachineData}
use Rattle.cg_machine.specs.declared.stage.Stage.{Stage}
use Rattle.cg_machine.specs.declared.stage.StageKind.{StageKind}
use Rattle.cg_machine.specs.declared.stage.StageKind.TheVariants.{Stable, Unseen}
use Rattle.cg_plan_laws.specs.Plan.{Plan, Turn, after_outcome, after_try, begin, list_by, plan_of, rounds, try_all, try_one}
use Rattle.cg_plan_laws.specs.Plan.{unless_stopped}
use Rattle.cg_plan_laws.specs.Trying.{Ends, Passes, Tried, tried}
use Rattle.cg_plan_laws.specs.declared.settings.Settings.{Settings}
use Rattle.cg_gate.specs.Turns.{Lead}

-- one turn more
lead_more : (turns : List Turn) (m n : MachineData) (turn : Turn) → Lead turns m n → turn.machine ≡ n → Lead (turns ++ turn ∷ []) m (after_outcome n turn.stage turn.outcome)
lead_more [] m n turn lead is = (is ∙ lead, ap (λ k. after_outcome k turn.stage turn.outcome) lead)
lead_more (first ∷ turns) m n turn lead is = (lead.0, lead_more turns (after_outcome m first.stage first.outcome) n turn lead.1 is)

abbrev Leads : MachineData → Plan → Type 0
Leads m p = Lead p.turns m p.machine

tried_leads : (m : MachineData) (p : Plan) (s : Stage) (result : Tried) → Leads m p → Leads m (after_try p s result)
tried_leads m p s (Passes limit) leads = leads
tried_leads m p s (Ends outcome) leads = lead_more p.turns m p.machine (record { machine = p.machine; stage = s; outcome = outcome }) leads refl

stopped_leads : (m : MachineData) (limit : Option Limit) (stopped on : Plan) → Leads m stopped → Leads m on → Leads m (unless_stopped limit stopped on)
stopped_leads m None stopped on first second = second
stopped_leads m (Some limit) stopped on first second = first

module _ (library : List CellData) (settings : Settings) (m : MachineData) where
  all_lead : (p : Plan) (stages : List Stage) → Leads m p → Leads m (try_all library settings p stages)
  all_lead p [] leads = leads
  all_lead p (s ∷ stages) leads =
      let q : Plan = try_one library settings p s in
      let first : Leads m q = tried_leads m p s (tried library settings p.machine s) leads in
      stopped_leads m q.limit q (try_all library settings q stages) first (all_lead q stages first)

  rounds_lead : (kind : StageKind) (n : ℕ) (p : Plan) → Leads m p → Leads m (rounds library settings kind n p)
  rounds_lead kind zero p leads = leads
  rounds_lead kind (suc n) p leads =
      let q : Plan = try_all library settings p (list_by kind settings p) in
      let first : Leads m q = all_lead p (list_by kind settings p) leads in
      stopped_leads m q.limit q (rounds library settings kind n q) first (rounds_lead kind n q first)

  pub plan_leads : (counts : Option ZeroCounts) → Lead (plan_of library settings counts m).turns m (plan_of library settings counts m).machine
  plan_leads counts =
      let p : Plan = begin m counts settings in
      let hold : Plan = try_all library settings p (hold_list m counts settings.width) in
      let held : Plan = unless_stopped p.limit p hold in
      let one : Leads m held = stopped_leads m p.limit p hold refl (all_lead p (hold_list m counts settings.width) refl) in
      let further : Plan = rounds library settings Stable settings.rounds held in
      let stable : Plan = unless_stopped held.limit held further in
      let two : Leads m stable = stopped_leads m held.limit held further one (rounds_lead Stable settings.rounds held one) in
      let last : Plan = rounds library settings Unseen settings.rounds stable in
      stopped_leads m stable.limit stable last two (rounds_lead Unseen settings.rounds stable two)
