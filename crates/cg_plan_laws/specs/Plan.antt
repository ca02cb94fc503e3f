-- A plan: the hold stages are tried, then rounds of stability, then rounds of unobservability, each stage on the machine so far.
use Rattle.std.specs.Prelude.{ℕ, zero, suc, Bool, true, false, if◌then◌else◌, List, [], ◌∷◌, ◌++◌, map, Option, Some, None}
use Rattle.cg_cell.specs.Cell.{CellData}
use Rattle.cg_limit.specs.declared.Limit.{Limit}
use Rattle.cg_limit.specs.declared.Limit.TheVariants.{ClaimNodes}
use Rattle.cg_machine.specs.Machine.{MachineData}
use Rattle.cg_machine.specs.declared.stage.Earlier.{Earlier}
use Rattle.cg_machine.specs.declared.stage.Stage.{Stage}
use Rattle.cg_machine.specs.declared.stage.StageKind.{StageKind}
use Rattle.cg_machine.specs.declared.stage.StageKind.TheVariants.{Stable, Unseen}
use Rattle.cg_stage_laws.specs.Effects.{effect}
use Rattle.cg_stage_list_laws.specs.HoldList.{hold_list, hold_passes, hold_wide}
use Rattle.cg_stage_list_laws.specs.Literals.{ZeroCounts}
use Rattle.cg_stage_list_laws.specs.StableList.{stable_list}
use Rattle.cg_stage_list_laws.specs.UnseenList.{unseen_list}
use Rattle.cg_plan_laws.specs.Trying.{Ends, Passes, Tried, tried}
use Rattle.cg_plan_laws.specs.declared.outcome.Outcome.{Outcome}
use Rattle.cg_plan_laws.specs.declared.outcome.Outcome.TheVariants.{Inserted}
use Rattle.cg_plan_laws.specs.declared.settings.Settings.{Settings}

-- the turn of a stage: the machine on which it is tried, and what comes of it
pub record Turn : Type 0 where
  pub machine : MachineData
  pub stage : Stage
  pub outcome : Outcome

-- a plan so far: the machine, the turns of the stages in order, and the limit at which the plan stopped
pub record Plan : Type 0 where
  pub machine : MachineData
  pub turns : List Turn
  pub limit : Option Limit

abbrev pub is_inserted : Outcome → Bool
is_inserted Inserted = true
is_inserted _ = false

-- an inserted stage changes the machine by its effect; any other leaves it
abbrev pub after_outcome : MachineData → Stage → Outcome → MachineData
after_outcome m s outcome = if is_inserted outcome then effect m s else m

-- a plan after one more turn
abbrev pub after_try : Plan → Stage → Tried → Plan
after_try p s (Passes limit) = record { machine = p.machine; turns = p.turns; limit = Some limit }
after_try p s (Ends outcome) =
    record {
      machine = after_outcome p.machine s outcome;
      turns = p.turns ++ record { machine = p.machine; stage = s; outcome = outcome } ∷ [];
      limit = None;
    }

abbrev pub try_one : List CellData → Settings → Plan → Stage → Plan
try_one library settings p s = after_try p s (tried library settings p.machine s)

-- a plan that stopped goes no further
abbrev pub unless_stopped : Option Limit → Plan → Plan → Plan
unless_stopped None stopped on = on
unless_stopped (Some limit) stopped on = stopped

-- stages one after the other
abbrev pub try_all : List CellData → Settings → Plan → List Stage → Plan
try_all library settings p [] = p
try_all library settings p (s ∷ stages) =
    let q = try_one library settings p s in unless_stopped q.limit q (try_all library settings q stages)

-- the stages that were tried
abbrev pub earlier_of : Plan → List Earlier
earlier_of p = map (λ turn. record { stage = turn.stage; inserted = is_inserted turn.outcome }) p.turns

-- the list of a round, on the machine at its start
abbrev pub list_by : StageKind → Settings → Plan → List Stage
list_by Stable settings p = stable_list p.machine (earlier_of p)
list_by Unseen settings p = unseen_list p.machine settings.test (earlier_of p)
list_by _ settings p = []

-- this many rounds of a kind
abbrev pub rounds : List CellData → Settings → StageKind → ℕ → Plan → Plan
rounds library settings kind zero p = p
rounds library settings kind (suc n) p =
    let q = try_all library settings p (list_by kind settings p) in unless_stopped q.limit q (rounds library settings kind n q)

-- a plan before its first stage; it stops there where a claim of the hold list passes the limit on nodes
abbrev pub begin : MachineData → Option ZeroCounts → Settings → Plan
begin m counts settings =
    record { machine = m; turns = []; limit = if hold_passes m counts settings.width then Some ClaimNodes else None }

-- the plan of a machine
abbrev pub plan_of : List CellData → Settings → Option ZeroCounts → MachineData → Plan
plan_of library settings counts m =
    let p = begin m counts settings in
    let held = unless_stopped p.limit p (try_all library settings p (hold_list m counts settings.width)) in
    let stable = unless_stopped held.limit held (rounds library settings Stable settings.rounds held) in
    unless_stopped stable.limit stable (rounds library settings Unseen settings.rounds stable)

-- of how many registers the hold claims are too wide, on the machine that the plan begins with
abbrev pub wide_of : Settings → MachineData → ℕ
wide_of settings m = hold_wide m settings.width
