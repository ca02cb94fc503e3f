-- A plan keeps the netlist of the machine with which it begins: gates and delay registers stand behind its parts.
use Rattle.std.proofs.Common.{ℕ, zero, suc, Bool, true, false, if◌then◌else◌, List, [], ◌∷◌, Option, None, Some}
use Rattle.cg_cell.specs.Cell.{CellData}
use Rattle.cg_limit.specs.declared.Limit.{Limit}
use Rattle.cg_machine.specs.Machine.{MachineData}
use Rattle.cg_machine.specs.declared.stage.Stage.{Stage}
use Rattle.cg_machine.specs.declared.stage.StageKind.{StageKind}
use Rattle.cg_machine.specs.declared.stage.StageKind.TheVariants.{Stable, Unseen}
use Rattle.cg_machine.proofs.OwnKept.{IsFront, Keeps, onward, stays}
use Rattle.cg_stage_laws.specs.Effects.{effect}
use Rattle.cg_stage_laws.proofs.StageKeeps.{effect_keeps}
use Rattle.cg_stage_list_laws.specs.HoldList.{hold_list}
use Rattle.cg_stage_list_laws.specs.Literals.{ZeroCounts}
use Rattle.cg_plan_laws.specs.Plan.{Plan, after_try, begin, is_inserted, list_by, plan_of, rounds, try_all, try_one, unless_stopped}
use Rattle.cg_plan_laws.specs.Trying.{Ends, Passes, Tried, tried}
use Rattle.cg_plan_laws.specs.declared.settings.Settings.{Settings}

inserted_keeps : (inserted : Bool) (m : MachineData) (s : Stage) → IsFront m → Keeps m (if inserted then effect m s else m)
inserted_keeps true m s front = effect_keeps m s front
inserted_keeps false m s front = stays m front

tried_keeps : (p : Plan) (s : Stage) (result : Tried) → IsFront p.machine → Keeps p.machine (after_try p s result).machine
tried_keeps p s (Passes limit) front = stays p.machine front
tried_keeps p s (Ends outcome) front = inserted_keeps (is_inserted outcome) p.machine s front

stopped_keeps : (m : MachineData) (limit : Option Limit) (stopped on : Plan) → Keeps m stopped.machine → Keeps m on.machine → Keeps m (unless_stopped limit stopped on).machine
stopped_keeps m None stopped on first second = second
stopped_keeps m (Some limit) stopped on first second = first

module _ (library : List CellData) (settings : Settings) where
  all_keep : (p : Plan) (stages : List Stage) → IsFront p.machine → Keeps p.machine (try_all library settings p stages).machine
  all_keep p [] front = stays p.machine front
  all_keep p (s ∷ stages) front =
      let q : Plan = try_one library settings p s in
      let first : Keeps p.machine q.machine = tried_keeps p s (tried library settings p.machine s) front in
      stopped_keeps p.machine q.limit q (try_all library settings q stages) first
      (onward p.machine q.machine (try_all library settings q stages).machine first (all_keep q stages first.front))

  rounds_keep : (kind : StageKind) (n : ℕ) (p : Plan) → IsFront p.machine → Keeps p.machine (rounds library settings kind n p).machine
  rounds_keep kind zero p front = stays p.machine front
  rounds_keep kind (suc n) p front =
      let q : Plan = try_all library settings p (list_by kind settings p) in
      let first : Keeps p.machine q.machine = all_keep p (list_by kind settings p) front in
      stopped_keeps p.machine q.limit q (rounds library settings kind n q) first
      (onward p.machine q.machine (rounds library settings kind n q).machine first (rounds_keep kind n q first.front))

  pub plan_keeps : (counts : Option ZeroCounts) (m : MachineData) → IsFront m → Keeps m (plan_of library settings counts m).machine
  plan_keeps counts m front =
      let p : Plan = begin m counts settings in
      let tried : Plan = try_all library settings p (hold_list m counts settings.width) in
      let held : Plan = unless_stopped p.limit p tried in
      let one : Keeps m held.machine = stopped_keeps m p.limit p tried (stays m front) (all_keep p (hold_list m counts settings.width) front) in
      let further : Plan = rounds library settings Stable settings.rounds held in
      let stable : Plan = unless_stopped held.limit held further in
      let two : Keeps held.machine stable.machine = stopped_keeps held.machine held.limit held further (stays held.machine one.front) (rounds_keep Stable settings.rounds held one.front) in
      let last : Plan = rounds library settings Unseen settings.rounds stable in
      let three : Keeps stable.machine (unless_stopped stable.limit stable last).machine = stopped_keeps stable.machine stable.limit stable last (stays stable.machine two.front) (rounds_keep Unseen settings.rounds stable two.front) in
      onward m held.machine (unless_stopped stable.limit stable last).machine one (onward held.machine stable.machine (unless_stopped stable.limit stable last).machine two three)
