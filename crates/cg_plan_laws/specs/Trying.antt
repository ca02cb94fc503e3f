-- What comes of a stage on a machine: the first that applies of what follows. It is too small; the library lacks a cell
-- that it needs; one of its claims, the first in order, is too wide or passes the limit on nodes; it is never idle; one of its
-- claims is false; it passes a limit on nets or registers; it is inserted.
use Rattle.std.specs.Prelude.{ℕ, if◌then◌else◌, List, [], ◌∷◌, length, nat_lt, Option, Some, None}
use Rattle.cg_cell.specs.Cell.{CellData}
use Rattle.cg_cell.specs.declared.fit.FitKind.{FitKind}
use Rattle.cg_limit.specs.declared.Limit.{Limit}
use Rattle.cg_limit.specs.declared.Limit.TheVariants.{ClaimNodes}
use Rattle.cg_machine.specs.Machine.{MachineData}
use Rattle.cg_machine.specs.declared.stage.Stage.{Stage}
use Rattle.cg_claim.specs.LeafBits.{is_never}
use Rattle.cg_claim.specs.Leaves.{width_of}
use Rattle.cg_claim.specs.Question.{idle_question}
use Rattle.cg_claim.specs.declared.name.ClaimName.{ClaimName}
use Rattle.cg_stage_laws.specs.Effects.{limit_by}
use Rattle.cg_stage_laws.specs.Needs.{missing, needs}
use Rattle.cg_stage_list_laws.specs.HoldList.{is_large}
use Rattle.cg_plan_laws.specs.StageClaims.{NamedClaim, all_claims, claims_of}
use Rattle.cg_plan_laws.specs.declared.outcome.Outcome.{Outcome}
use Rattle.cg_plan_laws.specs.declared.outcome.Outcome.TheVariants.{Inserted, NeverIdle, NoCell, Refuted, Small, Wide}
use Rattle.cg_plan_laws.specs.declared.settings.Settings.{Settings}

-- an outcome, or the limit that is passed. A refuted claim has no bits here: any bits that violate it may be told.
pub data Tried : Type 0 where
  Ends : Outcome → Tried
  Passes : Limit → Tried

-- the claims one after the other, each measured before the next: too wide, too many nodes, and else what comes then
abbrev pub measured : MachineData → ℕ → List NamedClaim → Tried → Tried
measured m width [] later = later
measured m width (c ∷ claims) later =
    if nat_lt width (width_of m c.1) then Ends (Wide c.0 (width_of m c.1))
    else (if is_large m c.1 then Passes ClaimNodes else measured m width claims later)

-- the first claim that some bits violate
abbrev pub first_false : MachineData → List NamedClaim → Option ClaimName
first_false m [] = None
first_false m (c ∷ claims) = if is_never m c.1 then first_false m claims else Some c.0

-- inserted, unless a limit is passed
abbrev pub unless_passed : Option Limit → Tried
unless_passed None = Ends Inserted
unless_passed (Some limit) = Passes limit

abbrev pub unless_false : MachineData → Stage → Option ClaimName → Tried
unless_false m s (Some claim) = Ends (Refuted claim [])
unless_false m s None = unless_passed (limit_by s.kind m s)

-- what is left once all claims are measured
abbrev pub decided : MachineData → Stage → Tried
decided m s = if is_never m (idle_question s.enable) then Ends NeverIdle else unless_false m s (first_false m (claims_of m s))

abbrev pub unless_missing : MachineData → Settings → Stage → Option FitKind → Tried
unless_missing m settings s (Some kind) = Ends (NoCell kind)
unless_missing m settings s None = measured m settings.width (all_claims m s) (decided m s)

abbrev pub tried : List CellData → Settings → MachineData → Stage → Tried
tried library settings m s =
    if nat_lt (length s.regs) settings.min then Ends (Small (length s.regs))
    else unless_missing m settings s (missing library (needs settings.test s))
