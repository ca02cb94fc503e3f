-- How a stage ends before its claims are decided.
use Rattle.std.specs.Prelude.{ℕ, if◌then◌else◌, List, length, nat_lt, Option, Some, None, Result, Ok, Err}
use Rattle.std.specs.Option.{option_map}
use Rattle.cg_cell.specs.Cell.{CellData}
use Rattle.cg_limit.specs.declared.Limit.TheVariants.{ClaimNodes}
use Rattle.cg_netlist.specs.declared.fault.AddFault.{AddFault}
use Rattle.cg_netlist.specs.declared.fault.AddFault.TheVariants.{Limit as LimitFault}
use Rattle.cg_machine.specs.Machine.{MachineData}
use Rattle.cg_machine.specs.declared.stage.Stage.{Stage}
use Rattle.cg_claim.specs.Leaves.{width_of}
use Rattle.cg_claim.specs.Question.{Question}
use Rattle.cg_stage_list_laws.specs.HoldList.{is_large}
use Rattle.cg_plan_laws.specs.StageClaims.{NamedClaim}
use Rattle.cg_plan_laws.specs.declared.outcome.Outcome.{Outcome}
use Rattle.cg_plan_laws.specs.declared.outcome.Outcome.TheVariants.{NoCell, Small, Wide}
use Rattle.cg_plan_laws.specs.declared.settings.Settings.{Settings}
use Rattle.cg_stage_laws.specs.Needs.{missing, needs}
use Rattle.cg_unroll.specs.Claims.{IsClaim}
use Rattle.cg_unroll.specs.declared.claim.Claim.{Claim}

-- how a stage ends by its registers and its cells alone
abbrev pub early_end : List CellData → Settings → Stage → Option Outcome
early_end library settings s =
    if nat_lt (length s.regs) settings.min then Some (Small (length s.regs))
    else option_map NoCell (missing library (needs settings.test s))

-- how it ends by the measure of a claim, if it does: too wide, or the limit that it passes
abbrev pub wide_end : MachineData → ℕ → NamedClaim → Result (Option Outcome) AddFault
wide_end m width c =
    if nat_lt width (width_of m c.1) then Ok (Some (Wide c.0 (width_of m c.1)))
    else (if is_large m c.1 then Err (LimitFault ClaimNodes) else Ok None)

-- a claim that is measured and does not end its stage is built
abbrev pub IsBuilt : MachineData → Question → ℕ → Claim → Option Outcome → Type 0
IsBuilt m q width claim None = IsClaim m q width claim
IsBuilt m q width claim (Some end) = Unit {0}
