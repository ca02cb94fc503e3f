-- What a stage needs to be inserted in a run that comes to its end.
use Rattle.std.specs.Prelude.{◌≡◌, ◌≤◌, ℕ, List, length, slice_get, None, Some}
use Rattle.cg_cell.specs.Cell.{CellData}
use Rattle.cg_claim.specs.Leaves.{width_of}
use Rattle.cg_machine.specs.Claims.{CanIdle}
use Rattle.cg_machine.specs.Machine.{MachineData}
use Rattle.cg_machine.specs.declared.stage.Stage.{Stage}
use Rattle.cg_plan_laws.specs.StageClaims.{NamedClaim, all_claims}
use Rattle.cg_plan_laws.specs.declared.settings.Settings.{Settings}
use Rattle.cg_stage_laws.specs.Needs.{missing, needs}
use Rattle.cg_stage_laws.specs.Stages.{ClaimsHold}

-- A stage is worth inserting on a machine. Nothing is asked of nodes, nets or registers: a run in which a limit on these is
-- passed comes to no end, so no stage is left out for them.
pub record IsWorthInserting (library : List CellData) (settings : Settings) (m : MachineData) (s : Stage) : Type 0 where
  -- it has no fewer registers than are asked for
  pub large : settings.min ≤ length s.regs
  -- the library has each cell that it needs
  pub cells : missing library (needs settings.test s) ≡ None
  -- each of its claims, the first of which is that it can idle, has no more leaves than are allowed
  pub narrow : (k : ℕ) (c : NamedClaim) → slice_get (all_claims m s) k ≡ Some c → width_of m c.1 ≤ settings.width
  -- its enable can be 0
  pub idles : CanIdle m s.enable
  -- its claims hold over all states and inputs
  pub holds : ClaimsHold s.kind m s
