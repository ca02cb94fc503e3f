-- A plan as the program holds it.
use Rattle.std.specs.Prelude.{List}
use Rattle.std.specs.List.{All}
use Rattle.cg_cell.specs.Cell.{CellData}
use Rattle.cg_formula.specs.Bounds.{IsFormula}
use Rattle.cg_lrat.specs.Bounds.{IsLog}
use Rattle.cg_machine.specs.Machine.{IsMachine, MachineData}
use Rattle.cg_machine.specs.Run.{Same}
use Rattle.cg_stage_laws.specs.Cells.{HasCells}
use Rattle.cg_plan_laws.specs.Reported.{ReportedPlan}
use Rattle.cg_plan_laws.specs.declared.certificate.Certificate.{Certificate}
use Rattle.cg_plan_laws.specs.declared.settings.Settings.{Settings}
use Rattle.cg_plan.specs.declared.plan.Plan.{Plan}

abbrev pub told : Plan → ReportedPlan
told plan = record { machine = plan.machine; stages = plan.stages; wide = plan.wide; certificates = plan.certificates }

-- the machine n of a plan is a machine; from every start with 1 in the delay registers and over every waveform it shows what
-- m shows, with which the plan begins; and the library has the cells that it asks for, where it has those that m asks for
pub record IsSafePlan (library : List CellData) (settings : Settings) (m n : MachineData) : Type 0 where
  pub is_machine : IsMachine n
  pub same : Same m n
  pub cells : HasCells library settings.test m → HasCells library settings.test n

-- certificates that can be written: each formula and each log keeps to the bounds of its format
pub record IsWritableCertificate (certificate : Certificate) : Type 0 where
  pub formula : IsFormula certificate.formula
  pub log : IsLog certificate.log

abbrev pub AreWritable : List Certificate → Type 0
AreWritable certificates = All (λ (certificate : Certificate). IsWritableCertificate certificate) certificates

-- certificates of which the later are those before with more behind: they can be written where those before can
abbrev pub StayWritable : List Certificate → List Certificate → Type 0
StayWritable before after = AreWritable before → AreWritable after
