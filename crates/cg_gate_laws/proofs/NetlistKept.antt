-- Hints and a plan keep the netlist that was read: gates and delay registers stand behind its parts.
use Rattle.std.proofs.Common.{◌∙◌}
use Rattle.std.specs.List.{AllByRecursion}
use Rattle.cg_hint_laws.specs.Laws.{IsSafe}
use Rattle.cg_hint_laws.specs.OfNetlist.{IsOf}
use Rattle.cg_machine.proofs.OwnKept.{Keeps, machine_front}
use Rattle.cg_netlist.specs.Circuit.{Circuit}
use Rattle.cg_plan_laws.proofs.PlanKeeps.{plan_keeps}
use Rattle.cg_extract.specs.Laws.{HasOwn}
use Rattle.cg_extract.specs.Lifted.{CanExtract, lifted}
use Rattle.cg_extract.proofs.ForGating.{lifted_own}
use Rattle.cg_gate_laws.proofs.BegunSafe.{begun_safe}
use Rattle.cg_gate_laws.specs.Gated.{Gating, begun, planned}
use Rattle.cg_gate_laws.specs.Laws.{PlannedKeeps, PlannedNames}

module _ (by : Gating) (c : Circuit) (can : CanExtract c by.prefix) (hints : AllByRecursion (IsOf c) by.hints) where
  own : HasOwn c by.prefix (lifted c by.prefix)
  own = lifted_own c by.prefix can

  safe : IsSafe by.library (lifted c by.prefix) (begun by c)
  safe = begun_safe by c can hints

  planned_keeps : Keeps (begun by c) (planned by c)
  planned_keeps = plan_keeps by.library by.settings by.counts (begun by c) (machine_front (begun by c) safe.is_machine)

pub keeps_netlist : PlannedKeeps
keeps_netlist by c can hints = (planned_keeps by c can hints).same ∙ ((safe by c can hints).own ∙ (own by c can hints).own)

pub names_planned : PlannedNames
names_planned by c can hints = (
  (planned_keeps by c can hints).names ((safe by c can hints).names (own by c can hints).names),
  (planned_keeps by c can hints).prefix ∙ ((safe by c can hints).prefix ∙ (own by c can hints).prefix),
)
