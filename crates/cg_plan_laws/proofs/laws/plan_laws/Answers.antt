use Rattle.cg_plan_laws.proofs.laws.plan_laws.Goals as goal
use Rattle.cg_plan_laws.proofs.AllSafe.{each_fits, has_cells, inserted_safe, plans_safe, shows_netlist, reported_safe}
use Rattle.cg_plan_laws.proofs.Deserved.{outcomes_deserved}
use Rattle.cg_plan_laws.proofs.Exactly.{inserted_exactly}
use Rattle.cg_plan_laws.proofs.Telling.{certificates_reported, stages_reported}

pub returns : goal.returns
returns c = record {
  exactly = inserted_exactly;
  deserved = outcomes_deserved;
  safe = inserted_safe;
  turns = each_fits;
  plan = plans_safe;
  cells = has_cells;
  netlist = shows_netlist;
  told = reported_safe;
  stages = stages_reported;
  certificates = certificates_reported;
}
