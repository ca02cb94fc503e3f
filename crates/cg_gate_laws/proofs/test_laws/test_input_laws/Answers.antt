use Rattle.cg_gate_laws.proofs.test_laws.test_input_laws.Goals as goal
use Rattle.cg_gate_laws.proofs.AllTest.{plans_test_safe, test_loads, test_shows_netlist}

pub returns : goal.returns
returns c = record {
  safe = plans_test_safe;
  netlist = test_shows_netlist;
  loads = test_loads;
}
