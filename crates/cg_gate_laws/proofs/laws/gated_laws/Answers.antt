use Rattle.cg_gate_laws.proofs.laws.gated_laws.Goals as goal
use Rattle.cg_gate_laws.proofs.BegunSafe.{begun_safe, renamed_fits}
use Rattle.cg_gate_laws.proofs.Planned.{can_insert, is_formed}
use Rattle.cg_gate_laws.proofs.Behaving.{gated_behaves}
use Rattle.cg_gate_laws.proofs.NetlistKept.{keeps_netlist, names_planned}
use Rattle.cg_gate_laws.proofs.PartsKept.{keeps_parts}
use Rattle.cg_gate_laws.proofs.SameOutputs.{shows_same}

pub returns : goal.returns
returns c = record {
  fits = renamed_fits;
  begun = begun_safe;
  inserts = can_insert;
  formed = is_formed;
  same = shows_same;
  keeps = keeps_netlist;
  behaves = gated_behaves;
  names = names_planned;
  parts = keeps_parts;
}
