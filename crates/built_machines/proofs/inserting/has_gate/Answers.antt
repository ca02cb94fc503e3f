use Rattle.cg_machine.specs.View.{gate_seen}
use Rattle.built_machines.proofs.CellsThere.{one_more}
use Rattle.built_machines.proofs.inserting.has_gate.Goals as goal

pub returns : goal.returns
returns c is before = one_more c.args.library.now c.args.machine.now.gates c.args.k (gate_seen c.gate.result) c.gate.ensures (c.has_cell.ensures is) before
