use Rattle.std.proofs.Common.{◌≡◌, drop}
use Rattle.std.specs.List.{find}
use Rattle.cg_net.specs.NetSets.{is_in}
use Rattle.cg_verilog_out.proofs.refusals.check_outputs.Given as goal

abbrev pub invariant-outputs : goal.invariant-outputs
invariant-outputs l = find (is_in l.inputs) (drop l.net-index l.outputs) ≡ find (is_in l.inputs) l.outputs
