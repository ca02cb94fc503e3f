use Rattle.std.proofs.Common.{◌≡◌, ◌<◌, ◌≤◌, ℕ, true, Some, slice_get}
use Rattle.cg_netlist.specs.Circuit.{LogicCell}
use Rattle.cg_net.specs.NetSets.{is_in}
use Rattle.cg_claim_reach.specs.Fanout.{readers_at}
use Rattle.cg_claim_reach.specs.inner.Learning.{Keeps}
use Rattle.cg_claim_reach.proofs.learn.learn_cells.Given as goal

abbrev pub invariant-loop-number : goal.invariant-loop-number
invariant-loop-number l = record {
  kept : Keeps l.initial.readers l.readers;
  noted : (k : ℕ) (cell : LogicCell ℕ) (y : ℕ) → l.first ≤ k → k < l.number → slice_get l.machine.circuit.cells k ≡ Some cell → is_in cell.inputs y ≡ true → is_in (readers_at l.readers y) k ≡ true;
}
