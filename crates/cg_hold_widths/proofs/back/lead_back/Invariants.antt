use Rattle.std.proofs.Common.{ℕ, List, drop}
use Rattle.cg_hold_widths.specs.inner.Masks.{AreMasks}
use Rattle.cg_netlist.specs.Moment.{values_at}
use Rattle.cg_netlist_cone.specs.Cone.{cone_of}
use Rattle.cg_hold_widths.proofs.back.lead_back.Given as goal

abbrev pub invariant-loop-place : goal.invariant-loop-place
invariant-loop-place l = (nets : ℕ → List ℕ) → AreMasks nets l.fn.masks → AreMasks (λ i. cone_of (values_at l.machine.circuit.cells (drop l.place l.cells)) (nets i)) l.masks
