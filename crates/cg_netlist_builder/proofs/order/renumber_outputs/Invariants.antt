use Rattle.std.proofs.Common.{◌≡◌}
use Rattle.cg_netlist_builder.specs.inner.Renumbering.{number_in}
use Rattle.cg_netlist_builder.proofs.InPlace.{changed_before}
use Rattle.cg_netlist_builder.proofs.order.renumber_outputs.Given as goal

abbrev pub invariant-loop-output : goal.invariant-loop-output
invariant-loop-output l = l.outputs ≡ changed_before (λ output. (number_in l.places output.0, output.1)) l.fn.outputs l.output-index
