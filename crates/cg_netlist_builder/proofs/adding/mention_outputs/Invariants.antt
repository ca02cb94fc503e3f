use Rattle.std.proofs.Common.{◌≡◌, map, take}
use Rattle.std.specs.Option.{option_copied}
use Rattle.cg_netlist_builder.specs.Calls.{shows_inverse}
use Rattle.cg_netlist_builder.specs.inner.Mentioned.{IsMentioned}
use Rattle.cg_netlist_builder.proofs.adding.mention_outputs.Given as goal

abbrev pub invariant-loop-output : goal.invariant-loop-output
invariant-loop-output l = record {
  mentioned : IsMentioned l.fn.names l.names (map (λ output. output.0.now) (take l.output-index l.outputs)) (map (λ net. net.0) l.nets.items);
  inverted : map (λ net. net.1) l.nets.items ≡ map (λ output. shows_inverse (option_copied l.cell) output.1) (take l.output-index l.outputs);
}
