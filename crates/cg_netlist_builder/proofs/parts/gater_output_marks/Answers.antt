use Rattle.std.proofs.Common.{◌++◌, length, ◌∙◌, ap}
use Rattle.cg_netlist_builder.specs.inner.Numbers.{gated}
use Rattle.cg_netlist.specs.Wiring.{driven_by_gaters}
use Rattle.cg_netlist_builder.proofs.ToldNets.{asked_of, gated_within}
use Rattle.cg_netlist_builder.proofs.parts.gater_output_marks.Goals as goal

pub marks-requires : goal.marks-requires
marks-requires c =
    let n = c.args.told.now in
    asked_of n c.requires (gated n) c.deref-2.result.now c.len.result (c.len.ensures.count ∙ ap (λ d. length d.names) c.told.view_is)
    (c.deref-2.ensures.value ∙ (c.in_ok-add_gater_outputs.ensures ∙ (ap (λ xs. xs ++ driven_by_gaters c.deref.result.now) c.new-gated.ensures.items ∙ (ap driven_by_gaters c.deref.ensures.value ∙ ap (λ d. driven_by_gaters d.gaters) c.told.view_is))))
    (gated_within n c.requires)
