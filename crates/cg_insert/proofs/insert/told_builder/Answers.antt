use Rattle.std.proofs.Common.{ap, ◌∙◌}
use Rattle.cg_netlist.specs.Circuit.{Circuit}
use Rattle.cg_netlist_builder.specs.Building.{fresh}
use Rattle.cg_insert.proofs.insert.told_builder.Goals as goal

pub tell_named-requires-clause-empty : goal.tell_named-requires-clause-empty
tell_named-requires-clause-empty c = c.in_ok-builder.ensures ∙ ap fresh (c.model.ensures ∙ ap (λ (d : Circuit). d.model) c.netlist.ensures.netlist)
