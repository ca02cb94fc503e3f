use Rattle.std.proofs.Common.{length, ◌∙◌, ap}
use Rattle.cg_netlist_builder.specs.inner.Numbers.{used}
use Rattle.cg_netlist_builder.proofs.ToldNets.{asked_of, used_within}
use Rattle.cg_netlist_builder.proofs.finish.used_marks.Goals as goal

pub marks-requires : goal.marks-requires
marks-requires c =
    let n = c.args.told.now in
    asked_of n c.requires (used n) c.deref.result.now c.len.result (c.len.ensures.count ∙ ap (λ d. length d.names) c.told.view_is) (c.deref.ensures.value ∙ c.in_ok-nets.ensures) (used_within n c.requires)
