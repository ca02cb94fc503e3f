use Rattle.std.proofs.Common.{length, ap, ◌∙◌}
use Rattle.cg_edge.proofs.Filled.{nothing_spanned}
use Rattle.cg_edge.proofs.filling.Filling.new.Goals as goal

pub returns-clause-none : goal.returns-clause-none
returns-clause-none c = nothing_spanned c.in_ok-vec.field-0.items c.lay.new.spans.items (length c.args.room.items) (c.in_ok-end.ensures.long ∙ ap length c.deref.ensures.value) c.lay.ensures.none
