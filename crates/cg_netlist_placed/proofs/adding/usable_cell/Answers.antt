use Rattle.std.proofs.Common.{inl, inr, sym, ap, ◌∙◌}
use Rattle.cg_netlist_placed.specs.Placed.{usable_as}
use Rattle.cg_netlist_placed.proofs.AddingLemmas.{usable_some}
use Rattle.cg_netlist_placed.proofs.adding.usable_cell.Goals as goal

pub returns-in-Unusable : goal.returns-in-Unusable
returns-in-Unusable c =
    usable_some c.args.library.now c.args.name.now c.in-Some.id c.cell-cell.result.now (sym c.in-Some.is ∙ c.find.ensures.found) c.cell-cell.ensures
    ∙ ap (λ k. usable_as k c.cell-cell.result.now) (sym c.kind.ensures ∙ c.in-Unusable.is)

pub returns-in-Logic : goal.returns-in-Logic
returns-in-Logic c =
    usable_some c.args.library.now c.args.name.now c.in-Some.id c.cell-cell.result.now (sym c.in-Some.is ∙ c.find.ensures.found) c.cell-cell.ensures
    ∙ elim c.in-Logic.is [
      | inl is ↦ ap (λ k. usable_as k c.cell-cell.result.now) (sym c.kind.ensures ∙ is)
      | inr (inl is) ↦ ap (λ k. usable_as k c.cell-cell.result.now) (sym c.kind.ensures ∙ is)
      | inr (inr is) ↦ ap (λ k. usable_as k c.cell-cell.result.now) (sym c.kind.ensures ∙ is)
    ]
