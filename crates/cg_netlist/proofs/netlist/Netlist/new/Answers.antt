use Rattle.std.proofs.Common.{◌≡◌, length, sym, ◌∙◌, ap, subst}
use Rattle.std.specs.List.{AllByRecursion}
use Rattle.cg_netlist.specs.Circuit.{Circuit}
use Rattle.cg_netlist.specs.Places.{CellWithin}
use Rattle.cg_netlist.specs.Ranks.{ranks_of}
use Rattle.cg_netlist.proofs.Walked.{cells_levelled, levelled_within}
use Rattle.cg_netlist.proofs.netlist.Netlist.new.Goals as goal

pub cell_ranks-requires : goal.cell_ranks-requires
cell_ranks-requires c =
    let parts : Circuit = c.args.parts in
    let count : c.len.result ≡ length parts.names = c.len.ensures.count ∙ ap (λ (p : Circuit). length p.names) c.parts.view_is in
    subst (AllByRecursion (CellWithin c.len.result)) (sym (c.deref.ensures.value ∙ ap (λ (p : Circuit). p.cells) c.parts.view_is)) (levelled_within c.len.result parts.cells (cells_levelled parts c.requires c.len.result count))

pub with_ranks-requires-clause-ranks : goal.with_ranks-requires-clause-ranks
with_ranks-requires-clause-ranks c = c.deref-2.ensures.value ∙ (c.in_ok-ranks.ensures ∙ ap ranks_of (c.deref.ensures.value ∙ ap (λ (p : Circuit). p.cells) c.parts.view_is))
