use Rattle.std.proofs.Common.{◌∙◌, ap, sym}
use Rattle.cg_cell.specs.Library.{find_cell}
use Rattle.cg_cell.proofs.Libraries.{same_position}
use Rattle.cg_cell.proofs.library.Library.numbered.Goals as goal

pub returns-in-Some : goal.returns-in-Some
returns-in-Some c = c.in-Some.ensures.index ∙ same_position (λ k. k.items) c.args.name.now c.self.inside.cells.entries c.self.invariant.names ∙ ap (find_cell c.args.name.now) c.self.view_is

pub returns-in-None : goal.returns-in-None
returns-in-None c = sym c.in-None.is ∙ c.get_index_of.ensures.index ∙ same_position (λ k. k.items) c.args.name.now c.self.inside.cells.entries c.self.invariant.names ∙ ap (find_cell c.args.name.now) c.self.view_is
