use Rattle.std.proofs.Common.{ap, ◌∙◌, length, subst, sym}
use Rattle.cg_cell.specs.Cover.{HaveOneLength}
use Rattle.cg_cell.proofs.CutRows.{cut_rows-even, cut_rows-length}
use Rattle.cg_cell.proofs.rows.CoverRows.len.Goals as goal

pub returns-clause-count : goal.returns-clause-count
returns-clause-count c = sym (sym (ap length c.self.view_is) ∙ cut_rows-length c.self.inside.width c.self.inside.count c.self.inside.places.items)

pub returns-clause-even : goal.returns-clause-even
returns-clause-even c = subst HaveOneLength c.self.view_is (cut_rows-even c.self.inside.width c.self.inside.count c.self.inside.places.items c.self.invariant)
