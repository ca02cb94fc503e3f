use Rattle.std.proofs.Common.{map, subst}
use Rattle.std.specs.List.{AllByRecursion}
use Rattle.cg_cell.specs.Library.{IsFound}
use Rattle.cg_cell.proofs.DistinctCells.{each_is_found}
use Rattle.cg_cell.proofs.library.Library.len.Goals as goal

pub returns-clause-found : goal.returns-clause-found
returns-clause-found c = subst (λ cells. AllByRecursion (IsFound cells) cells) c.self.view_is (each_is_found (map (λ e. e.1) c.self.inside.cells.entries) c.self.invariant.distinct)
