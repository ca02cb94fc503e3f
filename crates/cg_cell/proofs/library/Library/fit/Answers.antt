use Rattle.cg_cell.specs.Fit.{is_fit}
use Rattle.cg_cell.proofs.Libraries.{position-within}
use Rattle.cg_cell.proofs.library.Library.fit.Goals as goal

pub returns-clause-within : goal.returns-clause-within
returns-clause-within c = position-within (is_fit c.args.kind) c.args.self.now c.first.result c.first.ensures
