use Rattle.std.specs.Str.{bytes_eq}
use Rattle.cg_cell.proofs.Libraries.{position-within}
use Rattle.cg_cell.proofs.library.Library.find.Goals as goal

pub returns-clause-within : goal.returns-clause-within
returns-clause-within c = position-within (λ cell. bytes_eq c.args.name.now cell.name) c.args.self.now c.numbered.result c.numbered.ensures
