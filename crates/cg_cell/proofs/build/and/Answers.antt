use Rattle.std.proofs.lemmas.Result.{IfOk-weaker}
use Rattle.cg_cell.proofs.Building.{and_made}
use Rattle.cg_cell.proofs.build.and.Goals as goal

pub returns-clause-built : goal.returns-clause-built
returns-clause-built g c =
    IfOk-weaker _ _ _ (λ v m. and_made _ g.met.D.Domain.lawful _ _ _ _ _ c.requires.left c.requires.right m) c.and.ensures.made
