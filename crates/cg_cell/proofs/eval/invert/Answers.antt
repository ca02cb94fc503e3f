use Rattle.cg_cell.proofs.Evals.{inverses_more}
use Rattle.cg_cell.proofs.eval.invert.Goals as goal

pub signs-preserved : goal.signs-preserved
signs-preserved g c = inverses_more _ g.met.D.Domain.lawful _ _ _ _ _ _ c.signs.counter c.signs.invariant c.not-answer.ensures
