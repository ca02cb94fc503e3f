use Rattle.cg_cell.specs.Expr.{term_of}
use Rattle.cg_cell.specs.Term.{term_value}
use Rattle.cg_word.proofs.Lanes.{evaluated}
use Rattle.cg_word.proofs.words.expression_word.Goals as goal

pub returns : goal.returns
returns c = evaluated c.in-Ok.word c.args.inputs.now (λ bits. term_value bits (term_of c.args.expression.now)) _ _ c.in-Ok.ensures.built
