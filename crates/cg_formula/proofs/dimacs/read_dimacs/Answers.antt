use Rattle.std.proofs.Common.{Result, subst}
use Rattle.cg_limit.specs.Answers.{OrNoMemory}
use Rattle.cg_formula.specs.declared.formula.Formula.{Formula}
use Rattle.cg_formula.specs.declared.dimacs.DimacsFault.{DimacsFault}
use Rattle.cg_formula.specs.declared.dimacs.DimacsFault.TheVariants.{NoMemory}
use Rattle.cg_formula.proofs.DimacsExact.{given_is_text, text_is_read}
use Rattle.cg_formula.proofs.dimacs.read_dimacs.Goals as goal

pub returns-clause-found : goal.returns-clause-found
returns-clause-found c = given_is_text c.args.text.now c.read_text.result c.read_text.ensures

pub returns-clause-only : goal.returns-clause-only
returns-clause-only c formula t =
    subst (λ (read : Result Formula DimacsFault). OrNoMemory NoMemory (λ (f : Formula). f) c.read_text.result read)
    (text_is_read c.args.text.now formula t) c.read_text.ensures
