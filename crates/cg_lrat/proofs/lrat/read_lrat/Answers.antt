use Rattle.std.proofs.Common.{Result, subst}
use Rattle.cg_limit.specs.Answers.{OrNoMemory}
use Rattle.cg_lrat.specs.declared.log.Log.{Log}
use Rattle.cg_lrat.specs.declared.lrat.LratFault.{LratFault}
use Rattle.cg_lrat.specs.declared.lrat.LratFault.TheVariants.{NoMemory}
use Rattle.cg_lrat.proofs.LratExact.{given_is_text, text_is_read}
use Rattle.cg_lrat.proofs.lrat.read_lrat.Goals as goal

pub returns-clause-found : goal.returns-clause-found
returns-clause-found c = given_is_text c.args.text.now c.read_text.result c.read_text.ensures

pub returns-clause-only : goal.returns-clause-only
returns-clause-only c log t =
    subst (λ (read : Result Log LratFault). OrNoMemory NoMemory (λ (l : Log). l) c.read_text.result read) (text_is_read c.args.text.now log t)
    c.read_text.ensures
