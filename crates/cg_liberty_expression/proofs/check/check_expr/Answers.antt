use denote.Builtin.{unit}
use Rattle.std.proofs.Common.{◌≡◌, Result, Err, length, rules, subst, sym}
use Rattle.cg_limit.specs.Answers.{OrNoMemory}
use Rattle.cg_liberty_expression.specs.Reads.{mode_of, settled}
use Rattle.cg_liberty_expression.specs.Reading.{read_text}
use Rattle.cg_liberty_expression.specs.inner.Blanked.{blank_mode}
use Rattle.cg_liberty_expression.specs.inner.TokensSeen.{token_of}
use Rattle.cg_liberty_expression.specs.declared.fault.ExprFault.{ExprFault}
use Rattle.cg_liberty_expression.specs.declared.fault.ExprFault.TheVariants.{NoMemory}
use Rattle.cg_liberty_expression.proofs.Blanked.{refused}
use Rattle.cg_liberty_expression.proofs.check.check_expr.Goals as goal

pub returns-in_err-checked : goal.returns-in_err-checked
returns-in_err-checked g c =
    let fault = c.in_err-checked.field-0.0 in
    let same : c.from_residual.result ≡ Err fault = search rules in
    let whole = settled (read_text (g.N.Names.names c.args.names.now) c.args.text.now) in
    let told = refused (λ (_ : unit.Denot). blank_mode (mode_of c.checked.new.reading.operand c.checked.new.reading.stack)) (λ (_ : unit.Denot). tt) (g.N.Names.names c.args.names.now) (length c.args.text.now) (mode_of c.tokens.reading.operand c.tokens.reading.stack) fault (token_of c.in-Some.token) c.next.new.self c.tokens.tokens whole c.in_err-checked.ensures c.in-Some.ensures c.tokens.invariant in
    subst (λ (r : Result unit.Denot ExprFault). OrNoMemory NoMemory (λ (_ : unit.Denot). tt) r whole) (sym same) told
