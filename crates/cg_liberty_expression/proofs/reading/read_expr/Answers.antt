use Rattle.std.proofs.Common.{ℕ, List, Result, Ok, Err, IfOk, length, subst}
use Rattle.cg_liberty_expression.specs.Grammar.{ExprText}
use Rattle.cg_liberty_expression.specs.Reading.{read_text}
use Rattle.cg_cell.specs.declared.expr.Expr.{Expr}
use Rattle.cg_liberty_expression.specs.declared.fault.ExprFault.{ExprFault}
use Rattle.cg_liberty_expression.specs.declared.fault.ExprFault.TheVariants.{NoMemory}
use Rattle.cg_liberty_expression.proofs.Sound.{read_stands}
use Rattle.cg_cell.specs.Expr.{term_of}
use Rattle.cg_limit.specs.Answers.{OrNoMemory}
use Rattle.cg_liberty_expression.proofs.FirstFault.{answered_faults}
use Rattle.cg_liberty_expression.proofs.Grammar.{reads_text}
use Rattle.cg_liberty_expression.proofs.Within.{read_within, within_over}
use Rattle.cg_liberty_expression.proofs.reading.read_expr.Goals as goal

pub returns-clause-within : goal.returns-clause-within
returns-clause-within c = read_within c.args.pins.now c.args.text.now c.read.result c.read.ensures

pub returns-clause-over : goal.returns-clause-over
returns-clause-over c = within_over (length c.args.pins.now) c.read.result (read_within c.args.pins.now c.args.text.now c.read.result c.read.ensures)

pub returns-clause-grammar : goal.returns-clause-grammar
returns-clause-grammar c t stands = subst (OrNoMemory NoMemory term_of c.read.result) (reads_text c.args.pins.now c.args.text.now t stands) c.read.ensures

found : (pins : List (List ℕ)) (text : List ℕ) (r : Result Expr ExprFault) → OrNoMemory NoMemory term_of r (read_text pins text) → IfOk r (λ e. ExprText pins text (term_of e))
found pins text (Ok e) g = read_stands pins text (term_of e) g
found pins text (Err fault) g = tt

pub returns-clause-found : goal.returns-clause-found
returns-clause-found c = found c.args.pins.now c.args.text.now c.read.result c.read.ensures

pub returns-clause-fault : goal.returns-clause-fault
returns-clause-fault c = answered_faults c.args.pins.now c.args.text.now c.read.result c.read.ensures
