use Rattle.std.proofs.Common.{◌≡◌, ◌∙◌, [], Err, List, Result, ap, rules, subst, sym, true}
use Rattle.cg_net.specs.Names.{NetName}
use Rattle.cg_verilog_text.specs.Forms.{Form, Literal, Sum, sum}
use Rattle.cg_verilog_text.specs.Reading.{Got, Read, after}
use Rattle.cg_verilog_expression.specs.FormParts.{plain_sum}
use Rattle.cg_verilog_expression.specs.Readings.{IsRead, Stops}
use Rattle.cg_verilog_expression.specs.declared.stop.Stop.{Stop}
use Rattle.cg_verilog_expression.proofs.Passing.{after_got, after_stuck}
use Rattle.cg_verilog_expression.proofs.reading.Reading.plain_sum.Goals as goal

abbrev Terms : Type 0
Terms = List (List (Literal NetName))

pub returns-in_err-terms-clause-left : goal.returns-in_err-terms-clause-left
returns-in_err-terms-clause-left c =
    let same : c.from_residual.result ≡ Err c.in_err-terms.field-0.0 = search rules in
    let end = c.args.self.now.1 in
    let tokens = c.args.self.now.0 in
    let stops : Stops end (sum [] tokens) c.in_err-terms.field-0.0 = subst (λ (before : Terms). Stops end (sum before tokens) c.in_err-terms.field-0.0) c.new.ensures c.in_err-terms.ensures.left in
    subst (λ (r : Result (Form NetName) Stop). IsRead end (plain_sum tokens) c.sum.new.self.0 r) (sym same) (after_stuck end (sum [] tokens) (λ terms later. Got (Sum true terms) later) c.in_err-terms.field-0.0 stops)

pub returns-clause-left : goal.returns-clause-left
returns-clause-left c =
    let tokens = c.args.self.now.0 in
    let read : sum [] tokens ≡ Got c.in_ok-terms.terms c.sum.new.self.0 = ap (λ (before : Terms). sum before tokens) (sym c.new.ensures) ∙ c.in_ok-terms.ensures.left in
    after_got (sum [] tokens) c.in_ok-terms.terms c.sum.new.self.0 (λ terms later. Got (Sum true terms) later) read
