use Rattle.std.proofs.Common.{◌≡◌, [], Err, List, Result, rules, subst, sym, ap, ◌∙◌}
use Rattle.cg_net.specs.Names.{NetName}
use Rattle.cg_verilog_text.specs.Forms.{Literal, sum}
use Rattle.cg_verilog_text.specs.Reading.{Got, ended_by}
use Rattle.cg_verilog_expression.specs.Readings.{IsRead, Stops}
use Rattle.cg_verilog_expression.specs.declared.stop.Stop.{Stop}
use Rattle.cg_verilog_expression.proofs.Passing.{closed_got, closed_stops, closed_stuck}
use Rattle.cg_verilog_expression.proofs.reading.Reading.closed_sum.Goals as goal

abbrev Terms : Type 0
Terms = List (List (Literal NetName))

pub returns-in_err-terms-clause-left : goal.returns-in_err-terms-clause-left
returns-in_err-terms-clause-left c =
    let same : c.from_residual.result ≡ Err c.in_err-terms.field-0.0 = search rules in
    let end = c.args.self.now.1 in
    let tokens = c.args.self.now.0 in
    let stops : Stops end (sum [] tokens) c.in_err-terms.field-0.0 = subst (λ (before : Terms). Stops end (sum before tokens) c.in_err-terms.field-0.0) c.new.ensures c.in_err-terms.ensures.left in
    subst (λ (r : Result Terms Stop). IsRead end (ended_by 41 (sum [] tokens)) c.sum.new.self.0 r) (sym same) (closed_stuck end 41 (sum [] tokens) c.in_err-terms.field-0.0 stops)

pub returns-in_err-mark-clause-left : goal.returns-in_err-mark-clause-left
returns-in_err-mark-clause-left c =
    let same : c.from_residual-in_err-mark.result ≡ Err c.in_err-mark.field-0.0 = search rules in
    let end = c.args.self.now.1 in
    let tokens = c.args.self.now.0 in
    let read : sum [] tokens ≡ Got c.in_ok-terms.terms c.sum.new.self.0 = ap (λ (before : Terms). sum before tokens) (sym c.new.ensures) ∙ c.in_ok-terms.ensures.left in
    subst (λ (r : Result Terms Stop). IsRead end (ended_by 41 (sum [] tokens)) c.mark.new.self.0 r) (sym same)
    (closed_stops end c.sum.new.self.1 41 (sum [] tokens) c.in_ok-terms.terms c.sum.new.self.0 c.in_err-mark.field-0.0 read c.in_ok-terms.ensures.end c.in_err-mark.ensures.left)

pub returns-clause-left : goal.returns-clause-left
returns-clause-left c =
    let tokens = c.args.self.now.0 in
    let read : sum [] tokens ≡ Got c.in_ok-terms.terms c.sum.new.self.0 = ap (λ (before : Terms). sum before tokens) (sym c.new.ensures) ∙ c.in_ok-terms.ensures.left in
    closed_got 41 (sum [] tokens) c.in_ok-terms.terms c.sum.new.self.0 c.mark.new.self.0 read c.in_ok-mark.ensures.left
