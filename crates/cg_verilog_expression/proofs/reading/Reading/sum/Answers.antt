use Rattle.std.proofs.Common.{◌∙◌, refl, subst}
use Rattle.cg_verilog_text.specs.Forms.{sum, term}
use Rattle.cg_verilog_expression.specs.Readings.{Stops}
use Rattle.cg_verilog_expression.proofs.Parting.{begins, stops_whole, turn_less, turn_on, turn_out}
use Rattle.cg_verilog_expression.proofs.Shorter.{term_shorter}
use Rattle.cg_verilog_expression.proofs.reading.Reading.sum.Goals as goal

pub terms-init : goal.terms-init
terms-init c = record { left = begins 124 (λ _. term) (λ _. term_shorter) c.args.before c.args.self.now.0; end = refl }

pub returns-in-Err-clause-left : goal.returns-in-Err-clause-left
returns-in-Err-clause-left c =
    subst (λ end. Stops end (sum c.args.before c.args.self.now.0) c.in-Err.stop) c.terms.invariant.end
    (stops_whole 124 (λ _. term) (λ _. term_shorter) c.terms.self.1 c.terms.terms c.terms.self.0 (sum c.args.before c.args.self.now.0) c.in-Err.stop c.terms.invariant.left c.in-Err.ensures.left)

pub terms-smaller : goal.terms-smaller
terms-smaller c = turn_less 124 (λ _. term) (λ _. term_shorter) c.terms.terms c.terms.self.0 c.in-Ok.term c.term.new.self.0 c.in-Ok.ensures.left c.if-not-is_mark.ensures c.pass.new.self.0 c.pass.ensures.left

pub terms-preserved : goal.terms-preserved
terms-preserved c = record {
  left = turn_on 124 (λ _. term) (λ _. term_shorter) c.terms.terms c.terms.self.0 c.in-Ok.term c.term.new.self.0 (sum c.args.before c.args.self.now.0) c.terms.invariant.left c.in-Ok.ensures.left c.if-not-is_mark.ensures c.push.new.self c.pass.new.self.0 c.in_ok-push-in-Ok.ensures.parts c.pass.ensures.left;
  end = c.pass.ensures.end ∙ (c.in-Ok.ensures.end ∙ c.terms.invariant.end);
}

pub returns-then-not-is_mark-clause-left : goal.returns-then-not-is_mark-clause-left
returns-then-not-is_mark-clause-left c = turn_out 124 (λ _. term) (λ _. term_shorter) c.terms.terms c.terms.self.0 c.in-Ok.term c.term.new.self.0 (sum c.args.before c.args.self.now.0) c.terms.invariant.left c.in-Ok.ensures.left c.if-not-is_mark.ensures c.push.new.self c.in_ok-push-in-Ok.ensures.parts
