use Rattle.std.proofs.Common.{◌≡◌, ◌∙◌, ◌++◌, ◌∷◌, [], refl, subst}
use Rattle.cg_verilog_text.specs.Forms.{literal, product}
use Rattle.cg_verilog_expression.specs.Readings.{Stops}
use Rattle.cg_verilog_expression.proofs.Parting.{begins, stops_whole, turn_less, turn_on, turn_out}
use Rattle.cg_verilog_expression.proofs.Shorter.{literal_shorter}
use Rattle.cg_verilog_expression.proofs.reading.Reading.product.Goals.{then-is_short+in_ok-push-in-Ok, else-is_short+in_ok-term-in-Ok}
use Rattle.cg_verilog_expression.proofs.reading.Reading.product.Goals as goal

pub literals-init : goal.literals-init
literals-init c = record { left = begins 38 literal literal_shorter c.args.before c.args.self.now.0; end = refl }

pub returns-in-Err-clause-left : goal.returns-in-Err-clause-left
returns-in-Err-clause-left c =
    subst (λ end. Stops end (product c.args.before c.args.self.now.0) c.in-Err.stop) c.literals.invariant.end
    (stops_whole 38 literal literal_shorter c.literals.self.1 c.literals.term c.literals.self.0 (product c.args.before c.args.self.now.0) c.in-Err.stop c.literals.invariant.left c.in-Err.ensures.left)

pub returns-then-not-is_mark-clause-left : goal.returns-then-not-is_mark-clause-left
returns-then-not-is_mark-clause-left c =
    let more : c.if-is_short.term ≡ c.literals.term ++ c.in-Ok.literal ∷ [] = elim c.if-is_short.branch [
      | then-is_short+in_ok-push-in-Ok w ↦ cc (w.term-is, w.in_ok-push-in-Ok.ensures)
      | else-is_short+in_ok-term-in-Ok w ↦ cc (w.term-is, w.in_ok-term-in-Ok.ensures)
    ] in
    turn_out 38 literal literal_shorter c.literals.term c.literals.self.0 c.in-Ok.literal c.literal.new.self.0 (product c.args.before c.args.self.now.0) c.literals.invariant.left c.in-Ok.ensures.left c.if-not-is_mark.ensures c.into_literals.result (c.into_literals.ensures ∙ more)

pub literals-smaller : goal.literals-smaller
literals-smaller c = turn_less 38 literal literal_shorter c.literals.term c.literals.self.0 c.in-Ok.literal c.literal.new.self.0 c.in-Ok.ensures.left c.if-not-is_mark.ensures c.pass.new.self.0 c.pass.ensures.left

pub literals-preserved : goal.literals-preserved
literals-preserved c =
    let more : c.if-is_short.term ≡ c.literals.term ++ c.in-Ok.literal ∷ [] = elim c.if-is_short.branch [
      | then-is_short+in_ok-push-in-Ok w ↦ cc (w.term-is, w.in_ok-push-in-Ok.ensures)
      | else-is_short+in_ok-term-in-Ok w ↦ cc (w.term-is, w.in_ok-term-in-Ok.ensures)
    ] in
    record {
      left = turn_on 38 literal literal_shorter c.literals.term c.literals.self.0 c.in-Ok.literal c.literal.new.self.0 (product c.args.before c.args.self.now.0) c.literals.invariant.left c.in-Ok.ensures.left c.if-not-is_mark.ensures c.if-is_short.term c.pass.new.self.0 more c.pass.ensures.left;
      end = c.pass.ensures.end ∙ (c.in-Ok.ensures.end ∙ c.literals.invariant.end);
    }
