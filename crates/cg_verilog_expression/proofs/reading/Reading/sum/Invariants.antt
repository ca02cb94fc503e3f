use Rattle.std.proofs.Common.{◌≡◌, length}
use Rattle.cg_verilog_text.specs.Forms.{sum, term}
use Rattle.cg_verilog_expression.proofs.Parting.{IsLeft}
use Rattle.cg_verilog_expression.proofs.Shorter.{term_shorter}
use Rattle.cg_verilog_expression.proofs.reading.Reading.sum.Given as goal

abbrev pub invariant-terms : goal.invariant-terms
invariant-terms l = record {
  left : IsLeft 124 (λ _. term) (λ _. term_shorter) l.terms l.self.0 (sum l.fn.before l.fn.self.0);
  end : l.self.1 ≡ l.fn.self.1;
}

abbrev pub decreases-terms : goal.decreases-terms
decreases-terms l = length l.self.0
