use Rattle.std.proofs.Common.{◌≡◌, length}
use Rattle.cg_verilog_text.specs.Forms.{literal, product}
use Rattle.cg_verilog_expression.proofs.Parting.{IsLeft}
use Rattle.cg_verilog_expression.proofs.Shorter.{literal_shorter}
use Rattle.cg_verilog_expression.proofs.reading.Reading.product.Given as goal

abbrev pub invariant-literals : goal.invariant-literals
invariant-literals l = record {
  left : IsLeft 38 literal literal_shorter l.term l.self.0 (product l.fn.before l.fn.self.0);
  end : l.self.1 ≡ l.fn.self.1;
}

abbrev pub decreases-literals : goal.decreases-literals
decreases-literals l = length l.self.0
