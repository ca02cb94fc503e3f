use Rattle.std.proofs.Common.{◌≡◌, length}
use Rattle.cg_verilog_text.specs.Reading.{name, separated}
use Rattle.cg_verilog_expression.proofs.Parting.{IsLeft}
use Rattle.cg_verilog_expression.proofs.Shorter.{name_shorter}
use Rattle.cg_verilog_items.proofs.names.read_names.Given as goal

abbrev pub invariant-names : goal.invariant-names
invariant-names l = record {
  left : IsLeft 44 (λ _. name) (λ _. name_shorter) l.names l.reading.0 (separated 44 name l.fn.reading.0);
  end : l.reading.1 ≡ l.fn.reading.1;
}

abbrev pub decreases-names : goal.decreases-names
decreases-names l = length l.reading.0
