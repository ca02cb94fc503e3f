use Rattle.std.proofs.Common.{◌≡◌, length}
use Rattle.cg_verilog_text.specs.Items.{pin}
use Rattle.cg_verilog_text.specs.Reading.{separated}
use Rattle.cg_verilog_expression.proofs.Parting.{IsLeft}
use Rattle.cg_verilog_items.proofs.ShorterItems.{pin_shorter}
use Rattle.cg_verilog_items.proofs.placed.read_pins.Given as goal

abbrev pub invariant-pins : goal.invariant-pins
invariant-pins l = record {
  left : IsLeft 44 (λ _. pin) (λ _. pin_shorter) l.pins l.reading.0 (separated 44 pin l.fn.reading.0);
  end : l.reading.1 ≡ l.fn.reading.1;
}

abbrev pub decreases-pins : goal.decreases-pins
decreases-pins l = length l.reading.0
