use Rattle.std.proofs.Common.{◌≡◌, length}
use Rattle.cg_verilog_text.specs.Items.{declared}
use Rattle.cg_verilog_text.specs.Reading.{separated}
use Rattle.cg_verilog_expression.proofs.Parting.{IsLeft}
use Rattle.cg_verilog_items.proofs.ShorterItems.{declared_shorter}
use Rattle.cg_verilog_items.proofs.declaration.read_registers.Given as goal

abbrev pub invariant-registers : goal.invariant-registers
invariant-registers l = record {
  left : IsLeft 44 (λ _. declared l.indices) (λ _. declared_shorter l.indices) l.registers l.reading.0 (separated 44 (declared l.indices) l.fn.reading.0);
  end : l.reading.1 ≡ l.fn.reading.1;
}

abbrev pub decreases-registers : goal.decreases-registers
decreases-registers l = length l.reading.0
