use Rattle.std.proofs.Common.{◌∙◌, refl, subst}
use Rattle.cg_verilog_text.specs.Items.{declared}
use Rattle.cg_verilog_text.specs.Reading.{separated}
use Rattle.cg_verilog_expression.specs.Readings.{Stops}
use Rattle.cg_verilog_expression.proofs.Parting.{begins_empty, stops_whole, turn_on}
use Rattle.cg_verilog_items.proofs.ShorterItems.{declared_shorter}
use Rattle.cg_verilog_items.proofs.declaration.read_registers.Goals as goal

pub registers-init : goal.registers-init
registers-init c = record { left = begins_empty 44 (λ _. declared c.args.indices.now) (λ _. declared_shorter c.args.indices.now) c.new-registers.result c.args.reading.now.0 c.new-registers.ensures; end = refl }

pub returns-in-Err-clause-left : goal.returns-in-Err-clause-left
returns-in-Err-clause-left c =
    subst (λ end. Stops end (separated 44 (declared c.args.indices.now) c.args.reading.now.0) c.in-Err.stop) c.registers.invariant.end
    (stops_whole 44 (λ _. declared c.args.indices.now) (λ _. declared_shorter c.args.indices.now) c.registers.reading.1 c.registers.registers c.registers.reading.0 (separated 44 (declared c.args.indices.now) c.args.reading.now.0) c.in-Err.stop c.registers.invariant.left c.in-Err.ensures.left)

pub registers-preserved : goal.registers-preserved
registers-preserved c = record {
  left = turn_on 44 (λ _. declared c.args.indices.now) (λ _. declared_shorter c.args.indices.now) c.registers.registers c.registers.reading.0 c.in-Ok.register c.read_declared.new.reading.0 (separated 44 (declared c.args.indices.now) c.args.reading.now.0) c.registers.invariant.left c.in-Ok.ensures.left c.if-not-is_mark.ensures c.push.new.self c.pass.new.self.0 c.in_ok-push-in-Ok.ensures.parts c.pass.ensures.left;
  end = c.pass.ensures.end ∙ (c.in-Ok.ensures.end ∙ c.registers.invariant.end);
}
