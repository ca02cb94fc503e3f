use Rattle.std.proofs.Common.{◌∙◌, refl, subst}
use Rattle.cg_verilog_text.specs.Items.{pin}
use Rattle.cg_verilog_text.specs.Reading.{separated}
use Rattle.cg_verilog_expression.specs.Readings.{Stops}
use Rattle.cg_verilog_expression.proofs.Parting.{begins_empty, stops_whole, turn_less, turn_on}
use Rattle.cg_verilog_items.proofs.ShorterItems.{pin_shorter}
use Rattle.cg_verilog_items.proofs.placed.read_pins.Goals as goal

pub pins-init : goal.pins-init
pins-init c = record { left = begins_empty 44 (λ _. pin) (λ _. pin_shorter) c.new-pins.result c.args.reading.now.0 c.new-pins.ensures; end = refl }

pub returns-in-Err-clause-left : goal.returns-in-Err-clause-left
returns-in-Err-clause-left c =
    subst (λ end. Stops end (separated 44 pin c.args.reading.now.0) c.in-Err.stop) c.pins.invariant.end
    (stops_whole 44 (λ _. pin) (λ _. pin_shorter) c.pins.reading.1 c.pins.pins c.pins.reading.0 (separated 44 pin c.args.reading.now.0) c.in-Err.stop c.pins.invariant.left c.in-Err.ensures.left)

pub pins-smaller : goal.pins-smaller
pins-smaller c = turn_less 44 (λ _. pin) (λ _. pin_shorter) c.pins.pins c.pins.reading.0 c.in-Ok.pin c.read_pin.new.reading.0 c.in-Ok.ensures.left c.if-not-is_mark.ensures c.pass.new.self.0 c.pass.ensures.left

pub pins-preserved : goal.pins-preserved
pins-preserved c = record {
  left = turn_on 44 (λ _. pin) (λ _. pin_shorter) c.pins.pins c.pins.reading.0 c.in-Ok.pin c.read_pin.new.reading.0 (separated 44 pin c.args.reading.now.0) c.pins.invariant.left c.in-Ok.ensures.left c.if-not-is_mark.ensures c.push.new.self c.pass.new.self.0 c.in_ok-push-in-Ok.ensures.parts c.pass.ensures.left;
  end = c.pass.ensures.end ∙ (c.in-Ok.ensures.end ∙ c.pins.invariant.end);
}
