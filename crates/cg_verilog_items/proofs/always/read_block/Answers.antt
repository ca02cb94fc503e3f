use Rattle.std.proofs.Common.{◌∙◌, [], List, refl, subst, sym}
use Rattle.cg_verilog_text.specs.Items.{Update, block_turn}
use Rattle.cg_verilog_text.specs.Reading.{turns}
use Rattle.cg_verilog_expression.specs.Readings.{Stops}
use Rattle.cg_verilog_items.proofs.Blocks.{IsBlockLeft, block_begins_at, block_more, block_shrinks, block_stops}
use Rattle.cg_verilog_items.proofs.always.read_block.Goals as goal

pub updates-init : goal.updates-init
updates-init c = record { left = block_begins_at c.new-updates.result c.args.reading.now.0 c.new-updates.ensures; end = refl }

pub returns-in-Err-clause-left : goal.returns-in-Err-clause-left
returns-in-Err-clause-left c =
    let whole = turns block_turn [] c.args.reading.now.0 in
    subst (λ end. Stops end whole c.in-Err.stop) c.updates.invariant.end
    (block_stops c.updates.reading.1 c.updates.updates c.updates.reading.0 whole c.in-Err.stop c.updates.invariant.left (sym c.if-is_word.ensures) c.in-Err.ensures.left)

pub updates-smaller : goal.updates-smaller
updates-smaller c = block_shrinks c.updates.reading.0 c.in-Ok.update c.read_update.new.reading.0 c.in-Ok.ensures.left

pub updates-preserved : goal.updates-preserved
updates-preserved c =
    let whole = turns block_turn [] c.args.reading.now.0 in
    record {
      left = subst (λ (l : List Update). IsBlockLeft l c.read_update.new.reading.0 whole) (sym c.in_ok-push-in-Ok.ensures.parts)
          (block_more c.updates.updates c.updates.reading.0 c.in-Ok.update c.read_update.new.reading.0 whole c.updates.invariant.left (sym c.if-is_word.ensures) c.in-Ok.ensures.left);
      end = c.in-Ok.ensures.end ∙ c.updates.invariant.end;
    }
