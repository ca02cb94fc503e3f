use Rattle.std.proofs.Common.{◌≡◌, [], length}
use Rattle.cg_verilog_text.specs.Items.{block_turn}
use Rattle.cg_verilog_text.specs.Reading.{turns}
use Rattle.cg_verilog_items.proofs.Blocks.{IsBlockLeft}
use Rattle.cg_verilog_items.proofs.always.read_block.Given as goal

abbrev pub invariant-updates : goal.invariant-updates
invariant-updates l = record {
  left : IsBlockLeft l.updates l.reading.0 (turns block_turn [] l.fn.reading.0);
  end : l.reading.1 ≡ l.fn.reading.1;
}

abbrev pub decreases-updates : goal.decreases-updates
decreases-updates l = length l.reading.0
