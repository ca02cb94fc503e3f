use Rattle.std.proofs.Common.{◌≡◌, length}
use Rattle.cg_verilog_text.specs.Items.{items}
use Rattle.cg_verilog.specs.Summary.{ending}
use Rattle.cg_verilog.specs.Tellings.{IsSound, summed}
use Rattle.cg_verilog.proofs.ItemsLeft.{AreLeft}
use Rattle.cg_verilog.proofs.reader.tell_items.Given as goal

abbrev pub invariant-items : goal.invariant-items
invariant-items l = record {
  left : AreLeft l.library (summed l.telling) l.reading.0 (ending l.library (summed l.fn.telling) (items l.fn.reading.0));
  end : l.reading.1 ≡ l.fn.reading.1;
  sound : IsSound l.telling;
}

abbrev pub decreases-items : goal.decreases-items
decreases-items l = length l.reading.0
