use Rattle.std.proofs.Common.{◌≡◌, ◌++◌, drop}
use Rattle.cg_verilog_out.specs.Pieces.{more_pins}
use Rattle.cg_verilog_out.proofs.places.push_more_pins.Given as goal

abbrev pub invariant-pins : goal.invariant-pins
invariant-pins l = l.out.items ++ more_pins (drop l.pin-index l.pins) ≡ l.fn.out.items ++ more_pins l.pins
