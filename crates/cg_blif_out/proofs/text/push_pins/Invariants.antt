use Rattle.std.proofs.Common.{◌≡◌, ◌++◌, drop}
use Rattle.cg_blif_out.specs.Writing.{pins_text}
use Rattle.cg_blif_out.proofs.text.push_pins.Given as goal

abbrev pub invariant-pins : goal.invariant-pins
invariant-pins l = l.out.items ++ pins_text (drop l.pin-index l.pins) ≡ l.fn.out.items ++ pins_text l.pins
