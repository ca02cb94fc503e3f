use Rattle.std.proofs.Common.{◌≡◌, take}
use Rattle.cg_verilog.proofs.placing.pin_words.Given as goal

abbrev pub invariant-pins : goal.invariant-pins
invariant-pins l = l.words.items ≡ take l.pin-index l.pins
