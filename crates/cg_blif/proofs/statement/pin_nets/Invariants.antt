use Rattle.std.proofs.Common.{◌≡◌, map, take}
use Rattle.cg_blif_text.specs.PinWords.{pin_net}
use Rattle.cg_blif.proofs.statement.pin_nets.Given as goal

abbrev pub invariant-words : goal.invariant-words
invariant-words l = l.pins.items ≡ map pin_net (take l.word-index l.words)
