use Rattle.std.proofs.Common.{◌≡◌, drop}
use Rattle.cg_netlist_placed.specs.Placed.{given}
use Rattle.cg_netlist_placed.proofs.given.given.Given as goal

abbrev pub invariant-words : goal.invariant-words
invariant-words l = given (drop l.word-index l.words) l.pin ≡ given l.words l.pin
