use Rattle.std.proofs.Common.{◌≡◌, drop}
use Rattle.cg_netlist_placed.specs.inner.Roles.{is_given}
use Rattle.cg_netlist_placed.proofs.given.is_given.Given as goal

abbrev pub invariant-words : goal.invariant-words
invariant-words l = is_given (drop l.word-index l.words) l.name ≡ is_given l.words l.name
