use Rattle.std.proofs.Common.{◌≡◌, length}
use Rattle.std.specs.List.{list_any}
use Rattle.std.specs.Str.{bytes_eq}
use Rattle.cg_liberty_text.proofs.argument.Arguments.has.Given as goal

abbrev pub invariant-texts : goal.invariant-texts
invariant-texts l = list_any (bytes_eq l.text) l.left ≡ list_any (bytes_eq l.text) l.fn.self

abbrev pub decreases-texts : goal.decreases-texts
decreases-texts l = length l.left
