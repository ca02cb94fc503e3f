use Rattle.std.proofs.Common.{◌≡◌, [], length}
use Rattle.cg_stimulus.specs.Reading.{names_from}
use Rattle.cg_stimulus.proofs.header.read_names.Given as goal

abbrev pub invariant-names : goal.invariant-names
invariant-names l = names_from l.line l.inputs l.names l.words ≡ names_from l.line l.inputs [] l.fn.words

abbrev pub decreases-names : goal.decreases-names
decreases-names l = length l.words
