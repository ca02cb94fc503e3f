use Rattle.std.proofs.Common.{◌≡◌, length}
use Rattle.cg_text.specs.Words.{words}
use Rattle.cg_text.proofs.words.Words.next_word.Given as goal

abbrev pub invariant-pieces : goal.invariant-pieces
invariant-pieces l = words l.self-inside.blanks l.self-inside.rest.now ≡ l.fn.self

abbrev pub decreases-pieces : goal.decreases-pieces
decreases-pieces l = length l.self-inside.rest.now
