use Rattle.std.proofs.Common.{◌≡◌, ◌++◌, length}
use Rattle.cg_hint_text.proofs.word.read_words.Given as goal

abbrev pub invariant-words : goal.invariant-words
invariant-words l = l.read.items ++ l.words ≡ l.fn.words

abbrev pub decreases-words : goal.decreases-words
decreases-words l = length l.words
