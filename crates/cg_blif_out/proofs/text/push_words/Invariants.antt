use Rattle.std.proofs.Common.{◌≡◌, ◌++◌, drop}
use Rattle.cg_blif_out.specs.Writing.{spaced}
use Rattle.cg_blif_out.proofs.text.push_words.Given as goal

abbrev pub invariant-words : goal.invariant-words
invariant-words l = l.out.items ++ spaced (drop l.word-index l.words) ≡ l.fn.out.items ++ spaced l.words
