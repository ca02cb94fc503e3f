use Rattle.std.proofs.Common.{◌≡◌, length}
use Rattle.std.specs.List.{AllPass}
use Rattle.cg_blif.specs.Joining.{words_in}
use Rattle.cg_blif.specs.Physical.{is_read}
use Rattle.cg_blif.proofs.lines.LineWords.next_word.Given as goal

abbrev pub invariant-pieces : goal.invariant-pieces
invariant-pieces l = record {
  words : words_in l.self-inside.rest.now ≡ l.fn.self;
  read : AllPass is_read l.self-inside.rest.now;
}

abbrev pub decreases-pieces : goal.decreases-pieces
decreases-pieces l = length l.self-inside.rest.now
