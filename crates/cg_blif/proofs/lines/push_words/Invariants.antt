use Rattle.std.proofs.Common.{◌≡◌, ◌++◌, true, length}
use Rattle.std.specs.List.{list_all}
use Rattle.cg_cell.specs.Name.{is_name}
use Rattle.cg_blif.specs.Joining.{words_in}
use Rattle.cg_blif.proofs.lines.push_words.Given as goal

abbrev pub invariant-words : goal.invariant-words
invariant-words l = record {
  pushed : l.words.items ++ l.rest ≡ l.fn.words.items ++ words_in l.fn.line;
  named : list_all is_name l.words.items ≡ true;
}

abbrev pub decreases-words : goal.decreases-words
decreases-words l = length l.rest
