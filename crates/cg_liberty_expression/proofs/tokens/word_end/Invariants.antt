use Rattle.std.proofs.Common.{length, ◌-◌, ◌≡◌, ◌≤◌, ◌+◌, drop}
use Rattle.std.specs.List.{prefix_len}
use Rattle.cg_liberty_expression.specs.Tokens.{is_word_byte}
use Rattle.cg_liberty_expression.proofs.tokens.word_end.Given as goal

abbrev pub invariant-word : goal.invariant-word
invariant-word l = record {
  within : l.end ≤ length l.text;
  run : l.end + prefix_len is_word_byte (drop l.end l.text) ≡ l.at + prefix_len is_word_byte (drop l.at l.text);
}

abbrev pub decreases-word : goal.decreases-word
decreases-word l = length l.text - l.end
