use Rattle.std.proofs.Common.{length, ◌-◌, ◌≡◌, ◌≤◌, false, drop}
use Rattle.cg_liberty_expression.specs.Tokens.{tokens_from}
use Rattle.cg_liberty_expression.proofs.tokens.after_blanks.Given as goal

abbrev pub invariant-blanks : goal.invariant-blanks
invariant-blanks l = record {
  within : l.place ≤ length l.text;
  same : tokens_from false l.place (drop l.place l.text) ≡ tokens_from false l.at (drop l.at l.text);
}

abbrev pub decreases-blanks : goal.decreases-blanks
decreases-blanks l = length l.text - l.place
