use Rattle.std.proofs.Common.{◌≡◌, ◌+◌, ◌≤◌, length}
use Rattle.cg_liberty_text.specs.Token.{tokens_from}
use Rattle.cg_liberty_text.proofs.tokens.Tokens.next.Given as goal

abbrev pub invariant-gaps : goal.invariant-gaps
invariant-gaps l = let inside = l.self-inside in record {
  left : tokens_from 0 l.fresh inside.at inside.rest.now ≡ l.fn.self.0;
  end : inside.end ≡ l.fn.self.1;
  within : inside.at + length inside.rest.now ≤ inside.end;
}

abbrev pub decreases-gaps : goal.decreases-gaps
decreases-gaps l = length l.self-inside.rest.now
