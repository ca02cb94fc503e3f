use Rattle.std.proofs.Common.{◌≡◌, ◌++◌, length}
use Rattle.cg_text.specs.Spots.{line_spots, spots_of}
use Rattle.cg_text.proofs.tokens.Tokens.next_token.Given as goal

abbrev pub invariant-tokens : goal.invariant-tokens
invariant-tokens l = let inside = l.self-inside in record {
  left : line_spots inside.line ++ spots_of inside.later.left ≡ l.fn.self.left;
  end : inside.later.end ≡ l.fn.self.end;
}

abbrev pub decreases-tokens : goal.decreases-tokens
decreases-tokens l = length l.self-inside.later.left
