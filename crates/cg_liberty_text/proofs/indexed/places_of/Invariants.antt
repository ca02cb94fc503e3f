use Rattle.std.proofs.Common.{◌≡◌, ℕ, true, List, length, All}
use Rattle.std.specs.List.{list_any}
use Rattle.std.specs.Str.{bytes_eq}
use Rattle.cg_liberty_text.specs.Argument.{argument_texts}
use Rattle.cg_liberty_text.specs.Hint.{IsHint}
use Rattle.cg_liberty_text.proofs.indexed.places_of.Given as goal

abbrev pub invariant-tokens : goal.invariant-tokens
invariant-tokens l = record {
  hints : All (IsHint l.arguments l.bytes) l.places.items;
  left : (text : List ℕ) → list_any (bytes_eq text) (argument_texts l.tokens.0) ≡ true → list_any (bytes_eq text) l.arguments ≡ true;
}

abbrev pub decreases-tokens : goal.decreases-tokens
decreases-tokens l = length l.tokens.0
