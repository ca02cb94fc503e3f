use Rattle.std.proofs.Common.{◌≡◌, ◌++◌, ◌∷◌, [], take}
use Rattle.std.specs.List.{flat_map}
use Rattle.cg_formula.specs.DimacsText.{lit_word}
use Rattle.cg_formula.proofs.token.push_clause.Given as goal

abbrev pub invariant-loop-lit : goal.invariant-loop-lit
invariant-loop-lit l = l.text.items ≡ l.fn.text.items ++ flat_map (λ lit. lit_word lit ++ 32 ∷ []) (take l.lit-index l.lits)
