use Rattle.std.proofs.Common.{◌≡◌, ◌++◌, take}
use Rattle.std.specs.List.{flat_map}
use Rattle.cg_text.specs.Written.{line_text}
use Rattle.cg_formula.specs.DimacsText.{clause_words}
use Rattle.cg_formula.proofs.dimacs.push_clauses.Given as goal

abbrev pub invariant-loop-place : goal.invariant-loop-place
invariant-loop-place l =
    l.text.items ≡ l.fn.text.items ++ flat_map (λ clause. line_text (clause_words clause)) (take l.place l.clauses)
