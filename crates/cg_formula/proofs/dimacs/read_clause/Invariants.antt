use Rattle.std.proofs.Common.{◌≡◌, length}
use Rattle.cg_formula.specs.DimacsReading.{clause_at}
use Rattle.cg_formula.specs.inner.ReadingOn.{lits_before}
use Rattle.cg_formula.proofs.dimacs.read_clause.Given as goal

abbrev pub invariant-literals : goal.invariant-literals
invariant-literals l = record {
  read : lits_before l.lits.items (clause_at l.variables l.tokens.end l.tokens.left) ≡ lits_before l.fn.lits.items (clause_at l.variables l.fn.tokens.end l.fn.tokens.left);
  end : l.tokens.end ≡ l.fn.tokens.end;
}

abbrev pub decreases-literals : goal.decreases-literals
decreases-literals l = length l.tokens.left
