use Rattle.std.proofs.Common.{◌≡◌, ◌-◌, length}
use Rattle.cg_formula.specs.DimacsReading.{clauses_at}
use Rattle.cg_formula.specs.inner.ClauseList.{AreEnds, clauses_of}
use Rattle.cg_formula.proofs.ReadingOn.{clauses_before}
use Rattle.cg_formula.proofs.dimacs.read_clauses.Given as goal

abbrev pub invariant-loop-done : goal.invariant-loop-done
invariant-loop-done l = record {
  read : clauses_before (clauses_of 0 l.lits.items l.ends.items) (clauses_at l.header.variables l.tokens.end (l.header.clauses - l._done) l.tokens.left)
      ≡ clauses_at l.fn.header.variables l.fn.tokens.end l.fn.header.clauses l.fn.tokens.left;
  ends : AreEnds 0 (length l.lits.items) l.ends.items;
  end : l.tokens.end ≡ l.fn.tokens.end;
}
