use Rattle.std.proofs.Common.{◌≡◌, ◌+◌, ◌-◌, suc, List, ◌∙◌, ap, length, arith}
use Rattle.std.proofs.lemmas.Result.{err_from_is_err_and}
use Rattle.cg_formula.specs.declared.formula.Clause.{Clause}
use Rattle.cg_formula.specs.inner.ClauseList.{clauses_of}
use Rattle.cg_formula.proofs.ReadingOn.{list_goes, list_fault}
use Rattle.cg_formula.proofs.dimacs.read_clauses.Goals as goal

pub returns-in_err-read_clause : goal.returns-in_err-read_clause
returns-in_err-read_clause c =
    let count : c.args.header.clauses - c.loop-done._done ≡ suc (c.args.header.clauses - (c.loop-done._done + 1)) = omega arith in
    let p = err_from_is_err_and c.from_residual.result c.from_residual.ensures.1 in
    rw (p.1, p.2) (list_fault (clauses_of 0 c.loop-done.lits.items c.loop-done.ends.items) c.loop-done.lits.items c.args.header.variables
    c.loop-done.tokens.end _ _ c.loop-done.tokens.left _
    c.in_err-read_clause.field-0.0 (λ (clauses : List Clause). clauses)
    count c.in_err-read_clause.ensures.clause c.loop-done.invariant.read)

pub loop-done-preserved : goal.loop-done-preserved
loop-done-preserved c =
    let count : c.args.header.clauses - c.loop-done._done ≡ suc (c.args.header.clauses - (c.loop-done._done + 1)) = omega arith in
    let on =
    list_goes c.loop-done.lits.items c.read_clause.new.lits.items c.loop-done.ends.items c.push_end.new.ends.items c.args.header.variables
    c.loop-done.tokens.end c.read_clause.new.tokens.end _ _ (length c.as_slice.result.now)
    c.loop-done.tokens.left c.read_clause.new.tokens.left _ count c.loop-done.invariant.ends (ap length c.as_slice.ensures.value) c.in_ok-push_end.ensures
    c.read_clause.ensures.end c.in_ok-read_clause.ensures.clause c.loop-done.invariant.read in
    record { read = on.0; ends = on.1; end = c.read_clause.ensures.end ∙ c.loop-done.invariant.end }
