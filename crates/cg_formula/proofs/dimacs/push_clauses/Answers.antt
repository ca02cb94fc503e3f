use Rattle.std.proofs.Common.{arith}
use Rattle.cg_formula.specs.DimacsText.{clause_words}
use Rattle.cg_formula.proofs.Pushed.{lines_pushed, line_more}
use Rattle.cg_formula.proofs.dimacs.push_clauses.Goals as goal

pub loop-place-preserved : goal.loop-place-preserved
loop-place-preserved c =
    line_more clause_words c.args.text.now.items c.loop-place.text.items c.push_clause.new.text.items c.push.new.self.items c.args.clauses.now c.loop-place.place
    (record { lits = c.at.result.now }) c.at.ensures.clause c.loop-place.invariant c.in_ok-push_clause.ensures c.in_ok-push.ensures.items

pub returns : goal.returns
returns c =
    lines_pushed clause_words c.args.text.now.items c.loop-place.text.items c.args.clauses.now c.loop-place.place (omega (arith, c.len-place-end.ensures.count))
    c.loop-place.invariant
