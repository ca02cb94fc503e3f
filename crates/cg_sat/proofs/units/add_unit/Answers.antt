use Rattle.std.proofs.Common.{◌<◌, sym, subst, arith}
use Rattle.cg_formula.specs.declared.formula.Lit.{Lit}
use Rattle.cg_sat.proofs.UnitClauses.{one_in}
use Rattle.cg_sat.proofs.Grown.{prefix_pushed, search_more}
use Rattle.cg_sat.proofs.units.add_unit.Goals as goal

pub returns-clause-prefix : goal.returns-clause-prefix
returns-clause-prefix c formula prefix = rw c.in_ok-add.ensures.added (prefix_pushed formula c.args.draft.now.clauses c.in_ok-lits.lits.items prefix)

pub returns-clause-search : goal.returns-clause-search
returns-clause-search c =
    let lits = c.in_ok-lits.lits.items in
    let below : c.args.entry.lit.variable < c.args.problem.now.count = omega arith in
    let one : 0 < c.args.entry.lit.variable = omega arith in
    rw c.in_ok-add.ensures.added (search_more c.args.problem.now.count c.args.draft.now.clauses c.args.trail.now lits c.requires.search
    (λ lit e. subst (λ (l : Lit). l.variable < c.args.problem.now.count) (sym (one_in lits c.args.entry.lit lit c.in_ok-lits.ensures.items e)) below)
    (λ lit e. subst (λ (l : Lit). 0 < l.variable) (sym (one_in lits c.args.entry.lit lit c.in_ok-lits.ensures.items e)) one))
