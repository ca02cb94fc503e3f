use Rattle.std.proofs.Common.{◌+◌, arith, rules, ap, subst, sym}
use Rattle.std.proofs.lemmas.Grind.{common_steps}
use Rattle.cg_formula.specs.declared.formula.Formula.{Formula}
use Rattle.cg_formula.specs.Bounds.{IsFormula}
use Rattle.cg_formula.specs.Satisfiable.{IsSatisfiable, Satisfies}
use Rattle.cg_cnf.proofs.Satisfying.{formula_bounds, model_from_one, nodes_more, one_from_model}
use Rattle.cg_cnf.proofs.goal.formula.Goals as goal

pub nodes-preserved : goal.nodes-preserved
nodes-preserved c =
    nodes_more c.args.aig.now.number c.nodes.k (1 + c.leaves-first.result) c.args.aig.now.pairs (c.pair-a.result.0, c.pair-a.result.1)
    c.nodes.clauses c.push_node.new.clauses
    (ap (λ n. 1 + n) c.leaves-first.ensures.leaves) c.nodes.invariant c.pair-a.ensures c.in_ok-push_node.ensures

pub returns-clause-clauses : goal.returns-clause-clauses
returns-clause-clauses c = first_of (search rules, grind (arith, common_steps))

pub returns-clause-bounds : goal.returns-clause-bounds
returns-clause-bounds c =
    subst (λ (f : Formula). IsFormula f) (sym (returns-clause-clauses c))
    (formula_bounds c.args.aig.now c.args.goal c.leaves.ensures.well_formed c.requires)

pub returns-clause-if_one : goal.returns-clause-if_one
returns-clause-if_one c = λ bits h.
    subst (λ (f : Formula). IsSatisfiable f) (sym (returns-clause-clauses c)) (model_from_one c.args.aig.now c.args.goal bits c.requires h)

pub returns-clause-only_if_one : goal.returns-clause-only_if_one
returns-clause-only_if_one c = λ model h.
    one_from_model c.args.aig.now c.args.goal model c.requires (subst (λ (f : Formula). Satisfies model f) (returns-clause-clauses c) h)
