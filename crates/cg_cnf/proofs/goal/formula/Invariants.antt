use Rattle.std.proofs.Common.{◌≡◌, ◌+◌, take}
use Rattle.cg_cnf.specs.Clauses.{clauses_from}
use Rattle.cg_cnf.proofs.goal.formula.Given as goal

abbrev pub invariant-nodes : goal.invariant-nodes
invariant-nodes l = l.clauses ≡ clauses_from (1 + l.aig.number) (take l.k l.aig.pairs)
