use Rattle.std.proofs.Common.{rules}
use Rattle.cg_lrat.specs.AcceptedLog.{IsAccepted}
use Rattle.cg_sat.specs.declared.search.Solved.TheVariants.{Unsat}
use Rattle.cg_sat.proofs.Exact.{exact}
use Rattle.cg_sat.proofs.search.Solver.solve.Goals as goal

pub returns-in_ok-log-in-Refuted-clause-exactly : goal.returns-in_ok-log-in-Refuted-clause-exactly
returns-in_ok-log-in-Refuted-clause-exactly c =
    let shown : IsAccepted c.args.formula.now c.in_ok-log-in-Refuted.log = search rules in
    exact c.args.formula.now (Unsat c.in_ok-log-in-Refuted.log) shown
