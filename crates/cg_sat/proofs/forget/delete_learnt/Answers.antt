use Rattle.std.proofs.Common.{◌≡◌, false, get_or, arith, rules}
use Rattle.cg_sat_state.specs.Trail.{IsUnused}
use Rattle.cg_sat.proofs.Grown.{search_without, prefix_without}
use Rattle.cg_sat.proofs.Reasons.{unmarked_unused}
use Rattle.cg_sat.proofs.forget.delete_learnt.Goals as goal

pub returns-clause-prefix : goal.returns-clause-prefix
returns-clause-prefix c =
    prefix_without c.args.problem.now.formula.now c.args.draft.now.clauses c.delete.new.self.clauses c.args.place (omega (arith, c.len-first.ensures.count)) c.in_ok-delete.ensures.deleted c.requires.prefix

pub returns-clause-search : goal.returns-clause-search
returns-clause-search c =
    let off : get_or c.args.used.now c.args.place false ≡ false = search rules in
    let unused : IsUnused c.args.place c.args.trail.now = unmarked_unused c.args.trail.now c.args.used.now c.args.place c.requires.marked (omega arith) off in
    search_without c.args.problem.now.count c.args.draft.now.clauses c.delete.new.self.clauses c.args.trail.now c.args.place c.in_ok-delete.ensures.deleted unused c.requires.search
