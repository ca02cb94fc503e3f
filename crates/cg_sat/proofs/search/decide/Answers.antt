use Rattle.std.proofs.Common.{◌+◌, ◌<◌, ◌∷◌, [], ◌++◌, None, rules}
use Rattle.cg_sat_state.specs.declared.trail.Entry.{Entry}
use Rattle.cg_sat.specs.inner.Search.{IsSearch}
use Rattle.cg_sat.specs.inner.Worth.{worth}
use Rattle.cg_sat.proofs.Grown.{search_pushed, worth_more}
use Rattle.cg_sat.proofs.search.decide.Goals as goal

pub returns-in_ok-push-in-Decide-clause-turn : goal.returns-in_ok-push-in-Decide-clause-turn
returns-in_ok-push-in-Decide-clause-turn c =
    let clauses = c.add_units.new.draft.clauses in
    let trail = c.args.trail.now in
    let entry : Entry = record { lit = c.in-Decide.lit; reason = None } in
    let before : IsSearch c.args.problem.now.count clauses trail = search rules in
    let choice = rw c.in-Decide.is at c.in_ok-bits.ensures in
    let more : worth (c.args.problem.now.count + 1) trail < worth (c.args.problem.now.count + 1) (trail ++ entry ∷ []) = worth_more c.args.problem.now.count clauses trail entry before in
    let pushed : IsSearch c.args.problem.now.count clauses (trail ++ entry ∷ []) = search_pushed c.args.problem.now.count clauses trail entry before choice.0 tt choice.1 choice.2 in
    (rw c.in_ok-push-in-Decide.ensures.added more, rw c.in_ok-push-in-Decide.ensures.added pushed)
