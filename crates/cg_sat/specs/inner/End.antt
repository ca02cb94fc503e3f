-- How a search ends.
use Rattle.std.specs.Prelude.{◌≡◌, ℕ, ◌+◌, ◌<◌, List, [], None}
use Rattle.cg_formula.specs.declared.formula.Formula.{Formula}
use Rattle.cg_formula.specs.Satisfiable.{Satisfies}
use Rattle.cg_lrat.specs.Accepted.{clause_fault}
use Rattle.cg_sat.specs.declared.search.End.{End}
use Rattle.cg_sat.specs.declared.search.End.TheVariants.{Satisfied, Refuted}
use Rattle.cg_sat.specs.declared.search.Turn.{Turn}
use Rattle.cg_sat.specs.declared.search.Turn.TheVariants as turns
use Rattle.cg_sat_state.specs.declared.trail.Entry.{Entry}
use Rattle.cg_sat_state.specs.Store.{Store, live_of}
use Rattle.cg_sat.specs.inner.Search.{IsSearch, IsConflict}
use Rattle.cg_sat.specs.inner.Worth.{worth}

-- the bits satisfy the formula, or the hints are those of the empty clause
abbrev pub IsEnd : Formula → Store → End → Type 0
IsEnd formula clauses (Satisfied bits) = Satisfies bits.items formula
IsEnd formula clauses (Refuted hints) = clause_fault (live_of clauses) [] hints.items ≡ None

-- the bits satisfy the formula; or a clause is false, and the trail is the same; or the trail is worth more
abbrev pub IsTurn : Formula → ℕ → Store → List Entry → List Entry → Turn → Type 0
IsTurn formula count clauses old new (turns.Satisfied bits) = Satisfies bits.items formula
IsTurn formula count clauses old new (turns.Conflict place) =
    (new ≡ old) × IsSearch count clauses new × IsConflict clauses new place
IsTurn formula count clauses old new turns.Decided = (worth (count + 1) old < worth (count + 1) new) × IsSearch count clauses new
