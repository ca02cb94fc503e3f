use Rattle.std.proofs.Common.{◌+◌, ◌<◌, ◌∙◌, refl, sym, subst, arith}
use Rattle.std.specs.Option.{is_some, IfSome}
use Rattle.cg_sat.specs.inner.Search.{IsSearch, IsConflict}
use Rattle.cg_sat.specs.inner.Worth.{weight, worth}
use Rattle.cg_sat.proofs.Worth.{worth_below}
use Rattle.cg_sat.proofs.Chosen.{begin_search, begin_prefix, measure_down}
use Rattle.cg_sat.proofs.search.search.Goals as goal

pub begin-requires : goal.begin-requires
begin-requires c = record {
  search = subst (λ n. IsSearch n c.clauses.result.now c.args.trail.now) (sym c.requires.count)
      (begin_search c.args.problem.now.formula.now c.clauses.result.now c.args.trail.now c.requires.formula (c.clauses.ensures ∙ c.requires.clauses) c.requires.trail);
}

pub search-init : goal.search-init
search-init c = record {
  formula = refl;
  prefix = begin_prefix c.args.problem.now.formula.now c.args.draft.now.clauses c.requires.clauses;
  search = subst (λ cs. IsSearch c.args.problem.now.count cs c.begin.new.trail) c.clauses.ensures c.in_ok-found.ensures.grows.search;
  marks = c.requires.marks;
  found = subst (λ cs. IfSome c.in_ok-found.found (IsConflict cs c.begin.new.trail)) c.clauses.ensures c.in_ok-found.ensures.conflict;
}

pub search-smaller-in-Some : goal.search-smaller-in-Some
search-smaller-in-Some c =
    let count = c.args.problem.now.count in
    let more : worth (count + 1) c.search.trail < worth (count + 1) c.resolve_conflict.new.trail = rw c.in_default-2.is at c.in_ok-hints.ensures.worth in
    let grown = c.in_ok-found-2.ensures.grows.worth in
    measure_down (weight (count + 1)) (worth (count + 1) c.search.trail) (worth (count + 1) c.propagate.new.trail) (is_some c.in_ok-found-2.found) (is_some c.search.found) (omega (arith, more, grown)) (worth_below (count + 1) c.propagate.new.trail)

pub search-smaller : goal.search-smaller
search-smaller c =
    let count = c.args.problem.now.count in
    let turn = rw c.in-Decided.is at c.in_ok-bits.ensures.turn in
    let more : worth (count + 1) c.search.trail < worth (count + 1) c.decide.new.trail = turn.0 in
    let grown = c.in_ok-found-in-Decided.ensures.grows.worth in
    measure_down (weight (count + 1)) (worth (count + 1) c.search.trail) (worth (count + 1) c.propagate-in-Decided.new.trail) (is_some c.in_ok-found-in-Decided.found) (is_some c.search.found) (omega (arith, more, grown)) (worth_below (count + 1) c.propagate-in-Decided.new.trail)
