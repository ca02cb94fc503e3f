use Rattle.std.proofs.Common.{◌≡◌, ◌<◌, arith, length, None, get_or}
use Rattle.std.proofs.lemmas.Option.{slice_get-get_or}
use Rattle.cg_sat_state.specs.Store.{clause_at}
use Rattle.cg_sat.proofs.Marks.{blank}
use Rattle.cg_sat_state.proofs.Store.{clause_within}
use Rattle.cg_sat.proofs.Walk.{derives_resolve, implied_at}
use Rattle.cg_sat.proofs.learn.resolve.Goals as goal

pub unreachable-requires : goal.unreachable-requires
unreachable-requires c =
    let implied = c.shortest-place.ensures _ (implied_at c.args.clauses.now c.args.trail.now c.args.at c.args.reason c.requires.within c.requires.stands c.requires.trail) in
    let none : clause_at c.args.clauses.now c.shortest-place.result ≡ None = rw c.in_default.is at c.get.ensures in
    let some = implied.is in
    cc

pub id-requires : goal.id-requires
id-requires c = clause_within c.args.clauses.now c.shortest-place.result _ c.in-Some.ensures

pub mark-requires : goal.mark-requires
mark-requires c lit e = c.requires.named.in_clauses c.shortest-place.result c.in-Some.clause.now lit c.in-Some.ensures e

pub index_mut-requires : goal.index_mut-requires
index_mut-requires c =
    let inside : (get_or c.args.trail.now c.args.at blank).lit.variable < length c.args.work.now.marks.items = c.requires.named.in_trail c.args.at _ (slice_get-get_or c.args.trail.now c.args.at blank c.requires.within) in
    omega (arith, inside, c.mark.ensures.len)

pub returns-clause-derives : goal.returns-clause-derives
returns-clause-derives c =
    let implied = c.shortest-place.ensures _ (implied_at c.args.clauses.now c.args.trail.now c.args.at c.args.reason c.requires.within c.requires.stands c.requires.trail) in
    let is = slice_get-get_or c.args.trail.now c.args.at blank c.requires.within in
    rw (c.in_ok-push.ensures.items, c.id.ensures) (derives_resolve c.args.clauses.now c.args.trail.now c.args.work.now.marks.items c.mark.new.marks.items c.args.work.now.kept.items c.args.work.now.hints.items c.args.at c.shortest-place.result _ c.in-Some.clause.now
    is c.requires.trail implied c.in-Some.ensures c.mark.ensures.marked c.mark.ensures.stay c.requires.derives)
