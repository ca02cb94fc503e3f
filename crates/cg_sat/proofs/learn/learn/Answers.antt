use Rattle.std.proofs.Common.{◌≡◌, ◌+◌, ◌-◌, ◌<◌, [], ◌∷◌, ◌∙◌, sym, subst, ap, refl, arith, length, Some, get_or}
use Rattle.std.proofs.Common.{map}
use Rattle.std.specs.List.{slice_get}
use Rattle.cg_formula.specs.Assignments.{IsFalsified}
use Rattle.cg_sat_state.specs.Store.{clause_at}
use Rattle.cg_sat_state.specs.Trail.{lits_of}
use Rattle.std.proofs.lemmas.Option.{slice_get-get_or}
use Rattle.cg_formula.specs.Lits.{inverse}
use Rattle.cg_sat.specs.inner.Learn.{AreClear, IsTop, Gathered, Asserts}
use Rattle.cg_sat.proofs.Marks.{blank}
use Rattle.cg_sat_state.proofs.Store.{clause_within}
use Rattle.cg_sat.proofs.Walk.{start_at, start_none, skip_clear, ends, asserted}
use Rattle.cg_sat.proofs.learn.learn.Goals as goal

pub returns-in_default-last_marked-clause-lesson : goal.returns-in_default-last_marked-clause-lesson
returns-in_default-last_marked-clause-lesson c =
    let clauses = c.args.clauses.now in
    let read : clause_at clauses c.args.conflict ≡ Some c.in-Some.clause.now = c.in-Some.ensures in
    let off : IsFalsified (lits_of c.args.trail.now) c.in-Some.clause.now = let same : c.requires.conflict.clause ≡ c.in-Some.clause.now = cc (c.requires.conflict.is, read) in subst (IsFalsified (lits_of c.args.trail.now)) same c.requires.conflict.off in
    let hints : c.push.new.self.items ≡ (c.args.conflict + 1) ∷ [] = c.in_ok-push.ensures.items ∙ rw (c.clear-2.ensures.items, c.id.ensures) refl in
    let clear : AreClear c.mark.new.marks.items c.args.trail.now 0 (length c.args.trail.now) = subst (λ ms. AreClear ms c.args.trail.now 0 (length c.args.trail.now)) c.as_slice.ensures.value c.in_default-last_marked.ensures in
    ends clauses c.mark.new.marks.items [] ((c.args.conflict + 1) ∷ []) [] c.take_hints.result.items refl (c.take_hints.ensures.hints ∙ rw hints refl)
    (start_none clauses c.args.trail.now c.mark.new.marks.items c.args.conflict c.in-Some.clause.now read off
    c.mark.ensures.marked clear)

pub refute-requires-clause-derives : goal.refute-requires-clause-derives
refute-requires-clause-derives c =
    let clauses = c.args.clauses.now in
    let read : clause_at clauses c.args.conflict ≡ Some c.in-Some.clause.now = c.in-Some.ensures in
    let off : IsFalsified (lits_of c.args.trail.now) c.in-Some.clause.now = let same : c.requires.conflict.clause ≡ c.in-Some.clause.now = cc (c.requires.conflict.is, read) in subst (IsFalsified (lits_of c.args.trail.now)) same c.requires.conflict.off in
    let hints : c.push.new.self.items ≡ (c.args.conflict + 1) ∷ [] = c.in_ok-push.ensures.items ∙ rw (c.clear-2.ensures.items, c.id.ensures) refl in
    let last : IsTop c.mark.new.marks.items c.args.trail.now c.in-Some-last_marked.top = subst (λ ms. IsTop ms c.args.trail.now c.in-Some-last_marked.top) c.as_slice.ensures.value c.in-Some-last_marked.ensures in
    rw (c.clear.ensures.items, hints) (start_at clauses c.args.trail.now c.mark.new.marks.items c.in-Some-last_marked.top c.args.conflict c.in-Some.clause.now read off
    c.mark.ensures.marked last)

pub first_point-requires-clause-derives : goal.first_point-requires-clause-derives
first_point-requires-clause-derives c =
    let clauses = c.args.clauses.now in
    let read : clause_at clauses c.args.conflict ≡ Some c.in-Some.clause.now = c.in-Some.ensures in
    let off : IsFalsified (lits_of c.args.trail.now) c.in-Some.clause.now = let same : c.requires.conflict.clause ≡ c.in-Some.clause.now = cc (c.requires.conflict.is, read) in subst (IsFalsified (lits_of c.args.trail.now)) same c.requires.conflict.off in
    let hints : c.push.new.self.items ≡ (c.args.conflict + 1) ∷ [] = c.in_ok-push.ensures.items ∙ rw (c.clear-2.ensures.items, c.id.ensures) refl in
    let last : IsTop c.mark.new.marks.items c.args.trail.now c.in-Some-last_marked.top = subst (λ ms. IsTop ms c.args.trail.now c.in-Some-last_marked.top) c.as_slice.ensures.value c.in-Some-last_marked.ensures in
    rw (c.clear.ensures.items, hints) (start_at clauses c.args.trail.now c.mark.new.marks.items c.in-Some-last_marked.top c.args.conflict c.in-Some.clause.now read off
    c.mark.ensures.marked last)

pub gather-requires-clause-derives : goal.gather-requires-clause-derives
gather-requires-clause-derives c =
    let point = c.in_ok-at.ensures.point in
    let low = point.low in
    let high = point.high in
    let within = c.in-Some-last_marked.ensures.within in
    skip_clear c.args.clauses.now c.args.trail.now c.keep.new.work.marks.items c.keep.new.work.kept.items c.keep.new.work.hints.items c.in-Some-level_of.from (c.in_ok-at.at - c.in-Some-level_of.from) c.in_ok-at.at
    (omega arith) (omega arith) (λ k entry below above is. c.keep.ensures.fewer entry.lit (point.clear k entry below above is)) c.in_ok-keep.ensures.derives

pub returns-clause-lesson : goal.returns-clause-lesson
returns-clause-lesson c =
    let trail = c.args.trail.now in
    let point = c.in_ok-at.ensures.point in
    let low = point.low in
    let high = point.high in
    let within = c.in-Some-last_marked.ensures.within in
    let inside : c.in_ok-at.at < length trail = omega arith in
    let entry = get_or trail c.in_ok-at.at blank in
    let is : slice_get trail c.in_ok-at.at ≡ Some entry = slice_get-get_or trail c.in_ok-at.at blank inside in
    let none : c.first_point.new.work.kept.items ≡ [] = c.first_point.ensures.kept ∙ c.clear.ensures.items in
    let one : c.keep.new.work.kept.items ≡ entry.lit ∷ [] = c.in_ok-keep.ensures.kept entry is ∙ rw none refl in
    let gathered : Gathered trail c.in-Some-level_of.from c.in_ok-cut.cut (entry.lit ∷ []) c.gather.new.work.kept.items = subst (λ old. Gathered trail c.in-Some-level_of.from c.in_ok-cut.cut old c.gather.new.work.kept.items) one c.in_ok-cut.ensures.gathered in
    let lits = c.in_ok-lits.ensures ∙ ap (map inverse) c.as_slice-2.ensures.value in (
      ends c.args.clauses.now c.gather.new.work.marks.items c.gather.new.work.kept.items c.gather.new.work.hints.items c.in_ok-lits.lits.items c.take_hints-hints.result.items lits c.take_hints-hints.ensures.hints c.in_ok-cut.ensures.derives,
      subst (λ ls. Asserts c.args.clauses.now trail c.in_ok-cut.cut ls) (sym lits) (asserted c.args.clauses.now trail c.in-Some-level_of.from c.in_ok-cut.cut c.in_ok-at.at entry c.gather.new.work.kept.items c.requires.trail is low inside gathered),
    )

pub id-requires : goal.id-requires
id-requires c = clause_within c.args.clauses.now c.args.conflict _ c.in-Some.ensures
