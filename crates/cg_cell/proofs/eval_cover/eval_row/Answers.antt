use Rattle.std.proofs.Common.{true, map}
use Rattle.std.proofs.lemmas.Result.{err_from_is_err_and}
use Rattle.cg_cell.proofs.Building.{constant_made, keeps_then}
use Rattle.cg_cell.proofs.Evals.{valid_then}
use Rattle.cg_cell.proofs.EvalCovers.{place_more, place_stops}
use Rattle.cg_cell.proofs.Operations.{on_err}
use Rattle.cg_cell.proofs.eval_cover.eval_row.Goals as goal

pub places-init : goal.places-init
places-init g c =
    constant_made g.D.Domain.ops g.met.D.Domain.lawful (g.D.Domain.seen c.args.domain.now) (g.D.Domain.seen c.constant-answer.new.self) true
    (g.D.Domain.number c.constant-answer.result) c.constant-answer.ensures.sound c.constant-answer.ensures.made

pub eval_place-requires-clause-valid : goal.eval_place-requires-clause-valid
eval_place-requires-clause-valid g c =
    valid_then g.D.Domain.ops (g.D.Domain.seen c.args.domain.now) (g.D.Domain.seen c.places.domain) (map g.D.Domain.number c.args.inputs.now)
    c.places.invariant.stands.keeps c.requires.valid

pub returns-in_err-answer-clause-stopped : goal.returns-in_err-answer-clause-stopped
returns-in_err-answer-clause-stopped g c =
    let passed = err_from_is_err_and c.from_residual.result c.from_residual.ensures.1 in
    rw (passed.1, passed.2) (place_stops g.D.Domain.refuses g.D.Domain.ops (map g.D.Domain.number c.args.inputs.now) c.args.row.now (g.D.Domain.seen c.args.domain.now)
    (g.D.Domain.seen c.places.domain) (g.D.Domain.seen c.eval_place.new.domain) c.places.k (g.D.Domain.number c.places.answer) c.in_err-answer.field-0.0
    c.places-test.true c.places.invariant.builds c.in_err-answer.ensures.stopped)

pub places-preserved : goal.places-preserved
places-preserved g c =
    place_more g.D.Domain.ops (map g.D.Domain.number c.args.inputs.now) c.args.row.now (g.D.Domain.seen c.args.domain.now) (g.D.Domain.seen c.places.domain)
    (g.D.Domain.seen c.eval_place.new.domain) c.places.k (g.D.Domain.number c.places.answer) (g.D.Domain.number c.in_ok-answer.answer)
    c.places-test.true c.requires.valid c.places.invariant c.in_ok-answer.ensures.built

pub returns-in_err-answer-clause-kept : goal.returns-in_err-answer-clause-kept
returns-in_err-answer-clause-kept g c = on_err _ _ (keeps_then _ _ _ _ c.places.invariant.stands.keeps c.in_err-answer.ensures.kept)
