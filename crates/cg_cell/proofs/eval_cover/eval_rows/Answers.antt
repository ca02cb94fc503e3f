use Rattle.std.proofs.Common.{◌≡◌, ◌<◌, Bool, List, [], get_or, length, map, subst}
use Rattle.std.specs.Prelude.{Option}
use Rattle.std.proofs.lemmas.Result.{err_from_is_err_and}
use Rattle.cg_cell.specs.Build.{Evaluates, Stops}
use Rattle.cg_cell.specs.Eval.{bits_at, build_operator, build_term}
use Rattle.cg_cell.specs.EvalCover.{row_term}
use Rattle.cg_cell.specs.Term.{term_value}
use Rattle.cg_cell.specs.declared.eval.Operator.TheVariants.{Or}
use Rattle.cg_cell.proofs.Building.{keeps_then, stops_first, stops_then}
use Rattle.cg_cell.proofs.EvalCovers.{rows_more, rows_stop}
use Rattle.cg_cell.proofs.Operations.{on_err}
use Rattle.cg_cell.proofs.eval_cover.eval_rows.Goals as goal

pub returns-in_err-next-clause-stopped : goal.returns-in_err-next-clause-stopped
returns-in_err-next-clause-stopped g c =
    let rows = c.args.rows.now in
    let i = c.rows.k in
    let s = g.D.Domain.seen c.args.domain.now in
    let t = g.D.Domain.seen c.rows.domain in
    let u = g.D.Domain.seen c.eval_row.new.domain in
    let inputs = map g.D.Domain.number c.args.inputs.now in
    let same : c.row.result.now ≡ get_or rows i [] = c.row.ensures in
    let below : i < length rows = subst (λ n. i < n) c.len-k-end.ensures.count c.rows-test.true in
    let passed = err_from_is_err_and c.from_residual.result c.from_residual.ensures.1 in
    rw (passed.1, passed.2) (rows_stop g.D.Domain.refuses g.D.Domain.ops inputs rows s t u i (g.D.Domain.number c.rows.answer) c.in_err-next.field-0.0 below c.rows.invariant.builds
    (stops_first g.D.Domain.refuses (build_term g.D.Domain.ops inputs (row_term (get_or rows i [])) t)
    (λ b d. build_operator g.D.Domain.ops Or (g.D.Domain.number c.rows.answer) b d) c.in_err-next.field-0.0 u
    (subst (λ (row : List (Option Bool)). Stops g.D.Domain.refuses (build_term g.D.Domain.ops inputs (row_term row) t) c.in_err-next.field-0.0 u) same c.in_err-next.ensures.stopped)))

pub returns-in_err-answer-clause-stopped : goal.returns-in_err-answer-clause-stopped
returns-in_err-answer-clause-stopped g c =
    let rows = c.args.rows.now in
    let i = c.rows.k in
    let s = g.D.Domain.seen c.args.domain.now in
    let t = g.D.Domain.seen c.rows.domain in
    let u = g.D.Domain.seen c.eval_row.new.domain in
    let inputs = map g.D.Domain.number c.args.inputs.now in
    let same : c.row.result.now ≡ get_or rows i [] = c.row.ensures in
    let below : i < length rows = subst (λ n. i < n) c.len-k-end.ensures.count c.rows-test.true in
    let p = subst (λ (row : List (Option Bool)). Evaluates g.D.Domain.ops t u (g.D.Domain.number c.in_ok-next.next) (build_term g.D.Domain.ops inputs (row_term row) t)
    (λ bits. term_value (bits_at g.D.Domain.ops t inputs bits) (row_term row))) same c.in_ok-next.ensures.built in
    let passed = err_from_is_err_and c.from_residual-in_err-answer.result c.from_residual-in_err-answer.ensures.1 in
    rw (passed.1, passed.2) (rows_stop g.D.Domain.refuses g.D.Domain.ops inputs rows s t (g.D.Domain.seen c.or.new.domain) i (g.D.Domain.number c.rows.answer) c.in_err-answer.field-0.0 below
    c.rows.invariant.builds
    (stops_then g.D.Domain.refuses (build_term g.D.Domain.ops inputs (row_term (get_or rows i [])) t)
    (λ b d. build_operator g.D.Domain.ops Or (g.D.Domain.number c.rows.answer) b d) c.in_err-answer.field-0.0 u (g.D.Domain.seen c.or.new.domain)
    (g.D.Domain.number c.in_ok-next.next) p.builds c.in_err-answer.ensures.stopped))

pub rows-preserved : goal.rows-preserved
rows-preserved g c =
    let rows = c.args.rows.now in
    let i = c.rows.k in
    let s = g.D.Domain.seen c.args.domain.now in
    let t = g.D.Domain.seen c.rows.domain in
    let u = g.D.Domain.seen c.eval_row.new.domain in
    let inputs = map g.D.Domain.number c.args.inputs.now in
    let same : c.row.result.now ≡ get_or rows i [] = c.row.ensures in
    let below : i < length rows = subst (λ n. i < n) c.len-k-end.ensures.count c.rows-test.true in
    let p = subst (λ (row : List (Option Bool)). Evaluates g.D.Domain.ops t u (g.D.Domain.number c.in_ok-next.next) (build_term g.D.Domain.ops inputs (row_term row) t)
    (λ bits. term_value (bits_at g.D.Domain.ops t inputs bits) (row_term row))) same c.in_ok-next.ensures.built in
    rows_more g.D.Domain.ops inputs rows s t u (g.D.Domain.seen c.or.new.domain) i (g.D.Domain.number c.rows.answer) (g.D.Domain.number c.in_ok-next.next)
    (g.D.Domain.number c.in_ok-answer.answer) below c.requires.valid c.rows.invariant p c.in_ok-answer.ensures.built

pub returns-in_err-next-clause-kept : goal.returns-in_err-next-clause-kept
returns-in_err-next-clause-kept g c = on_err _ _ (keeps_then _ _ _ _ c.rows.invariant.stands.keeps c.in_err-next.ensures.kept)

pub returns-in_err-answer-clause-kept : goal.returns-in_err-answer-clause-kept
returns-in_err-answer-clause-kept g c =
    on_err _ _ (keeps_then _ _ _ _ (keeps_then _ _ _ _ c.rows.invariant.stands.keeps c.in_ok-next.ensures.built.stands.keeps) c.in_err-answer.ensures.kept)
