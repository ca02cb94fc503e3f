use Rattle.std.proofs.Common.{map, take}
use Rattle.cg_cell.specs.Build.{Evaluates}
use Rattle.cg_cell.specs.Term.{term_value}
use Rattle.cg_cell.specs.Eval.{bits_at, build_term}
use Rattle.cg_cell.specs.EvalCover.{rows_term}
use Rattle.cg_cell.proofs.eval_cover.eval_rows.Given as goal

abbrev pub invariant-rows : goal.invariant-rows
invariant-rows g l =
    Evaluates g.D.Domain.ops (g.D.Domain.seen l.fn.domain) (g.D.Domain.seen l.domain) (g.D.Domain.number l.answer)
    (build_term g.D.Domain.ops (map g.D.Domain.number l.inputs) (rows_term (take l.k l.rows)) (g.D.Domain.seen l.fn.domain))
    (λ bits. term_value (bits_at g.D.Domain.ops (g.D.Domain.seen l.fn.domain) (map g.D.Domain.number l.inputs) bits) (rows_term (take l.k l.rows)))
