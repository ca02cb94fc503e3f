use Rattle.std.proofs.Common.{map, take}
use Rattle.cg_cell.specs.Build.{Evaluates}
use Rattle.cg_cell.specs.Term.{term_value}
use Rattle.cg_cell.specs.Eval.{bits_at, build_term}
use Rattle.cg_cell.proofs.EvalCovers.{row_so_far}
use Rattle.cg_cell.proofs.eval_cover.eval_row.Given as goal

abbrev pub invariant-places : goal.invariant-places
invariant-places g l =
    Evaluates g.D.Domain.ops (g.D.Domain.seen l.fn.domain) (g.D.Domain.seen l.domain) (g.D.Domain.number l.answer)
    (build_term g.D.Domain.ops (map g.D.Domain.number l.inputs) (row_so_far (take l.k l.row)) (g.D.Domain.seen l.fn.domain))
    (λ bits. term_value (bits_at g.D.Domain.ops (g.D.Domain.seen l.fn.domain) (map g.D.Domain.number l.inputs) bits) (row_so_far (take l.k l.row)))
