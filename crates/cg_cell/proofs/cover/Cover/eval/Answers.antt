use Rattle.std.proofs.Common.{Bool, List, ℕ, map, subst}
use Rattle.std.specs.Prelude.{Option}
use Rattle.cg_cell.specs.Build.{Evaluates}
use Rattle.cg_cell.specs.Term.{term_value}
use Rattle.cg_cell.specs.Eval.{bits_at, build_term}
use Rattle.cg_cell.specs.EvalCover.{build_on, on_bit, rows_term}
use Rattle.cg_cell.proofs.EvalCovers.{cover_built}
use Rattle.cg_cell.proofs.cover.Cover.eval.Goals as goal

pub returns-clause-built : goal.returns-clause-built
returns-clause-built g c =
    let o = g.D.Domain.ops in
    let inputs : List ℕ = map g.D.Domain.number c.args.inputs.now in
    let s = g.D.Domain.seen c.args.domain.now in
    let t = g.D.Domain.seen c.eval_rows.new.domain in
    cover_built g.D.Domain.number o c.args.inputs.now c.args.self.now s t (g.D.Domain.seen c.eval_on.new.domain)
    (g.D.Domain.number c.in_ok-any.any) (g.D.Domain.number c.eval_on.result) c.requires.wide
    (subst (λ (rows : List (List (Option Bool))). Evaluates o s t (g.D.Domain.number c.in_ok-any.any) (build_term o inputs (rows_term rows) s)
    (λ bits. term_value (bits_at o s inputs bits) (rows_term rows))) c.rows.ensures.rows c.in_ok-any.ensures.built)
    (subst (λ (b : Bool). Evaluates o t (g.D.Domain.seen c.eval_on.new.domain) (g.D.Domain.number c.eval_on.result)
    (build_on o b (g.D.Domain.number c.in_ok-any.any) t) (λ bits. on_bit b (o.bit t bits (g.D.Domain.number c.in_ok-any.any)))) c.on.ensures c.eval_on.ensures)
