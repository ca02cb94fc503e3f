use Rattle.std.proofs.Common.{Bool, map, subst, sym}
use Rattle.std.specs.Prelude.{Option}
use Rattle.std.proofs.lemmas.Result.{IfOk-weaker}
use Rattle.cg_cell.specs.Build.{Evaluates}
use Rattle.cg_cell.specs.Eval.{bits_at}
use Rattle.cg_cell.specs.EvalCover.{build_place, place_bit}
use Rattle.cg_cell.proofs.EvalCovers.{place_joined}
use Rattle.cg_cell.proofs.eval_cover.eval_place.Goals as goal

pub returns-in-Some-clause-built : goal.returns-in-Some-clause-built
returns-in-Some-clause-built g c =
    IfOk-weaker _ _ _
    (λ v m. subst (λ (p : Option Bool). Evaluates g.D.Domain.ops (g.D.Domain.seen c.args.domain.now) (g.D.Domain.seen c.and.new.domain) (g.D.Domain.number v)
    (build_place g.D.Domain.ops (map g.D.Domain.number c.args.inputs.now) c.args.k p (g.D.Domain.number c.args.answer) (g.D.Domain.seen c.args.domain.now))
    (λ bits. place_bit c.args.k p (g.D.Domain.ops.bit (g.D.Domain.seen c.args.domain.now) bits (g.D.Domain.number c.args.answer))
    (bits_at g.D.Domain.ops (g.D.Domain.seen c.args.domain.now) (map g.D.Domain.number c.args.inputs.now) bits))) (sym c.in-Some.is)
    (place_joined g.D.Domain.ops (map g.D.Domain.number c.args.inputs.now) (g.D.Domain.seen c.args.domain.now) (g.D.Domain.seen c.eval_given-given.new.domain)
    (g.D.Domain.seen c.and.new.domain) c.args.k (g.D.Domain.number c.args.answer) (g.D.Domain.number c.eval_given-given.result) (g.D.Domain.number v) c.in-Some.bit
    c.requires.answer c.eval_given-given.ensures m))
    c.and.ensures.built
