use Rattle.std.proofs.Common.{Bool, subst, sym}
use Rattle.cg_cell.specs.Build.{Evaluates}
use Rattle.cg_cell.specs.EvalCover.{build_on, on_bit}
use Rattle.cg_cell.proofs.Building.{not_made}
use Rattle.cg_cell.proofs.eval_cover.eval_on.Goals as goal

pub returns-else-on : goal.returns-else-on
returns-else-on g c =
    subst (λ (b : Bool). Evaluates g.D.Domain.ops (g.D.Domain.seen c.args.domain.now) (g.D.Domain.seen c.not.new.self) (g.D.Domain.number c.not.result)
    (build_on g.D.Domain.ops b (g.D.Domain.number c.args.any) (g.D.Domain.seen c.args.domain.now))
    (λ bits. on_bit b (g.D.Domain.ops.bit (g.D.Domain.seen c.args.domain.now) bits (g.D.Domain.number c.args.any)))) (sym c.if-on.false)
    (not_made g.D.Domain.ops g.met.D.Domain.lawful (g.D.Domain.seen c.args.domain.now) (g.D.Domain.seen c.not.new.self) (g.D.Domain.number c.args.any)
    (g.D.Domain.number c.not.result) c.requires c.not.ensures)
