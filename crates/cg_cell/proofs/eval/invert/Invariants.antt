use Rattle.cg_cell.specs.Build.{Evaluates}
use Rattle.cg_cell.specs.Gates.{inverted}
use Rattle.cg_cell.specs.Eval.{build_inverses}
use Rattle.cg_cell.proofs.eval.invert.Given as goal

abbrev pub invariant-signs : goal.invariant-signs
invariant-signs g l =
    Evaluates g.D.Domain.ops (g.D.Domain.seen l.fn.domain) (g.D.Domain.seen l.domain) (g.D.Domain.number l.answer)
    (build_inverses g.D.Domain.ops l.counter (g.D.Domain.number l.fn.a) (g.D.Domain.seen l.fn.domain))
    (λ bits. inverted l.counter (g.D.Domain.ops.bit (g.D.Domain.seen l.fn.domain) bits (g.D.Domain.number l.fn.a)))
