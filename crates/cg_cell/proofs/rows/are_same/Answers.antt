use Rattle.std.proofs.Common.{None, arith}
use Rattle.std.proofs.lemmas.List.{ext_get_or}
use Rattle.cg_cell.proofs.rows.are_same.Goals as goal

pub returns : goal.returns
returns c = λ yes. ext_get_or None c.args.some.now c.args.others.now c.if-some-others.false (λ k below. c.places.invariant k (omega (arith, below, c.places-test.false)))
