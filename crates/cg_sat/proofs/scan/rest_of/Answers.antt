use Rattle.std.proofs.Common.{arith, sym}
use Rattle.cg_sat_state.specs.Trail.{lits_of}
use Rattle.cg_sat.proofs.Scanned.{rest_more}
use Rattle.cg_sat.proofs.scan.rest_of.Goals as goal

pub loop-lit-preserved : goal.loop-lit-preserved
loop-lit-preserved c = rest_more (lits_of c.args.trail.now) c.args.clause.now c.args.given c.loop-lit.more c.loop-lit.left c.has-is_open.result c.is.result
    c.loop-lit.lit-index (omega arith) (rw c.inverse.ensures at (sym c.has-is_open.ensures)) (sym c.is.ensures) c.loop-lit.invariant
