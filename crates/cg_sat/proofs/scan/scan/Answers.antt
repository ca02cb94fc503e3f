use Rattle.std.proofs.Common.{arith, sym, ◌∙◌}
use Rattle.cg_sat_state.specs.Trail.{lits_of}
use Rattle.cg_sat.proofs.Scanned.{more_given, more_false}
use Rattle.cg_sat.proofs.scan.scan.Goals as goal
use Rattle.cg_sat.proofs.scan.scan.Goals.{then-not-has+then-is, else-not-has}

pub loop-lit-preserved : goal.loop-lit-preserved
loop-lit-preserved c = elim c.if-not-has.branch [
  | then-not-has+then-is w ↦ record {
    finds = rw w.found-is (more_given (lits_of c.args.trail.now) c.args.clause.now c.args.given c.loop-lit.found c.loop-lit.lit-index (omega arith) (sym w.is.ensures ∙ w.if-is.true) c.loop-lit.invariant.early c.loop-lit.invariant.finds);
    early = λ other e. cc;
  }
  | else-not-has w ↦ record {
    finds = rw w.found-is (more_false (lits_of c.args.trail.now) c.args.clause.now c.args.given c.loop-lit.found c.loop-lit.lit-index (omega arith) (rw c.inverse.ensures at (sym c.has.ensures ∙ w.if-not-has.false)) c.loop-lit.invariant.finds);
    early = λ other e. c.loop-lit.invariant.early other (sym w.found-is ∙ e);
  }
]
