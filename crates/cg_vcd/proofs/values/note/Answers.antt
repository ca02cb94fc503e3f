use Rattle.std.proofs.Common.{sym, subst}
use Rattle.std.proofs.Math.ListN.{set}
use Rattle.cg_vcd.specs.inner.StepValues.{Marked}
use Rattle.cg_vcd.proofs.StepEnds.{marked_more, unmarked_out}
use Rattle.cg_vcd.proofs.values.note.Goals as goal

pub returns-clause-marked : goal.returns-clause-marked
returns-clause-marked c =
    subst (Marked (set c.args.marks.now c.args.id _)) (sym c.in_ok-push.ensures.items)
    (marked_more c.args.marks.now c.args.given.now.items c.args.id c.requires.within
    (unmarked_out c.args.marks.now c.args.given.now.items c.args.id c.requires.within c.requires.marked c.if-marks-id.false) c.requires.marked)
