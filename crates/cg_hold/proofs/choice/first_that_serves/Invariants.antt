use Rattle.std.proofs.Common.{◌≡◌, drop}
use Rattle.cg_hold.specs.inner.Choosing.{choice_by}
use Rattle.cg_hold.specs.inner.Looking.{AreMarked}
use Rattle.cg_unroll.specs.Holding.{IsHolding}
use Rattle.cg_hold.proofs.choice.first_that_serves.Given as goal

abbrev pub invariant-loop-place : goal.invariant-loop-place
invariant-loop-place l = record {
  marks : AreMarked l.look.search.now.machine.now l.look.reg l.look.literals.now l.marks;
  holding : IsHolding l.look.search.now.machine.now l.look.reg l.look.search.now.width l.trier.claims;
  left : choice_by l.look.search.now.machine.now l.look.search.now.width l.look.reg (drop l.place l.look.literals.now) ≡ choice_by l.look.search.now.machine.now l.look.search.now.width l.look.reg l.look.literals.now;
}
