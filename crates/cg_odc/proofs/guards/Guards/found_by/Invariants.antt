use Rattle.cg_odc.specs.inner.Guarding.{AreGuards}
use Rattle.cg_odc.proofs.guards.Guards.found_by.Given as goal

abbrev pub invariant-loop-reg : goal.invariant-loop-reg
invariant-loop-reg l = AreGuards l.machine l.reg l.guards.lists.items
