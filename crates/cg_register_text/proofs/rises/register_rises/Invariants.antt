use Rattle.cg_register_text.specs.inner.RiseCounting.{CountRises}
use Rattle.cg_register_text.proofs.rises.register_rises.Given as goal

abbrev pub invariant-rows : goal.invariant-rows
invariant-rows l = CountRises l.netlist l.stimulus.rows l._row l.player l.rises.items
