use Rattle.std.proofs.Common.{◌≡◌, length}
use Rattle.cg_sat_state.specs.Trail.{lits_of}
use Rattle.cg_sat.specs.inner.Search.{ShowsBits}
use Rattle.cg_sat.proofs.choose.bits_of.Given as goal

abbrev pub invariant-loop-variable : goal.invariant-loop-variable
invariant-loop-variable l = record {
  long : length l.bits.items ≡ l.variable;
  shows : ShowsBits (lits_of l.trail) l.bits.items;
}
