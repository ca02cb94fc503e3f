use Rattle.std.proofs.Common.{◌≡◌, drop, length}
use Rattle.cg_vcd.specs.inner.StepValues.{SameBut}
use Rattle.cg_vcd.specs.inner.Values.{kept}
use Rattle.cg_vcd.proofs.StepEnds.{Unmarked}
use Rattle.cg_vcd.proofs.values.settle.Given as goal

abbrev pub invariant-loop-id : goal.invariant-loop-id
invariant-loop-id l = record {
  count : length l.before ≡ length l.fn.before;
  long : length l.marks ≡ length l.fn.marks;
  unmarked : Unmarked (drop l.id-index l.given) l.marks;
  others : SameBut (drop l.id-index l.given) (kept l.before) (kept l.latest);
}
