use Rattle.std.proofs.Common.{◌≡◌, ℕ, ◌<◌, ◌≤◌, false, get_or, length}
use Rattle.cg_register_text.specs.inner.RiseCounting.{counted}
use Rattle.cg_register_text.proofs.rises.count_rises.Given as goal

abbrev pub invariant-loop-register : goal.invariant-loop-register
invariant-loop-register l = record {
  long : length l.rises ≡ length l.fn.rises;
  done : (k : ℕ) → k < l.register → get_or l.rises k 0 ≡ counted (get_or l.rose k false) (get_or l.fn.rises k 0);
  left : (k : ℕ) → l.register ≤ k → get_or l.rises k 0 ≡ get_or l.fn.rises k 0;
}
