use Rattle.std.proofs.Common.{◌+◌, ◌*◌}
use Rattle.cg_decide.proofs.Quads.{zero_word}
use Rattle.cg_decide.proofs.lanes.zero.Goals as goal

pub returns : goal.returns
returns c = λ s number. record {
  first = zero_word s (4 * number);
  second = zero_word s (4 * number + 1);
  third = zero_word s (4 * number + 2);
  fourth = zero_word s (4 * number + 3);
}
