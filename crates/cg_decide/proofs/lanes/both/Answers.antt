use Rattle.std.proofs.Common.{◌+◌, ◌*◌}
use Rattle.cg_decide.proofs.Quads.{both_is}
use Rattle.cg_decide.proofs.lanes.both.Goals as goal

pub returns : goal.returns
returns c = λ s k number p sound at left right.
    let a = c.args.a in
    let b = c.args.b in
    record {
      first = both_is s k (4 * number) p a.first b.first sound at left.first right.first;
      second = both_is s k (4 * number + 1) p a.second b.second sound at left.second right.second;
      third = both_is s k (4 * number + 2) p a.third b.third sound at left.third right.third;
      fourth = both_is s k (4 * number + 3) p a.fourth b.fourth sound at left.fourth right.fourth;
    }
