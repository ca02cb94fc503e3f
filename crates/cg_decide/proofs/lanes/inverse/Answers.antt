use Rattle.std.proofs.Common.{◌+◌, ◌*◌, sym, subst}
use Rattle.cg_aig.specs.Aig.{inverse}
use Rattle.cg_decide.specs.inner.Assignments.{IsWord}
use Rattle.cg_decide.proofs.Quads.{other_is}
use Rattle.cg_decide.proofs.lanes.inverse.Goals as goal

pub returns : goal.returns
returns c = λ s literal number is.
    let q = c.args.quad in
    record {
      first = subst (IsWord s (inverse literal) (4 * number)) (sym c.other.ensures) (other_is s literal (4 * number) q.first is.first);
      second = subst (IsWord s (inverse literal) (4 * number + 1)) (sym c.other-2.ensures) (other_is s literal (4 * number + 1) q.second is.second);
      third = subst (IsWord s (inverse literal) (4 * number + 2)) (sym c.other-3.ensures) (other_is s literal (4 * number + 2) q.third is.third);
      fourth = subst (IsWord s (inverse literal) (4 * number + 3)) (sym c.other-4.ensures) (other_is s literal (4 * number + 3) q.fourth is.fourth);
    }
