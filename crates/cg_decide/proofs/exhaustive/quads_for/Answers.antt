use Rattle.std.proofs.Common.{◌≤◌, ◌*◌, ◌^◌, ◌-◌, ◌%◌, ℕ, subst, arith}
use Rattle.cg_decide.proofs.Assigned.{enough}
use Rattle.cg_decide.proofs.exhaustive.quads_for.Goals as goal

pub returns-else-leaves-lt8-clause-all : goal.returns-else-leaves-lt8-clause-all
returns-else-leaves-lt8-clause-all c =
    let P : ℕ → Type 0 = λ n. 2 ^ n ≤ 256 * (1 * 2 ^ (c.leaves-leaves.result - 8) % 18446744073709551616) in
    subst P c.leaves-leaves.ensures.leaves (enough c.leaves-leaves.result (omega arith) (omega arith))
