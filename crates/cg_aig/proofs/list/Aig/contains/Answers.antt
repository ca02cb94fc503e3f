use Rattle.std.proofs.Common.{ℕ, ◌+◌, ◌/◌, ◌∙◌, ap}
use Rattle.std.specs.Prelude.{nat_le}
use Rattle.cg_aig.proofs.Members.{contains_is}
use Rattle.cg_aig.proofs.list.Aig.contains.Goals as goal

pub returns : goal.returns
returns c =
    ap (λ (n : ℕ). nat_le (n / 2) (c.leaves.result + c.ands.result)) c.number.ensures
    ∙ (ap (λ (n : ℕ). nat_le (c.args.lit / 2) (n + c.ands.result)) c.leaves.ensures.leaves
    ∙ (ap (λ (n : ℕ). nat_le (c.args.lit / 2) (c.args.self.now.number + n)) c.ands.ensures.ands
    ∙ contains_is c.args.self.now c.args.lit c.leaves.ensures.well_formed))
