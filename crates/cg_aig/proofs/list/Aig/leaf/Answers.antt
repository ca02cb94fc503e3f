use Rattle.std.proofs.Common.{◌≡◌, ℕ, false, slice_index_or, subst, sym}
use Rattle.cg_aig.specs.Aig.{lit_bit, node_values}
use Rattle.cg_aig.proofs.Ands.{leaf_bit}
use Rattle.cg_aig.proofs.list.Aig.leaf.Goals as goal

pub returns-clause-bit : goal.returns-clause-bit
returns-clause-bit c = λ bits.
    subst (λ (a : ℕ). lit_bit (node_values c.args.self.now bits) a ≡ slice_index_or bits c.args.k false)
    (sym c.of.ensures) (leaf_bit c.args.self.now c.args.k bits c.requires)
