-- Leaves as the program shows them.
use Rattle.std.specs.Prelude.{ℕ}
use Rattle.cg_claim.specs.declared.leaf.Leaf.{Leaf}
use Rattle.cg_claim.specs.declared.leaf.LeafSource.TheVariants.{Input, Register}

-- a data input or a register as a leaf of the copy of this number
abbrev pub input_leaf : ℕ → ℕ → Leaf
input_leaf copy y = record { copy = copy; source = Input y }

abbrev pub register_leaf : ℕ → ℕ → Leaf
register_leaf copy r = record { copy = copy; source = Register r }
