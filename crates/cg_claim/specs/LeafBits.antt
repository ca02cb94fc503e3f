-- The bits that leaves stand for, and claims by bits of their leaves.
use Rattle.std.specs.Prelude.{ℕ, zero, suc, Bool, true, false, not, List, [], ◌∷◌, ◌++◌, map, slice_index_or}
use Rattle.std.specs.List.{list_all}
use Rattle.std.specs.Option.{option_map_or}
use Rattle.cg_netlist.specs.Circuit.{data_inputs}
use Rattle.cg_machine.specs.Machine.{MachineData, each_register}
use Rattle.cg_claim.specs.declared.leaf.LeafSource.{LeafSource}
use Rattle.cg_claim.specs.declared.leaf.LeafSource.TheVariants.{Input, Register}
use Rattle.cg_claim.specs.Leaves.{Leaf, leaf_place, leaves_of, width_of}
use Rattle.cg_claim.specs.Question.{Copy, Before, After, Changed, Question}
use Rattle.cg_claim.specs.Violates.{Free, violates}

-- the bit of a leaf among bits of leaves, and 0 where it is none
abbrev pub leaf_bit : List Leaf → List Bool → Copy → LeafSource → Bool
leaf_bit leaves bits copy source =
    option_map_or (λ k. slice_index_or bits k false) (leaf_place leaves (record { copy = copy; source = source })) false

-- the free bits of which the leaves have these bits, and all others are 0
abbrev pub free_of : MachineData → List Leaf → List Bool → Free
free_of m leaves bits = record {
  s0 = each_register m (λ r. leaf_bit leaves bits Before (Register r));
  x0 = map (λ y. leaf_bit leaves bits Before (Input y)) (data_inputs m.circuit);
  free = each_register m (λ r. leaf_bit leaves bits After (Register r));
  x1 = map (λ y. leaf_bit leaves bits After (Input y)) (data_inputs m.circuit);
  other = each_register m (λ r. leaf_bit leaves bits Changed (Register r));
}

-- whether bits of the leaves violate a claim
abbrev pub violates_at : MachineData → Question → List Bool → Bool
violates_at m q bits = violates m q (free_of m (leaves_of m q) bits)

-- all lists of n bits
abbrev pub all_bits : ℕ → List (List Bool)
all_bits zero = [] ∷ []
all_bits (suc n) = map (λ bits. false ∷ bits) (all_bits n) ++ map (λ bits. true ∷ bits) (all_bits n)

-- whether no bits of the leaves violate a claim, found out by trying them all
unfoldable pub is_never : MachineData → Question → Bool
is_never m q = list_all (λ bits. not (violates_at m q bits)) (all_bits (width_of m q))
