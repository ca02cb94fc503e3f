-- The bits that leaves stand for, and claims by bits of their leaves.
use Rattle.std.specs.Prelude.{ℕ, suc, Bool, false, List, map, slice_index_or}
use Rattle.std.specs.Option.{option_map_or}
use Rattle.cg_netlist.specs.Circuit.{data_inputs}
use Rattle.cg_machine.specs.Machine.{MachineData, each_register}
use Rattle.cg_claim.specs.declared.leaf.Leaf.{Leaf}
use Rattle.cg_claim.specs.declared.leaf.LeafSource.{LeafSource}
use Rattle.cg_claim.specs.declared.leaf.LeafSource.TheVariants.{Input, Register}
use Rattle.cg_claim.specs.form.Leaves.{leaf_place, leaves_of}
use Rattle.cg_claim.specs.form.Question.{Question}
use Rattle.cg_claim.specs.form.Violates.{Free, violates}

-- the bit of a leaf among bits of leaves, and 0 where it is none
abbrev pub leaf_bit : List Leaf → List Bool → ℕ → LeafSource → Bool
leaf_bit leaves bits i source =
    option_map_or (λ k. slice_index_or bits k false) (leaf_place leaves (record { copy = i; source = source })) false

-- the free bits of which the leaves have these bits, and all others are 0; the last cycle with other bits has the copy of this number
abbrev pub free_of : MachineData → ℕ → List Leaf → List Bool → Free
free_of m other leaves bits =
    record {
      state = each_register m (λ r. leaf_bit leaves bits 0 (Register r));
      inputs = λ i. map (λ y. leaf_bit leaves bits i (Input y)) (data_inputs m.circuit);
      given = λ i. each_register m (λ r. leaf_bit leaves bits i (Register r));
      other = each_register m (λ r. leaf_bit leaves bits other (Register r));
    }

-- whether bits of the leaves violate a claim
abbrev pub violates_at : MachineData → Question → List Bool → Bool
violates_at m q bits = violates m q (free_of m (suc q.after) (leaves_of m q) bits)
