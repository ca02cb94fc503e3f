-- The goal of a question is never 1 exactly where its claim holds.
use Rattle.std.proofs.Common.{◌≡◌, ◌↔◌, ℕ, zero, suc, ◌+◌, ◌*◌, ◌/◌, ◌%◌, ◌<◌, Bool, true, false, not, List, [], ◌∷◌, map, length}
use Rattle.std.proofs.Common.{IsTrue, slice_index_or, Option, None, Some, refl, sym, ◌∙◌, ap, arith}
use Rattle.std.specs.Option.{option_map_or}
use Rattle.std.proofs.lemmas.Bool.{both_ways, ltb-true}
use Rattle.std.proofs.lemmas.List.{length-map}
use Rattle.cg_aig.specs.Aig.{aig_ops, leaf_bits}
use Rattle.cg_aig.specs.AigLaws.{aig_lawful, bit_of_zero, inverse_stands, is_lit_of, lit_is}
use Rattle.cg_netlist.specs.Circuit.{data_inputs}
use Rattle.cg_machine.specs.Machine.{IsMachine, MachineData}
use Rattle.cg_machine.proofs.Bits.{each_bit, length-each}
use Rattle.cg_netlist.proofs.NetsOf.{beside_at}
use Rattle.cg_claim.specs.Build.{aig_values, claim_run, copies, leaf_list, leaf_value}
use Rattle.cg_claim.specs.LeafBits.{free_of, leaf_bit}
use Rattle.cg_claim.specs.Leaves.{is_source, Leaf, is_reached, leaf_place, leaves_of}
use Rattle.cg_claim.specs.Question.{Copy, Before, After, Changed, Question}
use Rattle.cg_claim.specs.Violates.{IsFree, SidesFit, Free, violates}
use Rattle.cg_claim.specs.declared.leaf.LeafSource.{LeafSource}
use Rattle.cg_claim.specs.declared.leaf.LeafSource.TheVariants.{Input as InputOf, Register as RegisterOf}
use Rattle.cg_claim.specs.inner.Copies.{source_bit}
use Rattle.cg_claim.specs.inner.Never.{IsNeverViolated}
use Rattle.cg_claim.proofs.Goal.{copies_hold, goal_is}
use Rattle.cg_claim.proofs.LeavesFound.{found_bit, leaf_among, place_below}
use Rattle.cg_claim.proofs.CellsLaid.{IsFit}
use Rattle.cg_cell.proofs.Runs.{Has}

-- and-inverter lists are fit
pub aig_fit : (bits : List Bool) → IsFit aig_values bits
aig_fit bits = record {
  lawful = aig_lawful;
  zero = record { has = λ s sound. record { valid = is_lit_of s 0 (record { node = omega arith; sound = sound }); bit = bit_of_zero s bits } };
  inverse = λ s a b h. let st = inverse_stands s a (lit_is s a h.valid) in record { valid = st.valid; bit = st.bit bits ∙ ap not h.bit };
}

leaf_bits_at : (n : ℕ) (bits : List Bool) (k : ℕ) → k < n → slice_index_or (leaf_bits n bits) k false ≡ slice_index_or bits k false
leaf_bits_at zero bits k below = absurd (omega arith)
leaf_bits_at (suc n) [] zero below = refl
leaf_bits_at (suc n) [] (suc k) below = leaf_bits_at n [] k (omega arith)
leaf_bits_at (suc n) (b ∷ bits) zero below = refl
leaf_bits_at (suc n) (b ∷ bits) (suc k) below = leaf_bits_at n bits k (omega arith)

pub leaf_lit : (n k : ℕ) (bits : List Bool) → k < n → Has aig_ops bits (leaf_list n) (2 * (k + 1)) (slice_index_or bits k false)
leaf_lit n k bits below =
    let even : (2 * (k + 1)) % 2 ≡ 0 = omega arith in
    let half : (2 * (k + 1)) / 2 ≡ suc k = omega arith in
    record {
      valid = is_lit_of (leaf_list n) (2 * (k + 1)) (record { node = omega arith; sound = refl });
      bit = rw (even, half) (leaf_bits_at n bits k below);
    }

-- the value of a leaf stands for its bit
leaf_has : (m : MachineData) (leaves : List Leaf) (bits : List Bool) (copy : Copy) (source : LeafSource) → Has aig_ops bits (leaf_list (length leaves)) (leaf_value aig_values leaves copy source) (leaf_bit leaves bits copy source)
leaf_has m leaves bits copy source = go (leaf_place leaves l) refl
  where
    l : Leaf
    l = record { copy = copy; source = source }

    go : (o : Option ℕ) → leaf_place leaves (record { copy = copy; source = source }) ≡ o
        → Has aig_ops bits (leaf_list (length leaves)) (option_map_or (λ k. 2 * (k + 1)) o 0) (option_map_or (λ k. slice_index_or bits k false) o false)
    go None is = (aig_fit bits).zero.has (leaf_list (length leaves)) refl
    go (Some k) is = leaf_lit (length leaves) k bits (place_below leaves (record { copy = copy; source = source }) k is)

module _ (m : MachineData) (q : Question) where
  -- free bits from bits of leaves
  pub free_is : (bits : List Bool) → IsFree m (free_of m (leaves_of m q) bits)
  free_is bits = record {
    s0 = length-each m (λ r. leaf_bit (leaves_of m q) bits Before (RegisterOf r));
    x0 = length-map (data_inputs m.circuit) (λ y. leaf_bit (leaves_of m q) bits Before (InputOf y));
    x1 = length-map (data_inputs m.circuit) (λ y. leaf_bit (leaves_of m q) bits After (InputOf y));
  }

  pub free_agrees : (bits : List Bool) (copy : Copy) (source : LeafSource) → is_source m source ≡ true → is_reached m q copy source ≡ true
      → leaf_bit (leaves_of m q) bits copy source ≡ source_bit m (free_of m (leaves_of m q) bits) copy source
  free_agrees bits Before (InputOf y) is reached = sym (beside_at (λ y. leaf_bit (leaves_of m q) bits Before (InputOf y)) (data_inputs m.circuit) y is)
  free_agrees bits Before (RegisterOf r) is reached = sym (each_bit m (λ r. leaf_bit (leaves_of m q) bits Before (RegisterOf r)) r (ltb-true r (length m.circuit.registers) is))
  free_agrees bits After (InputOf y) is reached = sym (beside_at (λ y. leaf_bit (leaves_of m q) bits After (InputOf y)) (data_inputs m.circuit) y is)
  free_agrees bits After (RegisterOf r) is reached = sym (each_bit m (λ r. leaf_bit (leaves_of m q) bits After (RegisterOf r)) r (ltb-true r (length m.circuit.registers) is))
  free_agrees bits Changed (InputOf y) is reached = absurd (both_ways false refl reached)
  free_agrees bits Changed (RegisterOf r) is reached = sym (each_bit m (λ r. leaf_bit (leaves_of m q) bits Changed (RegisterOf r)) r (ltb-true r (length m.circuit.registers) is))

  module _ (good : IsMachine m) (fits : SidesFit m q.sides) where
    -- the goal at bits of leaves, for any free bits of which these are the leaves' ones
    pub goal_at : (bits : List Bool) (w : Free) → IsFree m w
        → ((copy : Copy) (source : LeafSource) → is_source m source ≡ true → is_reached m q copy source ≡ true → leaf_bit (leaves_of m q) bits copy source ≡ source_bit m w copy source)
        → aig_ops.bit (claim_run m q).domain bits (claim_run m q).answer ≡ violates m q w
    goal_at bits w free agree =
        let s = leaf_list (length (leaves_of m q)) in
        let c = copies aig_values m q (leaves_of m q) s in
        let hold = copies_hold aig_values bits (aig_fit bits) m good q fits w free (leaves_of m q) s
        (λ copy source. (leaf_has m (leaves_of m q) bits copy source).valid)
        (λ copy source is reached. (leaf_has m (leaves_of m q) bits copy source).bit ∙ agree copy source is reached) in
        let sound : IsTrue (aig_ops.is_sound c.domain) = (lit_is c.domain (c.nets0 0) (hold.nets0.valid 0)).sound in
        (goal_is aig_values bits (aig_fit bits) m good q fits w free s c sound hold).has.bit

    -- the goal is never 1 exactly where the question is never violated
    pub claim_says : ((bits : List Bool) → length bits ≡ length (leaves_of m q) → aig_ops.bit (claim_run m q).domain bits (claim_run m q).answer ≡ false) ↔ IsNeverViolated m q
    claim_says = (
      (λ never w free.
          let bits = map (λ (l : Leaf). source_bit m w l.copy l.source) (leaves_of m q) in
          sym (goal_at bits w free (λ copy source is reached. found_bit (λ (l : Leaf). source_bit m w l.copy l.source) (leaves_of m q) (record { copy = copy; source = source }) (leaf_among m q copy source is reached)))
          ∙ never bits (length-map (leaves_of m q) (λ (l : Leaf). source_bit m w l.copy l.source))),
      (λ never bits long. goal_at bits (free_of m (leaves_of m q) bits) (free_is bits) (free_agrees bits) ∙ never (free_of m (leaves_of m q) bits) (free_is bits)),
    )
