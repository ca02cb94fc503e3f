-- Each leaf of a question stands for a data input or a register that is there.
use Rattle.std.proofs.Common.{◌≡◌, ℕ, zero, suc, ◌+◌, ◌<◌, Bool, true, false, cond, List, [], ◌∷◌, ◌++◌, map, length, nat_lt}
use Rattle.std.proofs.Common.{slice_get, Some, refl, subst, arith}
use Rattle.std.specs.List.{filter}
use Rattle.std.proofs.lemmas.Bool.{lt-ltb}
use Rattle.std.proofs.lemmas.Option.{none-some, same_Some}
use Rattle.cg_netlist.specs.Circuit.{data_inputs}
use Rattle.cg_net.proofs.Members.{member_at}
use Rattle.cg_machine.specs.Machine.{MachineData}
use Rattle.cg_machine.proofs.Lists.{below_range}
use Rattle.cg_claim.specs.declared.leaf.LeafSource.TheVariants.{Input, Register}
use Rattle.cg_claim.specs.Leaves.{Leaf, is_reached, is_source, leaves_at, leaves_of, sources}
use Rattle.cg_claim.specs.Question.{Before, After, Changed, Copy, Question}
use Rattle.cg_claim.specs.Reach.{registers_of}
use Rattle.cg_claim.proofs.LeafOrder.{leaf}

-- each element has a property
abbrev Each : {X : Type 0} → (X → Type 0) → List X → Type 0
Each P xs = (k : ℕ) (x : _) → slice_get xs k ≡ Some x → P x

each_append : {X : Type 0} (P : X → Type 0) (xs ys : List X) → Each P xs → Each P ys → Each P (xs ++ ys)
each_append P [] ys first second k x at = second k x at
each_append P (z ∷ xs) ys first second zero x at = first 0 x at
each_append P (z ∷ xs) ys first second (suc k) x at = each_append P xs ys (λ j. first (suc j)) second k x at

each_map : {X Y : Type 0} (P : Y → Type 0) (f : X → Y) (xs : List X) → Each (λ x. P (f x)) xs → Each P (map f xs)
each_map P f [] each k y at = absurd (none-some y at)
each_map P f (x ∷ xs) each zero y at = subst P (same_Some (f x) y at) (each 0 x refl)
each_map P f (x ∷ xs) each (suc k) y at = each_map P f xs (λ j. each (suc j)) k y at

each_filter : {X : Type 0} (P : X → Type 0) (test : X → Bool) (xs : List X) → Each P xs → Each P (filter test xs)
each_filter P test [] each = each
each_filter P test (x ∷ xs) each = go (each_filter P test xs (λ j. each (suc j))) (test x)
  where
    go : Each P (filter test xs) → (b : Bool) → Each P (cond b (x ∷ filter test xs) (filter test xs))
    go rest true zero y at = each 0 y at
    go rest true (suc k) y at = rest k y at
    go rest false k y at = rest k y at

module _ (m : MachineData) where
  each_source : Each (λ s. is_source m s ≡ true) (sources m)
  each_source =
      each_append (λ s. is_source m s ≡ true) (map Input (data_inputs m.circuit)) (map Register (registers_of m))
      (each_map (λ s. is_source m s ≡ true) Input (data_inputs m.circuit) (λ k y at. member_at (data_inputs m.circuit) k y at))
      (each_map (λ s. is_source m s ≡ true) Register (registers_of m) (λ k r at. register_there r (below_range (length m.circuit.registers) 0 r (member_at (registers_of m) k r at))))
    where
      register_there : (r : ℕ) → r < 0 + length m.circuit.registers → nat_lt r (length m.circuit.registers) ≡ true
      register_there r below = lt-ltb r (length m.circuit.registers) (omega (arith, below))

  each_leaf : (q : Question) (copy : Copy) → Each (λ l. is_source m l.source ≡ true) (leaves_at m q copy)
  each_leaf q copy = each_map (λ (l : Leaf). is_source m l.source ≡ true) (leaf copy) (filter (is_reached m q copy) (sources m)) (each_filter (λ s. is_source m s ≡ true) (is_reached m q copy) (sources m) each_source)

  pub leaf_source : (q : Question) (k : ℕ) (l : Leaf) → slice_get (leaves_of m q) k ≡ Some l → is_source m l.source ≡ true
  leaf_source q =
      each_append (λ (l : Leaf). is_source m l.source ≡ true) (leaves_at m q Before ++ leaves_at m q After) (leaves_at m q Changed)
      (each_append (λ (l : Leaf). is_source m l.source ≡ true) (leaves_at m q Before) (leaves_at m q After) (each_leaf q Before) (each_leaf q After)) (each_leaf q Changed)
