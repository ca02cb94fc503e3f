-- Trying all bits of the leaves decides a question.
use Rattle.std.proofs.Common.{◌≡◌, ◌↔◌, ℕ, zero, suc, Bool, true, false, not, ◌&&◌, List, [], ◌∷◌, ◌++◌, map, length, refl, sym, ap}
use Rattle.std.proofs.Common.{◌∙◌, arith}
use Rattle.std.specs.List.{list_all}
use Rattle.std.proofs.lemmas.Bool.{both_ways, not-true}
use Rattle.cg_machine.specs.Machine.{IsMachine, MachineData}
use Rattle.cg_claim.specs.LeafBits.{all_bits, free_of, is_never, violates_at}
use Rattle.cg_claim.specs.Leaves.{leaves_of, width_of}
use Rattle.cg_claim.specs.Question.{Question}
use Rattle.cg_claim.specs.Violates.{SidesFit}
use Rattle.cg_claim.specs.inner.Never.{IsNeverViolated}
use Rattle.cg_claim.proofs.GoalBits.{claim_says, free_agrees, free_is, goal_at}

pub trying_says : (m : MachineData) (q : Question) → IsMachine m → SidesFit m q.sides
    → ((bits : List Bool) → length bits ≡ width_of m q → violates_at m q bits ≡ false) ↔ IsNeverViolated m q
trying_says m q good fits = (
  (λ tried. (claim_says m q good fits).0 (λ bits long. goal_at m q good fits bits (free_of m (leaves_of m q) bits) (free_is m q bits) (free_agrees m q bits) ∙ tried bits long)),
  (λ never bits long. never (free_of m (leaves_of m q) bits) (free_is m q bits)),
)

all_parts : {T : Type 0} (test : T → Bool) (xs ys : List T) → list_all test (xs ++ ys) ≡ true → (list_all test xs ≡ true) × (list_all test ys ≡ true)
all_parts test [] ys all = (refl, all)
all_parts test (x ∷ xs) ys all = go (all_parts test xs ys) (test x) refl all
  where
    go : (list_all test (xs ++ ys) ≡ true → (list_all test xs ≡ true) × (list_all test ys ≡ true)) → (b : Bool) → test x ≡ b → (b && list_all test (xs ++ ys)) ≡ true → ((b && list_all test xs) ≡ true) × (list_all test ys ≡ true)
    go rest true is h = rest h
    go rest false is h = absurd (both_ways false refl h)

all_join : {T : Type 0} (test : T → Bool) (xs ys : List T) → list_all test xs ≡ true → list_all test ys ≡ true → list_all test (xs ++ ys) ≡ true
all_join test [] ys a b = b
all_join test (x ∷ xs) ys a b = go (all_join test xs ys) (test x) a
  where
    go : (list_all test xs ≡ true → list_all test ys ≡ true → list_all test (xs ++ ys) ≡ true) → (c : Bool) → (c && list_all test xs) ≡ true → (c && list_all test (xs ++ ys)) ≡ true
    go rest true h = rest h b
    go rest false h = absurd (both_ways false refl h)

all_mapped : {T U : Type 0} (test : U → Bool) (f : T → U) (xs : List T) → list_all test (map f xs) ≡ list_all (λ x. test (f x)) xs
all_mapped test f [] = refl
all_mapped test f (x ∷ xs) = ap (λ b. test (f x) && b) (all_mapped test f xs)

pub all_bits_pass : (n : ℕ) (test : List Bool → Bool) → list_all test (all_bits n) ≡ true → (bits : List Bool) → length bits ≡ n → test bits ≡ true
all_bits_pass zero test all [] long = head (test []) all
  where
    head : (b : Bool) → (b && true) ≡ true → b ≡ true
    head true h = refl
    head false h = h
all_bits_pass zero test all (b ∷ bits) long = absurd (omega arith)
all_bits_pass (suc n) test all [] long = absurd (omega arith)
all_bits_pass (suc n) test all (false ∷ bits) long =
    let parts = all_parts test (map (λ bs. false ∷ bs) (all_bits n)) (map (λ bs. true ∷ bs) (all_bits n)) all in
    all_bits_pass n (λ bs. test (false ∷ bs)) (sym (all_mapped test (λ bs. false ∷ bs) (all_bits n)) ∙ parts.0) bits (omega (arith, long))
all_bits_pass (suc n) test all (true ∷ bits) long =
    let parts = all_parts test (map (λ bs. false ∷ bs) (all_bits n)) (map (λ bs. true ∷ bs) (all_bits n)) all in
    all_bits_pass n (λ bs. test (true ∷ bs)) (sym (all_mapped test (λ bs. true ∷ bs) (all_bits n)) ∙ parts.1) bits (omega (arith, long))

pub pass_all_bits : (n : ℕ) (test : List Bool → Bool) → ((bits : List Bool) → length bits ≡ n → test bits ≡ true) → list_all test (all_bits n) ≡ true
pass_all_bits zero test each = ap (λ b. b && true) (each [] refl)
pass_all_bits (suc n) test each =
    all_join test (map (λ bs. false ∷ bs) (all_bits n)) (map (λ bs. true ∷ bs) (all_bits n))
    (all_mapped test (λ bs. false ∷ bs) (all_bits n) ∙ pass_all_bits n (λ bs. test (false ∷ bs)) (λ bits long. each (false ∷ bits) (ap suc long)))
    (all_mapped test (λ bs. true ∷ bs) (all_bits n) ∙ pass_all_bits n (λ bs. test (true ∷ bs)) (λ bits long. each (true ∷ bits) (ap suc long)))

-- trying says what is claimed
pub is_never_says : (m : MachineData) (q : Question) → IsMachine m → SidesFit m q.sides → (is_never m q ≡ true) ↔ IsNeverViolated m q
unfolding is_never
is_never_says m q good fits =
    let says = trying_says m q good fits in (
      (λ all. says.0 (λ bits long. not-true (violates_at m q bits) (all_bits_pass (width_of m q) (λ bs. not (violates_at m q bs)) all bits long))),
      (λ never. pass_all_bits (width_of m q) (λ bs. not (violates_at m q bs)) (λ bits long. ap not (says.1 never bits long))),
    )
