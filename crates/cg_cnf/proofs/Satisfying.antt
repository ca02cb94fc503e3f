-- A formula is satisfiable exactly where its goal can be 1, and keeps its bounds.
use Rattle.std.proofs.Common.{◌≡◌, ◌<◌, ◌≤◌, ℕ, zero, suc, ◌+◌, ◌*◌, Bool, true, false, ◌&&◌, ◌||◌, List, [], ◌∷◌, ◌++◌, refl, sym}
use Rattle.std.proofs.Common.{◌∙◌, ap, subst, arith, IsTrue, length, take, drop, length-drop}
use Rattle.std.specs.Prelude.{Some, slice_get, slice_index_or, ◌==◌}
use Rattle.std.specs.List.{AllByRecursion, list_all}
use Rattle.std.proofs.lemmas.Bool.{ne_eqb}
use Rattle.std.proofs.lemmas.List.{length-take-le, take_more}
use Rattle.std.proofs.lemmas.Option.{get_or_from_slice_get, slice_get_within}
use Rattle.cg_cell.specs.Domain.{Seen}
use Rattle.cg_aig.specs.Aig as aig
use Rattle.cg_aig.specs.Aig.{IsAig, aig_ops, are_pairs, is_pair, leaf_bits, node_values, nodes, values_from}
use Rattle.cg_aig.specs.AigLaws.{bit_of_zero, lit_is}
use Rattle.cg_aig.specs.Values.{and_left, and_right, leaf_bits_all, length-leaf_bits, length-node_values, pair_is}
use Rattle.cg_formula.specs.declared.formula.Clause.{Clause}
use Rattle.cg_formula.specs.Bounds.{IsClause, IsFormula}
use Rattle.cg_formula.specs.Bounds as bounds
use Rattle.cg_formula.specs.Satisfiable.{IsSatisfiable, Satisfies, clause_bit, lit_bit}
use Rattle.cg_cnf.specs.Clauses.{IsOneAt, clause_of, clauses_from, formula_of, goal_clauses, lit_of, node_clauses}
use Rattle.cg_cnf.proofs.Clauses.{AreAnds, clauses_hold, clauses_mean, lit_same, values_are, values_unique}

both_false : (b : Bool) → ((b || false) && true) ≡ b
both_false true = refl
both_false false = refl

-- a goal that is no constant stands alone
goal_alone : (g : ℕ) → goal_clauses (suc (suc g)) ≡ clause_of (lit_of (suc (suc g)) ∷ []) ∷ []
goal_alone g =
    let zero_not : (suc (suc g) == 0) ≡ false = ne_eqb (suc (suc g)) 0 (λ e. omega arith) in
    let one_not : (suc (suc g) == 1) ≡ false = ne_eqb (suc (suc g)) 1 (λ e. omega arith) in
    rw (zero_not, one_not) refl

-- what satisfies the goal's clauses makes the goal 1
goal_means : (model : List Bool) (g : ℕ) → list_all (clause_bit model) (goal_clauses g) ≡ true → aig.lit_bit (false ∷ model) g ≡ true
goal_means model zero h = absurd cc
goal_means model (suc zero) h = refl
goal_means model (suc (suc g)) h =
    sym (lit_same model (suc (suc g)) (omega arith))
    ∙ (sym (both_false (lit_bit model (lit_of (suc (suc g))))) ∙ (sym (ap (list_all (clause_bit model)) (goal_alone g)) ∙ h))

goal_holds : (model : List Bool) (g : ℕ) → aig.lit_bit (false ∷ model) g ≡ true → list_all (clause_bit model) (goal_clauses g) ≡ true
goal_holds model zero h = h
goal_holds model (suc zero) h = refl
goal_holds model (suc (suc g)) h =
    ap (list_all (clause_bit model)) (goal_alone g)
    ∙ (both_false (lit_bit model (lit_of (suc (suc g)))) ∙ (lit_same model (suc (suc g)) (omega arith) ∙ h))

take_first : (n : ℕ) (model : List Bool) → take (1 + n) (false ∷ model) ≡ false ∷ take n model
take_first n model = let e : 1 + n ≡ suc n = omega arith in ap (λ k. take k (false ∷ model)) e

headed : (values : List Bool) → 0 < length values → slice_index_or values 0 false ≡ false → false ∷ drop 1 values ≡ values
headed [] h e = absurd (omega arith)
headed (v ∷ values) h e = ap (λ b. b ∷ values) (sym e)

-- the leaf bits of a model
pub one_from_model : (s : Seen) (g : ℕ) (model : List Bool) → IsTrue (aig_ops.is_valid s g) → Satisfies model (formula_of s g) →
    IsOneAt s g (take s.number model)
one_from_model s g model valid h =
    let sound = (lit_is s g valid).sound in
    let long = h.each_variable in
    let bits = take s.number model in
    let n : length bits ≡ s.number = length-take-le s.number model (omega arith) in
    let leaves : leaf_bits s.number bits ≡ bits = ap (λ k. leaf_bits k bits) (sym n) ∙ leaf_bits_all bits in
    let start = false ∷ leaf_bits s.number bits in
    let count : length start ≡ 1 + s.number = let e = length-leaf_bits s.number bits in omega arith in
    let mean = clauses_mean model (1 + s.number) s.pairs (goal_clauses g) (omega arith) sound h.each_clause in
    let first : take (length start) (false ∷ model) ≡ start =
    ap (λ k. take k (false ∷ model)) count ∙ (take_first s.number model ∙ ap (λ l. false ∷ l) (sym leaves)) in
    let same : node_values s bits ≡ false ∷ model =
    values_unique (false ∷ model) start s.pairs (subst (λ k. IsTrue (are_pairs k s.pairs)) (sym count) sound)
    (subst (λ k. AreAnds (false ∷ model) k s.pairs) (sym count) mean.ands) first (omega arith) in
    record { each_leaf = n; one = ap (λ l. aig.lit_bit l g) same ∙ goal_means model g mean.later }

-- the values of nodes are a model
pub model_from_one : (s : Seen) (g : ℕ) (bits : List Bool) → IsTrue (aig_ops.is_valid s g) → IsOneAt s g bits
    → IsSatisfiable (formula_of s g)
model_from_one s g bits valid h =
    let sound = (lit_is s g valid).sound in
    let start = false ∷ leaf_bits s.number bits in
    let values = node_values s bits in
    let model = drop 1 values in
    let count : length start ≡ 1 + s.number = let e = length-leaf_bits s.number bits in omega arith in
    let long = length-node_values s bits in
    let whole : false ∷ model ≡ values = headed values (omega arith) (bit_of_zero s bits) in
    let ands =
    subst (λ k. AreAnds values k s.pairs) count (values_are start s.pairs (subst (λ k. IsTrue (are_pairs k s.pairs)) (sym count) sound)) in (
      model,
      record {
        each_variable = let e = length-drop 1 values in omega arith;
        each_clause = clauses_hold model (1 + s.number) s.pairs (goal_clauses g) (omega arith) sound
            (subst (λ l. AreAnds l (1 + s.number) s.pairs) (sym whole) ands)
            (goal_holds model g (ap (λ l. aig.lit_bit l g) whole ∙ h.one));
      },
    )

-- every variable of a literal is a node but the constant
lit_within : (n a : ℕ) → 1 < a → a < 2 * (n + 1) → bounds.IsLit n (lit_of a)
lit_within n a h k = record { from_one = omega arith; within = omega arith }

both_within : (n : ℕ) (xs ys : List Clause) → AllByRecursion (IsClause n) xs → AllByRecursion (IsClause n) ys
    → AllByRecursion (IsClause n) (xs ++ ys)
both_within n [] ys h k = k
both_within n (x ∷ xs) ys h k = (h.0, both_within n xs ys h.1 k)

clauses_within : (n c : ℕ) (pairs : List (ℕ × ℕ)) → 0 < c → IsTrue (are_pairs c pairs) → c + length pairs ≤ n + 1 →
    AllByRecursion (IsClause n) (clauses_from c pairs)
clauses_within n c [] h s k = tt
clauses_within n c (p ∷ pairs) h s k =
    let pair = pair_is c p (and_left (is_pair c p) _ s) in
    let low = pair.no_constant in let order = pair.ordered in let high = pair.earlier in
    let left = lit_within n p.0 low (omega arith) in
    let right = lit_within n p.1 (omega arith) (omega arith) in
    let node : (1 ≤ c) × (c ≤ n) = (omega arith, omega arith) in (
      (record { from_one = node.0; within = node.1 }, (left, tt)),
      (
        (record { from_one = node.0; within = node.1 }, (right, tt)),
        (
          (record { from_one = node.0; within = node.1 }, (record { from_one = left.from_one; within = left.within }, (record { from_one = right.from_one; within = right.within }, tt))),
          clauses_within n (c + 1) pairs (omega arith) (and_right (is_pair c p) _ s) (omega arith),
        ),
      ),
    )

goal_within : (n g : ℕ) → g < 2 * (n + 1) → AllByRecursion (IsClause n) (goal_clauses g)
goal_within n zero h = (tt, tt)
goal_within n (suc zero) h = tt
goal_within n (suc (suc g)) h =
    subst (AllByRecursion (IsClause n)) (sym (goal_alone g)) ((lit_within n (suc (suc g)) (omega arith) h, tt), tt)

pub formula_bounds : (s : Seen) (g : ℕ) → IsAig s → IsTrue (aig_ops.is_valid s g) → IsFormula (formula_of s g)
formula_bounds s g a valid =
    let node = (lit_is s g valid).node in
    let small = a.small in
    record {
      few = omega arith;
      clauses = both_within (s.number + length s.pairs) (clauses_from (1 + s.number) s.pairs) (goal_clauses g)
          (clauses_within (s.number + length s.pairs) (1 + s.number) s.pairs (omega arith) a.sound (omega arith))
          (goal_within (s.number + length s.pairs) g (omega arith));
    }

-- the clauses of one more and-node
pub clauses_more : (c : ℕ) (pairs : List (ℕ × ℕ)) (p : ℕ × ℕ) →
    clauses_from c (pairs ++ p ∷ []) ≡ clauses_from c pairs ++ node_clauses (c + length pairs) p
clauses_more c [] p = let e : c ≡ c + 0 = omega arith in ap (λ k. node_clauses k p) e
clauses_more c (q ∷ pairs) p =
    let e : (c + 1) + length pairs ≡ c + suc (length pairs) = omega arith in
    ap (λ l. node_clauses c q ++ l) (clauses_more (c + 1) pairs p ∙ ap (λ k. clauses_from (c + 1) pairs ++ node_clauses k p) e)

pub nodes_more : (number k first : ℕ) (pairs : List (ℕ × ℕ)) (p : ℕ × ℕ) (old new : List Clause) → first ≡ 1 + number →
    old ≡ clauses_from (1 + number) (take k pairs) → slice_get pairs k ≡ Some p → new ≡ old ++ node_clauses (first + k) p →
    new ≡ clauses_from (1 + number) (take (k + 1) pairs)
nodes_more number k first pairs p old new f e at m =
    let h = slice_get_within pairs k p at in
    let n : (1 + number) + length (take k pairs) ≡ first + k = let l = length-take-le k pairs (omega arith) in omega arith in
    let more : take (k + 1) pairs ≡ take k pairs ++ p ∷ [] =
    take_more pairs k (0, 0) h ∙ ap (λ q. take k pairs ++ q ∷ []) (get_or_from_slice_get pairs k p (0, 0) at) in
    m ∙ (ap (λ l. l ++ node_clauses (first + k) p) e
    ∙ sym (ap (clauses_from (1 + number)) more ∙ (clauses_more (1 + number) (take k pairs) p
    ∙ ap (λ i. clauses_from (1 + number) (take k pairs) ++ node_clauses i p) n)))
