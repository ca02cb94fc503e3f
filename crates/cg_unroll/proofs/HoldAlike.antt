-- The hold claims of one register are built alike up to the last `and` of the goal, whatever the literal of the cone.
use Rattle.std.proofs.Common.{◌≡◌, ℕ, ◌+◌, ◌-◌, ◌==◌, Bool, true, false, ◌||◌, cond, if◌then◌else◌, List, [], ◌∷◌, ◌++◌, length, nat_eq, Option, Some, refl, sym}
use Rattle.std.proofs.Common.{◌∙◌, ap, subst, arith, inl, inr}
use Rattle.std.specs.List.{filter, flat_map}
use Rattle.std.specs.Option.{option_to_list}
use Rattle.std.proofs.lemmas.Bool.{eqb-true, or_cases, or_right}
use Rattle.cg_aig.specs.Aig.{aig_and, aig_ops, and_with, in_order, inverse, simple}
use Rattle.cg_aig.specs.Values.{inverse_even, inverse_odd, parity}
use Rattle.cg_cell.specs.Build.{Run, build_xor, chain}
use Rattle.cg_cell.specs.Domain.{Made, Seen, after}
use Rattle.cg_claim.proofs.HoldWidths.{hold_leaves}
use Rattle.cg_claim.specs.Build.{Copies, Table, aig_values, after_state_table, after_table, changed_state}
use Rattle.cg_claim.specs.Build.{changed_table, claim_run, copies, goal_run, lay, lay_states, leaf_list, leaf_value, literal_of}
use Rattle.cg_claim.specs.Build.{next_run, put_run, reached_cells, start_nets, state_run}
use Rattle.cg_claim.specs.Leaves.{Leaf, leaves_of}
use Rattle.cg_claim.specs.Question.{After, Before, held_question, hold_question}
use Rattle.cg_claim.specs.Reach.{after_states, before_nets, inputs_of_register, next_nets, origin_nets, registers_of}
use Rattle.cg_claim.specs.declared.leaf.LeafSource.TheVariants.{Input as InputOf, Register as RegisterOf}
use Rattle.cg_machine.specs.Claims.{Literal}
use Rattle.cg_machine.specs.Machine.{IsMachine, MachineData, enable_of, walk_of}
use Rattle.cg_netlist_cone.proofs.Cones.{cone_has, cone_is, from_way}
use Rattle.cg_net.proofs.Members.{is_in_left}
use Rattle.cg_netlist.specs.Circuit.{LogicCell}
use Rattle.cg_net.specs.NetSets.{is_in}
use Rattle.cg_netlist_cone.specs.Cone.{IsInCone, cone_of}
use Rattle.std.specs.Cmp.{both_ways as same_bools}

-- only the inverse of 0 is 1
zero_of : (x : ℕ) → inverse x ≡ 1 → x ≡ 0
zero_of x is = elim (parity x) [
  | inl even ↦ let e : x + 1 ≡ 1 = sym (inverse_even x even) ∙ is in omega (arith, e)
  | inr odd ↦ let e : x - 1 ≡ 1 = sym (inverse_odd x odd) ∙ is in absurd (omega (arith, e, odd))
]

-- an `and` with the constant 1 is its other operand
pub simple_one : (x : ℕ) → simple 1 x ≡ Some x
simple_one x = go (x == 0 || 1 == inverse x) refl
  where
    go : (b : Bool) → (x == 0 || 1 == inverse x) ≡ b → (if b then Some 0 else Some x) ≡ Some x
    go false is = refl
    go true is = elim (or_cases (x == 0) (1 == inverse x) is) [
      | inl zero ↦ ap (λ n. Some n) (sym (eqb-true x 0 zero))
      | inr one ↦ ap (λ n. Some n) (sym (zero_of x (sym (eqb-true 1 (inverse x) one))))
    ]

one_and : (s : Seen) (x : ℕ) → aig_and s 1 x ≡ record { answer = x; pairs = s.pairs }
one_and s x = ap (λ (o : Option ℕ). and_with o s (in_order 1 x)) (simple_one x)

same_cells : (f g : LogicCell ℕ → Bool) (cells : List (LogicCell ℕ)) → ((cell : LogicCell ℕ) → f cell ≡ g cell) → filter f cells ≡ filter g cells
same_cells f g [] same = refl
same_cells f g (cell ∷ cells) same = ap (λ b. cond b (cell ∷ filter f cells) (filter f cells)) (same cell) ∙ ap (λ rest. cond (g cell) (cell ∷ rest) rest) (same_cells f g cells same)

module _ (m : MachineData) (good : IsMachine m) (r : ℕ) where
  abbrev leaves : List Leaf
  leaves = leaves_of m (held_question r)

  abbrev roots : List ℕ
  roots = (next_nets m r ++ []) ++ flat_map (origin_nets m (held_question r)) (filter (after_states m (held_question r)) (registers_of m))

  -- the nets of the cone are reached without the literal
  pub in_cone : (l : Literal) → is_in (cone_of (walk_of m) (inputs_of_register m r)) l.0 ≡ true → is_in (cone_of (walk_of m) roots) l.0 ≡ true
  in_cone l among =
      let way : IsInCone m.circuit.cells (inputs_of_register m r) l.0 = (cone_is m.circuit.cells (walk_of m) good.walk (inputs_of_register m r) l.0).0 among in
      let root : is_in roots way.root ≡ true = is_in_left (next_nets m r ++ []) (flat_map (origin_nets m (held_question r)) (filter (after_states m (held_question r)) (registers_of m))) way.root
      (is_in_left (next_nets m r) [] way.root (is_in_left (inputs_of_register m r) (option_to_list (enable_of m r)) way.root way.among)) in
      from_way m.circuit.cells (walk_of m) good.walk roots l.0 way.root way.reaches (cone_has (walk_of m) roots way.root root)

  same_nets : (l : Literal) → is_in (cone_of (walk_of m) (inputs_of_register m r)) l.0 ≡ true → (y : ℕ) → is_in (before_nets m (hold_question l r)) y ≡ is_in (before_nets m (held_question r)) y
  same_nets l among y = same_bools (is_in (before_nets m (hold_question l r)) y) (is_in (before_nets m (held_question r)) y)
      (λ h.
      let way : IsInCone m.circuit.cells (l.0 ∷ roots) y = (cone_is m.circuit.cells (walk_of m) good.walk (l.0 ∷ roots) y).0 h in
      let root : is_in (cone_of (walk_of m) roots) way.root ≡ true = elim (or_cases (nat_eq way.root l.0) (is_in roots way.root) way.among) [
        | inl same ↦ subst (λ z. is_in (cone_of (walk_of m) roots) z ≡ true) (sym (eqb-true way.root l.0 same)) (in_cone l among)
        | inr more ↦ cone_has (walk_of m) roots way.root more
      ] in
      from_way m.circuit.cells (walk_of m) good.walk roots y way.root way.reaches root)
      (λ h.
      let way : IsInCone m.circuit.cells roots y = (cone_is m.circuit.cells (walk_of m) good.walk roots y).0 h in
      from_way m.circuit.cells (walk_of m) good.walk (l.0 ∷ roots) y way.root way.reaches (cone_has (walk_of m) (l.0 ∷ roots) way.root (or_right (nat_eq way.root l.0) (is_in roots way.root) way.among)))

  -- the states after the cycle are laid alike
  same_states : (l : Literal) (nets states free : ℕ → ℕ) (rs : List ℕ) (t : Table) → lay_states aig_values m (hold_question l r) nets states free rs t ≡ lay_states aig_values m (held_question r) nets states free rs t
  same_states l nets states free [] t = refl
  same_states l nets states free (k ∷ rs) t = same_states l nets states free rs (put_run t k (state_run aig_values m (held_question r) nets states free k t.domain))

  -- the first copy, from cells in walk order
  abbrev laid : List (LogicCell ℕ) → Table
  laid cells = lay aig_values cells (record { domain = leaf_list (length leaves); at = start_nets aig_values m (λ y. leaf_value aig_values leaves Before (InputOf y)) (λ k. leaf_value aig_values leaves Before (RegisterOf k)) })

  -- all copies, from the first and from the states after it
  abbrev copied : Table → Table → Copies
  copied t0 u1 =
      let t1 = after_table aig_values m (held_question r) leaves u1 in
      let t2 = changed_table aig_values m (held_question r) leaves u1.at t1.domain in
      record {
        states0 = λ k. leaf_value aig_values leaves Before (RegisterOf k);
        nets0 = t0.at;
        states1 = u1.at;
        nets1 = t1.at;
        states2 = changed_state aig_values (held_question r) leaves u1.at;
        nets2 = t2.at;
        domain = t2.domain;
      }

  abbrev pub all_copies : Copies
  all_copies = copies aig_values m (held_question r) leaves (leaf_list (length leaves))

  same_copies : (l : Literal) → is_in (cone_of (walk_of m) (inputs_of_register m r)) l.0 ≡ true → copies aig_values m (hold_question l r) leaves (leaf_list (length leaves)) ≡ all_copies
  same_copies l among =
      let first = laid (reached_cells m (before_nets m (hold_question l r))) in
      ap (copied first) (same_states l first.at (λ k. leaf_value aig_values leaves Before (RegisterOf k)) (λ k. leaf_value aig_values leaves After (RegisterOf k)) (filter (after_states m (held_question r)) (registers_of m)) (record { domain = first.domain; at = λ k. 0 }))
      ∙ ap (λ cells. copied (laid cells) (after_state_table aig_values m (held_question r) leaves (laid cells)))
      (same_cells (λ cell. is_in (before_nets m (hold_question l r)) cell.output) (λ cell. is_in (before_nets m (held_question r)) cell.output) (walk_of m) (λ cell. same_nets l among cell.output))

  -- whether the next bit differs from the bit
  abbrev pub differs : Run
  differs = chain (next_run aig_values m all_copies.nets0 all_copies.states0 r all_copies.domain) (λ a t. build_xor aig_ops a (all_copies.states0 r) t)

  -- the claim of a literal: the `and` of that, and of the inverse of the literal
  pub claim_is : (l : Literal) → is_in (cone_of (walk_of m) (inputs_of_register m r)) l.0 ≡ true → claim_run m (hold_question l r) ≡ goal_run aig_values m (hold_question l r) all_copies
  claim_is l among =
      ap (λ (ls : List Leaf). goal_run aig_values m (hold_question l r) (copies aig_values m (hold_question l r) ls (leaf_list (length ls)))) (hold_leaves m good l r among)
      ∙ ap (λ (c : Copies). goal_run aig_values m (hold_question l r) c) (same_copies l among)

  abbrev pub enable_is : Literal → ℕ
  enable_is l = inverse (literal_of aig_values all_copies.nets0 l)

  pub list_is : (l : Literal) → is_in (cone_of (walk_of m) (inputs_of_register m r)) l.0 ≡ true → (claim_run m (hold_question l r)).domain ≡ after differs.domain (aig_and differs.domain (enable_is l) differs.answer)
  list_is l among = ap (λ (z : Run). z.domain) (claim_is l among)

  pub goal_is : (l : Literal) → is_in (cone_of (walk_of m) (inputs_of_register m r)) l.0 ≡ true → (claim_run m (hold_question l r)).answer ≡ (aig_and differs.domain (enable_is l) differs.answer).answer
  goal_is l among = ap (λ (z : Run). z.answer) (claim_is l among)

  -- without a literal nothing is added
  pub held_list : (claim_run m (held_question r)).domain ≡ differs.domain
  held_list = ap (λ (z : Made). after differs.domain z) (one_and differs.domain differs.answer)

  pub held_goal : (claim_run m (held_question r)).answer ≡ differs.answer
  held_goal = ap (λ (z : Made). z.answer) (one_and differs.domain differs.answer)
