-- The claim that a literal can be 0 is no larger than one that a register holds its bit where that literal is 0.
use Rattle.std.proofs.Common.{◌≡◌, ◌≤◌, ℕ, Bool, true, false, ◌||◌, ◌&&◌, if◌then◌else◌, List, [], ◌∷◌, ◌++◌, length, nat_eq}
use Rattle.std.proofs.Common.{slice_get, Option, None, Some, refl, ◌∙◌, ap, subst, arith, inl, inr}
use Rattle.std.specs.List.{filter, flat_map, list_any}
use Rattle.std.specs.Option.{option_map_or}
use Rattle.std.proofs.lemmas.Bool.{both_ways, lt-ltb, or_cases, or_left, or_right}
use Rattle.cg_cell.specs.Domain.{Seen}
use Rattle.cg_aig.specs.Aig.{nodes}
use Rattle.cg_netlist.specs.Circuit.{Circuit, RegisterCell, data_inputs, shown_nets}
use Rattle.cg_net.specs.NetSets.{is_in}
use Rattle.cg_netlist_cone.specs.Cone.{IsInCone}
use Rattle.cg_netlist_cone.proofs.Cones.{cone_closed, cone_has, cone_is, from_way}
use Rattle.cg_machine.specs.Claims.{Literal}
use Rattle.cg_machine.specs.Machine.{IsMachine, MachineData, walk_of}
use Rattle.cg_claim.specs.Build.{aig_values, before_table, copies, from_state, given, goal_run, leaf_list, leaf_value, nodes_of}
use Rattle.cg_claim.specs.Build.{shown_by, size, start_nets}
use Rattle.cg_claim.specs.Laws.{IdleIsNoLarger}
use Rattle.cg_claim.specs.Leaves.{Leaf, is_reached, is_source, leaves_at, same_leaf, sources}
use Rattle.cg_claim.specs.Question.{Before, Question, hold_question, idle_question}
use Rattle.cg_claim.specs.Reach.{after_states, before_nets, before_states, enable_nets, feeds, origin_asks, origin_nets}
use Rattle.cg_claim.specs.Reach.{registers_of, sides_ask, sides_nets}
use Rattle.cg_claim.specs.declared.leaf.LeafSource.{LeafSource}
use Rattle.cg_claim.specs.declared.leaf.LeafSource.TheVariants.{Input as InputOf, Register as RegisterOf}
use Rattle.cg_claim.proofs.Embedded.{Embeds, IsSent, embedded_fits, inverse_sent, sent_zero}
use Rattle.cg_claim.proofs.EmbeddedLeaves.{goes_to, leaf_sent, leaves_embed}
use Rattle.cg_claim.proofs.EmbeddedRuns.{IsEmbedded, laid_both}
use Rattle.cg_claim.proofs.GivenNets.{shown_feeds}
use Rattle.cg_claim.proofs.LeavesFound.{leaf_among}
use Rattle.cg_claim.proofs.OneCopy.{IsOneCopy, domain_one, filter_none, hold_one, idle_one, leaves_one}
use Rattle.cg_claim.proofs.Reached.{and_first, feeds_within}
use Rattle.cg_claim.proofs.WholeLists.{stages_fit}

any_more : (f g : ℕ → Bool) (xs : List ℕ) → ((x : ℕ) → f x ≡ true → g x ≡ true) → list_any f xs ≡ true → list_any g xs ≡ true
any_more f g [] more h = absurd (both_ways false refl h)
any_more f g (x ∷ xs) more h = elim (or_cases (f x) (list_any f xs) h) [
  | inl here ↦ or_left (g x) (list_any g xs) (more x here)
  | inr later ↦ or_right (g x) (list_any g xs) (any_more f g xs more later)
]

-- what a net that is no output of a cell has
given_sent : (g : ℕ → ℕ) (s t : Seen) → Embeds g s t → (c : Circuit) (input input' state state' : ℕ → ℕ) (x : ℕ)
    → (is_in (data_inputs c) x ≡ true → IsSent g s (input x) (input' x))
    → ((p : ℕ × Bool) → shown_by c.registers x ≡ Some p → IsSent g s (state p.0) (state' p.0))
    → IsSent g s (given aig_values.inverse 0 c input state x) (given aig_values.inverse 0 c input' state' x)
given_sent g s t e c input input' state state' x ins sts = go (is_in (data_inputs c) x) refl
  where
    inv : (r : ℕ) (b : Bool) → IsSent g s (state r) (state' r) → IsSent g s (if b then aig_values.inverse (state r) else state r) (if b then aig_values.inverse (state' r) else state' r)
    inv r true h = inverse_sent g s (state r) (state' r) h
    inv r false h = h

    by : (o : Option (ℕ × Bool)) → shown_by c.registers x ≡ o → IsSent g s (from_state aig_values.inverse 0 state o) (from_state aig_values.inverse 0 state' o)
    by None is = record { valid = omega arith; is = sent_zero g s t e }
    by (Some p) is = inv p.0 p.1 (sts p is)

    go : (b : Bool) → is_in (data_inputs c) x ≡ b → IsSent g s (if b then input x else from_state aig_values.inverse 0 state (shown_by c.registers x)) (if b then input' x else from_state aig_values.inverse 0 state' (shown_by c.registers x))
    go true is = ins is
    go false is = by (shown_by c.registers x) refl

by_nodes : (s t : Seen) → nodes s ≤ nodes t → size s ≤ size t
by_nodes s t h = omega arith

between : {a b c d f : ℕ} → a ≡ b → b ≤ c → c ≤ d → f ≡ d → a ≤ f
between h i j k = omega (arith, h, i, j, k)

module _ (m : MachineData) (good : IsMachine m) (e : Literal) (r : ℕ) where
  abbrev idle : Question
  idle = idle_question (e ∷ [])

  abbrev hold : Question
  hold = hold_question e r

  -- what the smaller claim reaches, the larger reaches
  nets_within : (y : ℕ) → is_in (before_nets m idle) y ≡ true → is_in (before_nets m hold) y ≡ true
  nets_within y h =
      let one : IsOneCopy m idle = idle_one m (e ∷ []) in
      let roots : List ℕ = enable_nets idle ++ sides_nets m (enable_nets idle) Before idle.sides ++ flat_map (origin_nets m idle) (filter (after_states m idle) (registers_of m)) in
      let others : List ℕ = sides_nets m (enable_nets hold) Before hold.sides ++ flat_map (origin_nets m hold) (filter (after_states m hold) (registers_of m)) in
      let more : List ℕ = e.0 ∷ others in
      let way : IsInCone m.circuit.cells roots y = (cone_is m.circuit.cells (walk_of m) good.walk roots y).0 h in
      let among : is_in (e.0 ∷ []) way.root ≡ true = subst (λ rs. is_in (e.0 ∷ flat_map (origin_nets m idle) rs) way.root ≡ true) (filter_none (after_states m idle) (registers_of m) one.states) way.among in
      let root : nat_eq way.root e.0 ≡ true = elim (or_cases (nat_eq way.root e.0) false among) [ inl same ↦ same | inr none ↦ absurd (both_ways false refl none) ] in
      from_way m.circuit.cells (walk_of m) good.walk more y way.root way.reaches (cone_has (walk_of m) more way.root (or_left (nat_eq way.root e.0) (is_in others way.root) root))

  feeds_more : (k : ℕ) → feeds m (before_nets m idle) k ≡ true → feeds m (before_nets m hold) k ≡ true
  feeds_more k = go (slice_get m.circuit.registers k)
    where
      go : (o : Option (RegisterCell ℕ ℕ)) → option_map_or (λ (cell : RegisterCell ℕ ℕ). list_any (is_in (before_nets m idle)) (shown_nets cell)) o false ≡ true → option_map_or (λ (cell : RegisterCell ℕ ℕ). list_any (is_in (before_nets m hold)) (shown_nets cell)) o false ≡ true
      go None h = h
      go (Some cell) h = any_more (is_in (before_nets m idle)) (is_in (before_nets m hold)) (shown_nets cell) nets_within h

  idle_feeds : (k : ℕ) → before_states m idle k ≡ true → feeds m (before_nets m idle) k ≡ true
  idle_feeds k h =
      let one : IsOneCopy m idle = idle_one m (e ∷ []) in
      elim (or_cases (feeds m (before_nets m idle) k) (after_states m idle k && origin_asks m idle k) h) [
        | inl feeding ↦ feeding
        | inr later ↦ absurd (both_ways (after_states m idle k) (one.states k) (and_first (after_states m idle k) (origin_asks m idle k) later))
      ]

  within : (source : LeafSource) → is_reached m idle Before source ≡ true → is_reached m hold Before source ≡ true
  within (InputOf y) h = nets_within y h
  within (RegisterOf k) h = or_left (feeds m (before_nets m hold) k) (sides_ask m Before hold.sides k || (after_states m hold k && origin_asks m hold k)) (feeds_more k (idle_feeds k h))

  abbrev few : List Leaf
  few = leaves_at m idle Before

  abbrev many : List Leaf
  many = leaves_at m hold Before

  abbrev place : ℕ → ℕ
  place = goes_to (is_reached m idle Before) (is_reached m hold Before) within Before (sources m)

  starts : Embeds place (leaf_list (length few)) (leaf_list (length many))
  starts = leaves_embed (is_reached m idle Before) (is_reached m hold Before) within Before (sources m)

  known : (source : LeafSource) → is_source m source ≡ true → is_reached m idle Before source ≡ true
      → IsSent place (leaf_list (length few)) (leaf_value aig_values few Before source) (leaf_value aig_values many Before source)
  known source is reached =
      leaf_sent (is_reached m idle Before) (is_reached m hold Before) within Before (sources m) source reached
      (subst (λ ls. list_any (same_leaf (record { copy = Before; source = source })) ls ≡ true) (leaves_one m idle (idle_one m (e ∷ []))) (leaf_among m idle Before source is reached))

  first : IsEmbedded (before_table aig_values m idle few (leaf_list (length few))).domain (before_table aig_values m hold many (leaf_list (length many))).domain
  first =
      laid_both (is_in (before_nets m idle)) (is_in (before_nets m hold)) nets_within (walk_of m)
      (record { domain = leaf_list (length few); at = start_nets aig_values m (λ y. leaf_value aig_values few Before (InputOf y)) (λ k. leaf_value aig_values few Before (RegisterOf k)) })
      (record { domain = leaf_list (length many); at = start_nets aig_values m (λ y. leaf_value aig_values many Before (InputOf y)) (λ k. leaf_value aig_values many Before (RegisterOf k)) })
      place starts good.walk.ordered
      (cone_closed (walk_of m) (enable_nets idle ++ sides_nets m (enable_nets idle) Before idle.sides ++ flat_map (origin_nets m idle) (filter (after_states m idle) (registers_of m))) good.walk.ordered)
      (λ x passes out.
      given_sent place (leaf_list (length few)) (leaf_list (length many)) starts m.circuit
      (λ y. leaf_value aig_values few Before (InputOf y)) (λ y. leaf_value aig_values many Before (InputOf y)) (λ k. leaf_value aig_values few Before (RegisterOf k)) (λ k. leaf_value aig_values many Before (RegisterOf k)) x
      (λ is. known (InputOf x) is passes)
      (λ p by.
      let feeding = shown_feeds m (before_nets m idle) x p passes by in
      known (RegisterOf p.0) (lt-ltb p.0 (length m.circuit.registers) (feeds_within m idle tt (before_nets m idle) p.0 feeding))
      (or_left (feeds m (before_nets m idle) p.0) (sides_ask m Before idle.sides p.0 || (after_states m idle p.0 && origin_asks m idle p.0)) feeding)))

  idle_nodes : nodes_of m idle ≡ size (before_table aig_values m idle few (leaf_list (length few))).domain
  idle_nodes =
      let one : IsOneCopy m idle = idle_one m (e ∷ []) in
      ap (λ (ls : List Leaf). size (goal_run aig_values m idle (copies aig_values m idle ls (leaf_list (length ls)))).domain) (leaves_one m idle one)
      ∙ ap size (domain_one m idle one aig_values few (leaf_list (length few)))

  hold_nodes : nodes_of m hold ≡ size (goal_run aig_values m hold (copies aig_values m hold many (leaf_list (length many)))).domain
  hold_nodes = ap (λ (ls : List Leaf). size (goal_run aig_values m hold (copies aig_values m hold ls (leaf_list (length ls)))).domain) (leaves_one m hold (hold_one m e r))

  pub no_larger : nodes_of m idle ≤ nodes_of m hold
  no_larger =
      let fits = embedded_fits first.to (before_table aig_values m idle few (leaf_list (length few))).domain (before_table aig_values m hold many (leaf_list (length many))).domain first.embeds in
      let whole = (stages_fit m hold (leaf_list (length many)) many).before in
      between idle_nodes (by_nodes (before_table aig_values m idle few (leaf_list (length few))).domain (before_table aig_values m hold many (leaf_list (length many))).domain fits) whole hold_nodes

pub idle_is_no_larger : IdleIsNoLarger
idle_is_no_larger m e r good = no_larger m good e r
