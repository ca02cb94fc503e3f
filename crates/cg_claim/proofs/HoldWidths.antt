-- The Hold claims of one register have the same leaves, whatever the literal of its cone.
use Rattle.std.proofs.Common.{◌≡◌, ℕ, Bool, true, false, ◌||◌, ◌&&◌, cond, List, [], ◌∷◌, ◌++◌, map, length, slice_get, nat_eq}
use Rattle.std.proofs.Common.{Option, None, Some, refl, sym, ◌∙◌, ap, subst, inl, inr}
use Rattle.std.specs.List.{filter, flat_map, list_any}
use Rattle.std.specs.Option.{option_map_or, option_to_list}
use Rattle.std.proofs.lemmas.Bool.{eqb-true, or_cases, or_right}
use Rattle.cg_netlist.specs.Circuit.{RegisterCell, shown_nets}
use Rattle.cg_net.specs.NetSets.{is_in}
use Rattle.cg_net.proofs.Members.{is_in_left}
use Rattle.cg_machine.specs.Claims.{Literal}
use Rattle.cg_machine.specs.Machine.{IsMachine, MachineData, enable_of, walk_of}
use Rattle.cg_claim.specs.declared.leaf.LeafSource.{LeafSource}
use Rattle.cg_claim.specs.declared.leaf.LeafSource.TheVariants.{Input as InputOf, Register as RegisterOf}
use Rattle.cg_netlist_cone.specs.Cone.{IsInCone, cone_of}
use Rattle.cg_claim.specs.Leaves.{is_reached, leaves_at, leaves_of, sources, width_of}
use Rattle.cg_claim.specs.Question.{Before, After, Changed, Question, held_question, hold_question}
use Rattle.cg_claim.specs.Reach.{after_states, before_nets, inputs_of_register, next_nets, origin_asks, origin_nets, registers_of}
use Rattle.cg_claim.specs.Reach.{sides_ask}
use Rattle.cg_netlist_cone.proofs.Cones.{cone_has, cone_is, from_way}
use Rattle.std.specs.Cmp.{both_ways as same_bools}

pub same_test : {T : Type 0} (f g : T → Bool) (xs : List T) → ((x : T) → f x ≡ g x) → filter f xs ≡ filter g xs
same_test f g [] same = refl
same_test f g (x ∷ xs) same = ap (λ b. cond b (x ∷ filter f xs) (filter f xs)) (same x) ∙ ap (λ l. cond (g x) (x ∷ l) l) (same_test f g xs same)

same_any : (f g : ℕ → Bool) (xs : List ℕ) → ((x : ℕ) → f x ≡ g x) → list_any f xs ≡ list_any g xs
same_any f g [] same = refl
same_any f g (x ∷ xs) same = ap (λ b. b || list_any f xs) (same x) ∙ ap (λ b. g x || b) (same_any f g xs same)

module _ (m : MachineData) (good : IsMachine m) (l : Literal) (r : ℕ) (among : is_in (cone_of (walk_of m) (inputs_of_register m r)) l.0 ≡ true) where
  abbrev q : Question
  q = hold_question l r

  abbrev p : Question
  p = held_question r

  abbrev roots : List ℕ
  roots = (next_nets m r ++ []) ++ flat_map (origin_nets m (held_question r)) (filter (after_states m (held_question r)) (registers_of m))

  in_cone : is_in (cone_of (walk_of m) roots) l.0 ≡ true
  in_cone =
      let way : IsInCone m.circuit.cells (inputs_of_register m r) l.0 = (cone_is m.circuit.cells (walk_of m) good.walk (inputs_of_register m r) l.0).0 among in
      let root : is_in roots way.root ≡ true = is_in_left (next_nets m r ++ []) (flat_map (origin_nets m p) (filter (after_states m p) (registers_of m))) way.root
      (is_in_left (next_nets m r) [] way.root (is_in_left (inputs_of_register m r) (option_to_list (enable_of m r)) way.root way.among)) in
      from_way m.circuit.cells (walk_of m) good.walk roots l.0 way.root way.reaches (cone_has (walk_of m) roots way.root root)

  same_nets : (y : ℕ) → is_in (before_nets m (hold_question l r)) y ≡ is_in (before_nets m (held_question r)) y
  same_nets y = same_bools (is_in (before_nets m q) y) (is_in (before_nets m p) y)
      (λ h.
      let way : IsInCone m.circuit.cells (l.0 ∷ roots) y = (cone_is m.circuit.cells (walk_of m) good.walk (l.0 ∷ roots) y).0 h in
      let root : is_in (cone_of (walk_of m) roots) way.root ≡ true = elim (or_cases (nat_eq way.root l.0) (is_in roots way.root) way.among) [
        | inl same ↦ subst (λ z. is_in (cone_of (walk_of m) roots) z ≡ true) (sym (eqb-true way.root l.0 same)) in_cone
        | inr more ↦ cone_has (walk_of m) roots way.root more
      ] in
      from_way m.circuit.cells (walk_of m) good.walk roots y way.root way.reaches root)
      (λ h.
      let way : IsInCone m.circuit.cells roots y = (cone_is m.circuit.cells (walk_of m) good.walk roots y).0 h in
      from_way m.circuit.cells (walk_of m) good.walk (l.0 ∷ roots) y way.root way.reaches (cone_has (walk_of m) (l.0 ∷ roots) way.root (or_right (nat_eq way.root l.0) (is_in roots way.root) way.among)))

  same_reached : (source : LeafSource) → is_reached m (hold_question l r) Before source ≡ is_reached m (held_question r) Before source
  same_reached (InputOf y) = same_nets y
  same_reached (RegisterOf k) = ap (λ b. b || (sides_ask m Before p.sides k || (after_states m p k && origin_asks m p k))) (fed (slice_get m.circuit.registers k))
    where
      fed : (o : Option (RegisterCell ℕ ℕ)) → option_map_or (λ (cell : RegisterCell ℕ ℕ). list_any (is_in (before_nets m (hold_question l r))) (shown_nets cell)) o false ≡ option_map_or (λ (cell : RegisterCell ℕ ℕ). list_any (is_in (before_nets m (held_question r))) (shown_nets cell)) o false
      fed None = refl
      fed (Some cell) = same_any (is_in (before_nets m q)) (is_in (before_nets m p)) (shown_nets cell) same_nets

  pub hold_leaves : leaves_of m (hold_question l r) ≡ leaves_of m (held_question r)
  hold_leaves = ap (λ ss. map (λ (s : LeafSource). record { copy = Before; source = s }) ss ++ leaves_at m p After ++ leaves_at m p Changed) (same_test (is_reached m q Before) (is_reached m p Before) (sources m) same_reached)

  pub hold_widths : width_of m (hold_question l r) ≡ width_of m (held_question r)
  hold_widths = ap length hold_leaves
