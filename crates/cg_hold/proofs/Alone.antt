-- A register without an enable and without inputs: its hold claims have one leaf, its own bit.
use Rattle.std.proofs.Common.{◌≡◌, ℕ, zero, suc, ◌+◌, ◌<◌, ◌≤◌, Bool, true, false, ◌||◌, ◌&&◌, cond, List, [], ◌∷◌, ◌++◌, map}
use Rattle.std.proofs.Common.{length, slice_get, nat_eq, Option, None, Some, refl, ◌∙◌, ap, arith}
use Rattle.std.specs.List.{filter, flat_map, list_any, range_with_len}
use Rattle.std.specs.Option.{option_map_or, option_to_list}
use Rattle.std.proofs.lemmas.Bool.{both_ways, eq-eqb, eqb-true}
use Rattle.cg_claim.specs.Leaves.{Leaf, is_reached, leaves_at, sources}
use Rattle.cg_claim.specs.Question.{Copy, Before, After, Changed, Question, held_question}
use Rattle.cg_claim.specs.Reach.{after_states, before_nets, before_states, changed_nets, changed_states, feeds}
use Rattle.cg_claim.specs.Reach.{inputs_of_register, next_asks_own, next_nets, origin_asks, origin_nets, registers_of, sides_ask}
use Rattle.cg_claim.specs.declared.leaf.LeafSource.{LeafSource}
use Rattle.cg_claim.specs.declared.leaf.LeafSource.TheVariants.{Input as InputOf, Register as RegisterOf}
use Rattle.cg_stage_list_laws.specs.HoldList.{hold_width}
use Rattle.cg_machine.specs.Machine.{MachineData, enable_of, walk_of}
use Rattle.cg_netlist.specs.Circuit.{RegisterCell, data_inputs, shown_nets}
use Rattle.cg_net.specs.NetSets.{is_in}
use Rattle.cg_netlist_cone.specs.Cone.{cone_of}
use Rattle.cg_claim.proofs.OneCopy.{cone_nil, filter_none, none_any}
use Rattle.cg_claim.proofs.HoldWidths.{same_test}

-- one number of a range passes
one_of : (r n a : ℕ) → a ≤ r → r < a + n → length (filter (λ k. nat_eq k r) (range_with_len a n)) ≡ 1
one_of r zero a low high = absurd (omega arith)
one_of r (suc n) a low high = go (λ next. one_of r n (a + 1) next (omega arith)) (nat_eq a r) refl
  where
    later : (k b : ℕ) → r < b → length (filter (λ z. nat_eq z r) (range_with_len b k)) ≡ 0
    later zero b past = refl
    later (suc k) b past = ap (λ t. length (cond t (b ∷ filter (λ z. nat_eq z r) (range_with_len (b + 1) k)) (filter (λ z. nat_eq z r) (range_with_len (b + 1) k)))) (apart b past) ∙ later k (b + 1) (omega arith)
      where
        apart : (z : ℕ) → r < z → nat_eq z r ≡ false
        apart z h = out (nat_eq z r) refl
          where
            out : (t : Bool) → nat_eq z r ≡ t → t ≡ false
            out false is = refl
            out true is = let e = eqb-true z r is in absurd (omega (arith, e))

    go : (a + 1 ≤ r → length (filter (λ k. nat_eq k r) (range_with_len (a + 1) n)) ≡ 1) → (t : Bool) → nat_eq a r ≡ t → length (filter (λ k. nat_eq k r) (range_with_len a (suc n))) ≡ 1
    go rest true is =
        let e = eqb-true a r is in
        ap (λ b. length (cond b (a ∷ filter (λ k. nat_eq k r) (range_with_len (a + 1) n)) (filter (λ k. nat_eq k r) (range_with_len (a + 1) n)))) is ∙ ap suc (later n (a + 1) (omega (arith, e)))
    go rest false is =
        ap (λ b. length (cond b (a ∷ filter (λ k. nat_eq k r) (range_with_len (a + 1) n)) (filter (λ k. nat_eq k r) (range_with_len (a + 1) n)))) is ∙ rest (above (λ e. both_ways (nat_eq a r) is (eq-eqb a r e)))
      where
        above : (a ≡ r → ⊥) → a + 1 ≤ r
        above apart = step a r low apart
          where
            step : (x y : ℕ) → x ≤ y → (x ≡ y → ⊥) → x + 1 ≤ y
            step zero zero h other = absurd (other refl)
            step zero (suc y) h other = omega arith
            step (suc x) zero h other = absurd (omega arith)
            step (suc x) (suc y) h other = let l = step x y (omega arith) (λ e. other (ap suc e)) in omega (arith, l)

-- a leaf of a copy
abbrev at_copy : Copy → LeafSource → Leaf
at_copy copy s = record { copy = copy; source = s }

pub split_filter : {T : Type 0} (f : T → Bool) (xs ys : List T) → filter f (xs ++ ys) ≡ filter f xs ++ filter f ys
split_filter f [] ys = refl
split_filter {T = T} f (x ∷ xs) ys = ap (λ l. cond (f x) (x ∷ l) l) (split_filter f xs ys) ∙ go (f x)
  where
    go : (b : Bool) → cond b (x ∷ filter f xs ++ filter f ys) (filter f xs ++ filter f ys) ≡ cond b (x ∷ filter f xs) (filter f xs) ++ filter f ys
    go true = refl
    go false = refl

pub mapped_length : {T U : Type 0} (f : U → Bool) (g : T → U) (xs : List T) → length (filter f (map g xs)) ≡ length (filter (λ x. f (g x)) xs)
mapped_length f g [] = refl
mapped_length {T = T} {U = U} f g (x ∷ xs) = go (f (g x)) (mapped_length f g xs)
  where
    go : (b : Bool) → length (filter f (map g xs)) ≡ length (filter (λ y. f (g y)) xs) → length (cond b (g x ∷ filter f (map g xs)) (filter f (map g xs))) ≡ length (cond b (x ∷ filter (λ y. f (g y)) xs) (filter (λ y. f (g y)) xs))
    go true rest = ap suc rest
    go false rest = rest

pub map_length : {T U : Type 0} (g : T → U) (xs : List T) → length (map g xs) ≡ length xs
map_length g [] = refl
map_length g (x ∷ xs) = ap suc (map_length g xs)

module _ (m : MachineData) (r : ℕ) (below : r < length m.circuit.registers) (free : enable_of m r ≡ None) (alone : inputs_of_register m r ≡ []) where
  abbrev q : Question
  q = held_question r

  no_feed : (nets : List ℕ) → nets ≡ [] → (k : ℕ) → feeds m nets k ≡ false
  no_feed nets none k = ap (λ l. feeds m l k) none ∙ go (slice_get m.circuit.registers k)
    where
      go : (o : Option (RegisterCell ℕ ℕ)) → option_map_or (λ (cell : RegisterCell ℕ ℕ). list_any (is_in []) (shown_nets cell)) o false ≡ false
      go None = refl
      go (Some cell) = none_any (shown_nets cell)

  next_none : next_nets m r ≡ []
  next_none = ap (λ l. l ++ option_to_list (enable_of m r)) alone ∙ ap option_to_list free

  after_none : (k : ℕ) → after_states m (held_question r) k ≡ false
  after_none k =
      ap (λ b. b || (false || (changed_states m (held_question r) k && true))) (no_feed (cone_of (walk_of m) []) (cone_nil (walk_of m)) k)
      ∙ ap (λ b. (b || false) && true) (no_feed (cone_of (walk_of m) []) (cone_nil (walk_of m)) k)

  before_none : before_nets m (held_question r) ≡ []
  before_none =
      ap (λ l. cone_of (walk_of m) ((next_nets m r ++ []) ++ flat_map (origin_nets m (held_question r)) l)) (filter_none (after_states m (held_question r)) (registers_of m) after_none)
      ∙ (ap (λ l. cone_of (walk_of m) ((l ++ []) ++ [])) next_none ∙ cone_nil (walk_of m))

  own_only : (k : ℕ) → before_states m (held_question r) k ≡ nat_eq k r
  own_only k =
      ap (λ b. b || (sides_ask m Before (held_question r).sides k || (after_states m (held_question r) k && origin_asks m (held_question r) k))) (no_feed (before_nets m (held_question r)) before_none k)
      ∙ (ap (λ b. sides_ask m Before (held_question r).sides k || (b && origin_asks m (held_question r) k)) (after_none k)
      ∙ go (nat_eq k r))
    where
      go : (b : Bool) → (((b && next_asks_own m r) || b) || false) ≡ b
      go true = both (next_asks_own m r)
        where
          both : (x : Bool) → ((x || true) || false) ≡ true
          both true = refl
          both false = refl
      go false = refl

  before_length : length (leaves_at m (held_question r) Before) ≡ 1
  before_length =
      map_length (at_copy Before) (filter (is_reached m (held_question r) Before) (sources m))
      ∙ (ap length (split_filter (is_reached m (held_question r) Before) (map InputOf (data_inputs m.circuit)) (map RegisterOf (registers_of m)))
      ∙ (ap (λ l. length (l ++ filter (is_reached m (held_question r) Before) (map RegisterOf (registers_of m)))) (no_inputs (data_inputs m.circuit))
      ∙ (mapped_length (is_reached m (held_question r) Before) RegisterOf (registers_of m)
      ∙ (ap length (same_test (λ k. before_states m (held_question r) k) (λ k. nat_eq k r) (registers_of m) own_only)
      ∙ one_of r (length m.circuit.registers) 0 (omega arith) (omega arith)))))
    where
      no_inputs : (ys : List ℕ) → filter (is_reached m (held_question r) Before) (map InputOf ys) ≡ []
      no_inputs [] = refl
      no_inputs (y ∷ ys) = ap (λ l. cond (is_in l y) (InputOf y ∷ filter (is_reached m (held_question r) Before) (map InputOf ys)) (filter (is_reached m (held_question r) Before) (map InputOf ys))) before_none ∙ no_inputs ys

  later_none : filter (is_reached m (held_question r) After) (sources m) ≡ []
  later_none = filter_none (is_reached m (held_question r) After) (sources m) none
    where
      none : (s : LeafSource) → is_reached m (held_question r) After s ≡ false
      none (InputOf y) = ap (λ l. is_in l y || is_in (changed_nets m (held_question r)) y) (cone_nil (walk_of m)) ∙ ap (λ l. is_in l y) (cone_nil (walk_of m))
      none (RegisterOf k) = ap (λ b. b && true) (after_none k)

  changed_none : filter (is_reached m (held_question r) Changed) (sources m) ≡ []
  changed_none = filter_none (is_reached m (held_question r) Changed) (sources m) none
    where
      none : (s : LeafSource) → is_reached m (held_question r) Changed s ≡ false
      none (InputOf y) = refl
      none (RegisterOf k) = go (changed_states m (held_question r) k)
        where
          go : (b : Bool) → (b && false) ≡ false
          go true = refl
          go false = refl

  pub alone_width : hold_width m r ≡ 1
  alone_width =
      ap (λ ss. length ((leaves_at m (held_question r) Before ++ map (at_copy After) ss) ++ leaves_at m (held_question r) Changed)) later_none
      ∙ (ap (λ ss. length ((leaves_at m (held_question r) Before ++ []) ++ map (at_copy Changed) ss)) changed_none
      ∙ (ap length (append-none (leaves_at m (held_question r) Before ++ []) ∙ append-none (leaves_at m (held_question r) Before)) ∙ before_length))
    where
      append-none : {X : Type 0} (l : List X) → l ++ [] ≡ l
      append-none [] = refl
      append-none (y ∷ l) = ap (λ k. y ∷ k) (append-none l)
