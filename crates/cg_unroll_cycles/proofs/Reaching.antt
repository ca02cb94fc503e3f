-- What a question asks of its cycles is there, and what the program finds is what is reached.
use Rattle.std.proofs.Common.{◌≡◌, ℕ, zero, suc, ◌+◌, ◌-◌, ◌<◌, ◌≤◌, ◌==◌, Bool, true, false, ◌||◌, ◌&&◌, List, [], ◌∷◌, ◌++◌, length, take}
use Rattle.std.proofs.Common.{slice_get, Option, Some, None, Result, Ok, Err, OnOk, refl, sym, ◌∙◌, ap, subst, arith, ◌⊎◌, inl, inr}
use Rattle.std.specs.List.{filter, flat_map, range_with_len}
use Rattle.std.proofs.lemmas.Bool.{both_ways, or_cases}
use Rattle.std.proofs.lemmas.List.{append-nil, append_assoc, length-append}
use Rattle.std.proofs.lemmas.Option.{same_Some, slice_get_within}
use Rattle.cg_net.specs.NetSets.{is_in}
use Rattle.cg_net.proofs.Members.{is_in-append}
use Rattle.cg_net.proofs.TableLemmas.{take_next}
use Rattle.cg_netlist.proofs.SearchSteps.{get_last}
use Rattle.cg_netlist_cone.specs.Cone.{cone_of}
use Rattle.cg_netlist_cone.specs.declared.cone.Cone.{Cone}
use Rattle.cg_machine.specs.Machine.{IsMachine, MachineData, walk_of}
use Rattle.cg_machine.proofs.Lists.{below_or, get_front}
use Rattle.cg_claim.specs.Question.{idle_question}
use Rattle.cg_claim.specs.Reach.{feeds, next_asks_own, next_nets, registers_of}
use Rattle.cg_claim.proofs.Reached.{feeds_within}
use Rattle.cg_claim_reach.specs.Reached.{IsConeOf}
use Rattle.cg_claim_reach.proofs.Filtering.{in_filtered, in_order_are, in_ranged}
use Rattle.cg_claim_reach.proofs.RootsThere.{AreThere, both_there, next_there, none_there}
use Rattle.cg_hint_laws.specs.Hints.{condition_nets}
use Rattle.cg_hint_laws.specs.Question.{Question}
use Rattle.cg_claim.specs.form.Reach.{Asked}
use Rattle.cg_hint_laws.specs.Reach.{asked_back, asked_before, asked_last, asked_of, reached_nets, reached_states}
use Rattle.cg_hint_laws.proofs.Reached.{asked_within, back_within}
use Rattle.cg_unroll_cycles.specs.Asking.{AsksThere}
use Rattle.cg_unroll_cycles.specs.declared.asked.Asked.{Asked as AskedData}
use Rattle.cg_unroll_cycles.specs.declared.reached.CycleReach.{CycleReach}
use Rattle.cg_unroll_cycles.specs.inner.Reached.{AreBack, AreCycles, Asks, AsksMore, IsReachOf, IsThere}

-- registers that are reached are there
reached_there : (m : MachineData) (a : Asked) → ((r : ℕ) → a.states r ≡ true → r < length m.circuit.registers) → (r : ℕ) → reached_states m a r ≡ true → r < length m.circuit.registers
reached_there m a within r reached = elim (or_cases (feeds m (reached_nets m a) r) (a.states r) reached) [
  | inl feeding ↦ feeds_within m (idle_question []) tt (reached_nets m a) r feeding
  | inr asks ↦ within r asks
]

module _ (m : MachineData) where
  -- the registers of a cone and those asked for are the registers reached
  pub cycle_reached : (a : Asked) (asking : AskedData) (cone : Cone) (states : List ℕ) → Asks asking a → IsThere m a → IsConeOf m (cone_of (walk_of m) asking.nets.items) cone
      → ((n : ℕ) → ((x : ℕ) → is_in (asking.states.items ++ cone.registers) x ≡ true → x < n) → states ≡ filter (is_in (asking.states.items ++ cone.registers)) (range_with_len 0 n))
      → IsReachOf m a (record { cone = cone; states = states })
  cycle_reached a asking cone states is there found ordered =
      let here : IsConeOf m (reached_nets m a) cone = subst (λ nets. IsConeOf m (cone_of (walk_of m) nets) cone) is.nets found in
      record {
        cone = here;
        states = in_order_are (reached_states m a) (length m.circuit.registers) (asking.states.items ++ cone.registers) states (reached_there m a there.states)
            (λ k. is_in-append asking.states.items cone.registers k
            ∙ (ap (λ b. b || is_in cone.registers k) (is.states k)
            ∙ (ap (λ b. a.states k || b) (ap (λ l. is_in l k) here.registers ∙ in_ranged (feeds m (reached_nets m a)) (length m.circuit.registers) k (λ j feeding. feeds_within m (idle_question []) tt (reached_nets m a) j feeding))
            ∙ either_way (a.states k) (feeds m (reached_nets m a) k)))) ordered;
      }
    where
      either_way : (a b : Bool) → (a || b) ≡ (b || a)
      either_way true true = refl
      either_way true false = refl
      either_way false true = refl
      either_way false false = refl

  -- what a cycle that is reached asks of the one before it
  pub before_asked : (a : Asked) (cycle : CycleReach) (registers : List ℕ) (old new : AskedData) → ((r : ℕ) → a.states r ≡ true → r < length m.circuit.registers) → IsReachOf m a cycle → registers ≡ cycle.states
      → new.nets.items ≡ old.nets.items ++ flat_map (next_nets m) registers → new.states.items ≡ old.states.items ++ filter (next_asks_own m) registers → AsksMore (asked_before m a) old new
  before_asked a cycle registers old new within is same nets states =
      let e : registers ≡ filter (reached_states m a) (registers_of m) = same ∙ is.states in
      record {
        nets = nets ∙ ap (λ l. old.nets.items ++ flat_map (next_nets m) l) e;
        states = λ r. ap (λ l. is_in l r) states
            ∙ (is_in-append old.states.items (filter (next_asks_own m) registers) r
            ∙ ap (λ b. is_in old.states.items r || b) (in_filtered (next_asks_own m) registers r
            ∙ ap (λ b. b && next_asks_own m r) (ap (λ l. is_in l r) e ∙ in_ranged (reached_states m a) (length m.circuit.registers) r (reached_there m a within))));
      }

module _ (m : MachineData) (good : IsMachine m) (q : Question) (asks : AsksThere m q) where
  nexts_there : (rs : List ℕ) → AreThere m (flat_map (next_nets m) rs)
  nexts_there [] = none_there m
  nexts_there (r ∷ rs) = both_there m (next_nets m r) (flat_map (next_nets m) rs) (next_there m good r) (nexts_there rs)

  back_nets : (j : ℕ) → AreThere m (asked_back m q.register j).nets
  back_nets zero = go q.register
    where
      go : (o : Option ℕ) → AreThere m (asked_last m o).nets
      go None = none_there m
      go (Some r) = next_there m good r
  back_nets (suc j) = nexts_there (filter (reached_states m (asked_back m q.register j)) (registers_of m))

  pub back_there : (j : ℕ) → IsThere m (asked_back m q.register j)
  back_there j = record { nets = back_nets j; states = back_within m q asks.asked j }

  pub first_there : IsThere m (asked_of m q 0)
  first_there = record {
    nets = both_there m (condition_nets q.terms) (asked_back m q.register (q.after - 0)).nets asks.nets (back_nets (q.after - 0));
    states = asked_within m q asks.asked 0;
  }

-- lists that are put one behind another
pub flat_more : {X : Type 0} (f : X → List ℕ) (xs : List X) (start old new : List ℕ) (i : ℕ) (x : X) → slice_get xs i ≡ Some x → new ≡ old ++ f x → old ≡ start ++ flat_map f (take i xs) → new ≡ start ++ flat_map f (take (i + 1) xs)
flat_more f xs start old new i x at pushed so_far =
    pushed ∙ (ap (λ l. l ++ f x) so_far
    ∙ (append_assoc start (flat_map f (take i xs)) (f x)
    ∙ ap (λ l. start ++ l) (sym (ap (flat_map f) (take_next xs i x at) ∙ flat_end (take i xs)))))
  where
    flat_end : (ys : List _) → flat_map f (ys ++ x ∷ []) ≡ flat_map f ys ++ f x
    flat_end [] = append-nil (f x)
    flat_end (y ∷ ys) = ap (λ l. f y ++ l) (flat_end ys) ∙ sym (append_assoc (f y) (flat_map f ys) (f x))

-- what is asked in addition to nothing is all that is asked
pub asks_all : (a : Asked) (old new : AskedData) → old.nets.items ≡ [] → old.states.items ≡ [] → AsksMore a old new → Asks new a
asks_all a old new nets states more = record {
  nets = more.nets ∙ ap (λ l. l ++ a.nets) nets;
  states = λ r. more.states r ∙ ap (λ l. is_in l r || a.states r) states;
}

-- the items of a list with one more are its own and that one
last_or : {X : Type 0} (xs : List X) (y x : X) (k : ℕ) → slice_get (xs ++ y ∷ []) k ≡ Some x → (slice_get xs k ≡ Some x) ⊎ ((k ≡ length xs) × (x ≡ y))
last_or xs y x k at =
    let long = length-append xs (y ∷ []) in
    let within = slice_get_within (xs ++ y ∷ []) k x at in
    elim (below_or (length xs) k) [
      | inl early ↦ inl (sym (get_front xs (y ∷ []) k early) ∙ at)
      | inr late ↦
          let e : k ≡ length xs = omega (arith, long, within, late) in
          inr (e, same_Some x y (sym at ∙ (ap (slice_get (xs ++ y ∷ [])) e ∙ get_last xs y)))
    ]

-- what is asked of the first cycle
pub first_asks : (m : MachineData) (q : Question) (behind : ℕ) (old new : AskedData) → behind ≡ q.after → old.nets.items ≡ condition_nets q.terms → old.states.items ≡ []
    → AsksMore (asked_back m q.register behind) old new → Asks new (asked_of m q 0)
first_asks m q behind old new count nets states more =
    let e : behind ≡ q.after - 0 = omega (arith, count) in
    let here : AsksMore (asked_back m q.register (q.after - 0)) old new = subst (λ j. AsksMore (asked_back m q.register j) old new) e more in
    record {
      nets = here.nets ∙ ap (λ l. l ++ (asked_back m q.register (q.after - 0)).nets) nets;
      states = λ r. here.states r ∙ ap (λ l. is_in l r || (asked_back m q.register (q.after - 0)).states r) states;
    }

-- a number that is not 0
pub one_or_more : (n : ℕ) → (n == 0) ≡ false → 0 < n
one_or_more zero is = absurd (both_ways false refl (sym is))
one_or_more (suc n) is = omega arith

-- what two clauses give of an answer
pub on_both : {T E P Q R : Type 0} (r : Result T E) → (P → Q → R) → OnOk r P → OnOk r Q → OnOk r R
on_both (Ok x) f p q = f p q
on_both (Err e) f p q = tt

module _ (m : MachineData) (q : Question) where
  -- one more cycle, before those reached
  pub back_on : (cycles new : List CycleReach) (cycle : CycleReach) → AreBack m q cycles → IsReachOf m (asked_back m q.register (length cycles)) cycle → new ≡ cycles ++ cycle ∷ [] → AreBack m q new
  back_on cycles new cycle back is whole j c at = elim (last_or cycles cycle c j (subst (λ l. slice_get l j ≡ Some c) whole at)) [
    | inl before ↦ back j c before
    | inr last ↦ subst (λ k. IsReachOf m (asked_back m q.register k) c) (sym last.0) (subst (IsReachOf m (asked_back m q.register (length cycles))) (sym last.1) is)
  ]

  -- the first cycle, and so all
  pub cycles_are : (cycles new : List CycleReach) (first : CycleReach) → AreBack m q cycles → length cycles ≡ q.after → IsReachOf m (asked_of m q 0) first → new ≡ cycles ++ first ∷ [] → AreCycles m q new
  cycles_are cycles new first back count is whole = record {
    count = ap length whole ∙ (length-append cycles (first ∷ []) ∙ ap (λ n. n + 1) count);
    each = λ i c inside at. go i inside (last_or cycles first c (q.after - i) (subst (λ l. slice_get l (q.after - i) ≡ Some c) whole at));
  }
    where
      go : (i : ℕ) → i ≤ q.after → {c : CycleReach} → (slice_get cycles (q.after - i) ≡ Some c) ⊎ ((q.after - i ≡ length cycles) × (c ≡ first)) → IsReachOf m (asked_of m q i) c
      go zero inside {c} (inl before) = let within = slice_get_within cycles (q.after - 0) c before in absurd (omega (arith, within, count))
      go zero inside (inr last) = subst (IsReachOf m (asked_of m q 0)) (sym last.1) is
      go (suc i) inside {c} (inl before) = back (q.after - suc i) c before
      go (suc i) inside (inr last) = absurd (omega (arith, last.0, count, inside))

  -- cycle i of them
  pub cycle_number : (cycles : List CycleReach) (i : ℕ) (cycle : CycleReach) → AreCycles m q cycles → i ≤ q.after → slice_get cycles (length cycles - 1 - i) ≡ Some cycle → IsReachOf m (asked_of m q i) cycle
  cycle_number cycles i cycle are inside at =
      let e : length cycles - 1 - i ≡ q.after - i = omega (arith, are.count) in
      are.each i cycle inside (subst (λ n. slice_get cycles n ≡ Some cycle) e at)
