-- What a question reaches in its cycles: registers that are there, and all that the next cycle and the goal ask for.
use Rattle.std.proofs.Common.{◌≡◌, ℕ, zero, suc, ◌+◌, ◌-◌, ◌<◌, ◌≤◌, true, false, not, ◌&&◌, [], length}
use Rattle.std.proofs.Common.{None, Some, refl, sym, ap, subst, arith, inl, inr}
use Rattle.std.specs.List.{filter}
use Rattle.std.proofs.lemmas.Bool.{and_from, both_ways, eqb-true, or_cases, or_left, or_right}
use Rattle.cg_net.specs.NetSets.{is_in}
use Rattle.cg_net.proofs.Members.{is_in_left, is_in_right}
use Rattle.cg_netlist.proofs.Filtered.{range_in, to_filter}
use Rattle.cg_netlist.proofs.WalkOrder.{in_each}
use Rattle.cg_netlist_cone.proofs.Cones.{cone_has}
use Rattle.cg_machine.specs.Machine.{MachineData}
use Rattle.cg_claim.specs.Question.{idle_question}
use Rattle.cg_claim.specs.Reach.{feeds, part_asks, registers_of}
use Rattle.cg_claim.specs.form.Question.{Changes, Ends, Question, Shows, condition_nets}
use Rattle.cg_claim.specs.form.Reach.{Asked, asked_back, asked_before, asked_last, asked_of, asked_other, nets_of, origin_asks, origin_nets, other_states, reached_nets, reached_states, states_of, cut_walk}
use Rattle.cg_claim.specs.form.Violates.{EndsFit}
use Rattle.cg_claim.proofs.Reached.{and_first, feeds_within, part_within}

module _ (m : MachineData) (q : Question) (fits : EndsFit m q.ends) where
  -- registers whose bits are reached are there
  pub reached_within : (a : Asked) → ((r : ℕ) → a.states r ≡ true → r < length m.circuit.registers) → (r : ℕ) → reached_states m q.cut a r ≡ true → r < length m.circuit.registers
  reached_within a within r reached = elim (or_cases (feeds m (reached_nets m q.cut a) r) (a.states r) reached) [
    | inl feeding ↦ feeds_within m (idle_question []) tt (reached_nets m q.cut a) r feeding
    | inr asks ↦ within r asks
  ]

  other_asks : (e : Ends) → EndsFit m e → (r : ℕ) → (asked_other m q e).states r ≡ true → r < length m.circuit.registers
  other_asks (Changes register) fit r asks = absurd (both_ways false refl asks)
  other_asks (Shows part G) fit r asks = part_within m (idle_question []) tt part r fit asks

  pub other_within : (r : ℕ) → other_states m q r ≡ true → r < length m.circuit.registers
  other_within r reached = reached_within (asked_other m q q.ends) (other_asks q.ends fits) r reached

  last_asks : (e : Ends) → EndsFit m e → (r : ℕ) → (asked_last m q e).states r ≡ true → r < length m.circuit.registers
  last_asks (Changes None) fit r asks = absurd (both_ways false refl asks)
  last_asks (Changes (Some k)) fit r asks = subst (λ n. n < length m.circuit.registers) (sym (eqb-true r k asks)) (fit k refl)
  last_asks (Shows part G) fit r asks = elim (or_cases (part_asks m part r) (reached_states m q.cut (asked_other m q (Shows part G)) r && not (is_in G r)) asks) [
    | inl own ↦ part_within m (idle_question []) tt part r fit own
    | inr other ↦ reached_within (asked_other m q (Shows part G)) (other_asks (Shows part G) fit) r (and_first (reached_states m q.cut (asked_other m q (Shows part G)) r) (not (is_in G r)) other)
  ]

  back_within : (j r : ℕ) → (asked_back m q j).states r ≡ true → r < length m.circuit.registers
  back_within zero r asks = last_asks q.ends fits r asks
  back_within (suc j) r asks =
      let a : Asked = asked_back m q j in
      reached_within a (back_within j) r (and_first (reached_states m q.cut a r) (origin_asks m q r) asks)

  asked_within : (i r : ℕ) → (asked_of m q i).states r ≡ true → r < length m.circuit.registers
  asked_within zero r asks = back_within (q.after - 0) r asks
  asked_within (suc i) r asks = back_within (q.after - suc i) r asks

  pub states_within : (i r : ℕ) → states_of m q i r ≡ true → r < length m.circuit.registers
  states_within i r reached = reached_within (asked_of m q i) (asked_within i) r reached

  -- what is asked of a cycle is reached
  asked_nets : (i y : ℕ) → is_in (asked_back m q (q.after - i)).nets y ≡ true → is_in (nets_of m q i) y ≡ true
  asked_nets i y among = cone_has (cut_walk m q.cut) (asked_of m q i).nets y (go i among)
    where
      go : (i : ℕ) → is_in (asked_back m q (q.after - i)).nets y ≡ true → is_in (asked_of m q i).nets y ≡ true
      go zero h = is_in_right (condition_nets q.condition) (asked_back m q (q.after - 0)).nets y h
      go (suc i) h = h

  asked_states : (i r : ℕ) → (asked_back m q (q.after - i)).states r ≡ true → states_of m q i r ≡ true
  asked_states i r asks = or_right (feeds m (nets_of m q i) r) ((asked_of m q i).states r) (go i asks)
    where
      go : (i : ℕ) → (asked_back m q (q.after - i)).states r ≡ true → (asked_of m q i).states r ≡ true
      go zero h = h
      go (suc i) h = h

  pub feeding_reached : (i r : ℕ) → feeds m (nets_of m q i) r ≡ true → states_of m q i r ≡ true
  feeding_reached i r feeding = or_left (feeds m (nets_of m q i) r) ((asked_of m q i).states r) feeding

  -- the condition in the first cycle
  pub condition_in : (y : ℕ) → is_in (condition_nets q.condition) y ≡ true → is_in (nets_of m q 0) y ≡ true
  condition_in y among = cone_has (cut_walk m q.cut) (asked_of m q 0).nets y (is_in_left (condition_nets q.condition) (asked_back m q (q.after - 0)).nets y among)

  -- the goal in the last cycle
  none : 0 ≡ q.after - q.after
  none = omega arith

  pub last_nets : (y : ℕ) → is_in (asked_last m q q.ends).nets y ≡ true → is_in (nets_of m q q.after) y ≡ true
  last_nets y among = asked_nets q.after y (subst (λ j. is_in (asked_back m q j).nets y ≡ true) none among)

  pub last_states : (r : ℕ) → (asked_last m q q.ends).states r ≡ true → states_of m q q.after r ≡ true
  last_states r asks = asked_states q.after r (subst (λ j. (asked_back m q j).states r ≡ true) none asks)

  -- what a cycle asks of the one before it
  module _ (i : ℕ) (below : suc i ≤ q.after) where
    back_is : asked_back m q (q.after - i) ≡ asked_before m q (asked_of m q (suc i))
    back_is = let e : q.after - i ≡ suc (q.after - suc i) = omega arith in ap (asked_back m q) e

    pub origins_in : (r : ℕ) → states_of m q (suc i) r ≡ true → (y : ℕ) → is_in (origin_nets m q r) y ≡ true → is_in (nets_of m q i) y ≡ true
    origins_in r reached y among =
        let zero_r : 0 + r ≡ r = omega arith in
        let there = subst (λ k. is_in (registers_of m) k ≡ true) zero_r (range_in (length m.circuit.registers) 0 r (states_within (suc i) r reached)) in
        asked_nets i y (subst (λ (a : Asked). is_in a.nets y ≡ true) (sym back_is)
        (in_each (origin_nets m q) (filter (states_of m q (suc i)) (registers_of m)) r y (to_filter (states_of m q (suc i)) (registers_of m) r there reached) among))

    pub origin_state : (r : ℕ) → states_of m q (suc i) r ≡ true → origin_asks m q r ≡ true → states_of m q i r ≡ true
    origin_state r reached own =
        asked_states i r (subst (λ (a : Asked). a.states r ≡ true) (sym back_is) (and_from (states_of m q (suc i) r) (origin_asks m q r) reached own))
