-- What a question reaches: registers that are there, all that its sides ask for, its joined enable, and what the states
-- after the first cycle come from.
use Rattle.std.proofs.Common.{◌≡◌, ℕ, ◌<◌, Bool, true, false, not, ◌&&◌, ◌||◌, if◌then◌else◌, List, []}
use Rattle.std.proofs.Common.{◌++◌, length, nat_eq, slice_get, Option, None, Some, refl, sym, subst, arith, ◌⊎◌, inl, inr}
use Rattle.std.specs.List.{filter, flat_map, list_any}
use Rattle.std.specs.Option.{option_map_or}
use Rattle.std.proofs.lemmas.Bool.{and_from, both_ways, eqb-true, or_cases, or_left, or_right}
use Rattle.std.proofs.lemmas.Option.{slice_get_within}
use Rattle.cg_netlist.specs.Circuit.{RegisterCell, shown_nets}
use Rattle.cg_net.specs.NetSets.{is_in}
use Rattle.cg_net.proofs.Members.{is_in_left, is_in_right}
use Rattle.cg_machine.specs.Machine.{MachineData, walk_of}
use Rattle.cg_claim.specs.Question.{Copy, Before, After, Changed, CopyPart, Net, Next, State, Enable, Side, Question}
use Rattle.cg_claim.specs.Reach.{after_nets, after_states, before_nets, before_states, changed_nets, changed_states, enable_nets}
use Rattle.cg_claim.specs.Reach.{feeds, next_asks_own, origin_asks, origin_nets, part_asks, part_nets, registers_of}
use Rattle.cg_claim.specs.Reach.{same_copy, side_asks, side_nets, sides_ask, sides_nets}
use Rattle.cg_claim.specs.Violates.{CopyPartFits, SidesFit}
use Rattle.cg_claim.specs.inner.Copies.{nets_reached, states_reached}
use Rattle.cg_netlist_cone.proofs.Cones.{cone_has}
use Rattle.cg_netlist.proofs.WalkOrder.{in_each}

pub and_first : (a b : Bool) → (a && b) ≡ true → a ≡ true
and_first true b h = refl
and_first false b h = h

pub same_copy_self : (copy : Copy) → same_copy copy copy ≡ true
same_copy_self Before = refl
same_copy_self After = refl
same_copy_self Changed = refl

-- what a question reaches
module _ (m : MachineData) (q : Question) (fits : SidesFit m q.sides) where
  pub feeds_within : (nets : List ℕ) (r : ℕ) → feeds m nets r ≡ true → r < length m.circuit.registers
  feeds_within nets r feeding = go (slice_get m.circuit.registers r) refl feeding
    where
      go : (o : Option (RegisterCell ℕ ℕ)) → slice_get m.circuit.registers r ≡ o → option_map_or (λ cell. list_any (is_in nets) (shown_nets cell)) o false ≡ true → r < length m.circuit.registers
      go None is h = absurd (both_ways false refl h)
      go (Some cell) is h = slice_get_within m.circuit.registers r cell is

  pub part_within : (part : CopyPart) (r : ℕ) → CopyPartFits m part → part_asks m part r ≡ true → r < length m.circuit.registers
  part_within (Net y) r fit asks = absurd (both_ways false refl asks)
  part_within (Next k) r fit asks = let e : r ≡ k = eqb-true r k (and_first (nat_eq r k) (next_asks_own m k) asks) in omega (arith, e, fit)
  part_within (State k) r fit asks = let e : r ≡ k = eqb-true r k asks in omega (arith, e, fit)
  part_within Enable r fit asks = absurd (both_ways false refl asks)

  second : (a b : Bool) → (a && b) ≡ true → b ≡ true
  second true b h = h
  second false b h = absurd (both_ways false refl h)

  pub sides_within : (copy : Copy) (r : ℕ) → sides_ask m copy q.sides r ≡ true → r < length m.circuit.registers
  sides_within copy r asks = go q.sides fits asks
    where
      go : (o : Option (Side × Side)) → SidesFit m o → sides_ask m copy o r ≡ true → r < length m.circuit.registers
      go None fit h = absurd (both_ways false refl h)
      go (Some s) fit h = elim (or_cases (side_asks m copy s.0 r) (side_asks m copy s.1 r) h) [
        | inl a ↦ part_within s.0.part r fit.0 (second (same_copy s.0.copy copy) (part_asks m s.0.part r) a)
        | inr b ↦ part_within s.1.part r fit.1 (second (same_copy s.1.copy copy) (part_asks m s.1.part r) b)
      ]

  pub changed_within : (r : ℕ) → changed_states m q r ≡ true → r < length m.circuit.registers
  changed_within r h = elim (or_cases (feeds m (changed_nets m q) r) (sides_ask m Changed q.sides r) h) [ inl f ↦ feeds_within (changed_nets m q) r f | inr a ↦ sides_within Changed r a ]

  pub after_within : (r : ℕ) → after_states m q r ≡ true → r < length m.circuit.registers
  after_within r h = elim (or_cases (feeds m (after_nets m q) r) (sides_ask m After q.sides r || (changed_states m q r && not (is_in q.changes r))) h) [
    | inl f ↦ feeds_within (after_nets m q) r f
    | inr g ↦ elim (or_cases (sides_ask m After q.sides r) (changed_states m q r && not (is_in q.changes r)) g) [
      | inl a ↦ sides_within After r a
      | inr b ↦ changed_within r (and_first (changed_states m q r) (not (is_in q.changes r)) b)
    ]
  ]

  pub before_within : (r : ℕ) → before_states m q r ≡ true → r < length m.circuit.registers
  before_within r h = elim (or_cases (feeds m (before_nets m q) r) (sides_ask m Before q.sides r || (after_states m q r && origin_asks m q r)) h) [
    | inl f ↦ feeds_within (before_nets m q) r f
    | inr g ↦ elim (or_cases (sides_ask m Before q.sides r) (after_states m q r && origin_asks m q r) g) [
      | inl a ↦ sides_within Before r a
      | inr b ↦ after_within r (and_first (after_states m q r) (origin_asks m q r) b)
    ]
  ]

  -- what sides ask for is reached
  pub sides_in : (copy : Copy) (y : ℕ) → is_in (sides_nets m (enable_nets q) copy q.sides) y ≡ true → is_in (nets_reached m q copy) y ≡ true
  sides_in Before y among =
      let rest = flat_map (origin_nets m q) (filter (after_states m q) (registers_of m)) in
      cone_has (walk_of m) (enable_nets q ++ sides_nets m (enable_nets q) Before q.sides ++ rest) y
      (is_in_left (enable_nets q ++ sides_nets m (enable_nets q) Before q.sides) rest y (is_in_right (enable_nets q) (sides_nets m (enable_nets q) Before q.sides) y among))
  sides_in After y among = cone_has (walk_of m) (sides_nets m (enable_nets q) After q.sides) y among
  sides_in Changed y among = cone_has (walk_of m) (sides_nets m (enable_nets q) Changed q.sides) y among

  pub sides_ask_in : (copy : Copy) (r : ℕ) → sides_ask m copy q.sides r ≡ true → states_reached m q copy r ≡ true
  sides_ask_in Before r h = or_right (feeds m (before_nets m q) r) (sides_ask m Before q.sides r || (after_states m q r && origin_asks m q r)) (or_left (sides_ask m Before q.sides r) (after_states m q r && origin_asks m q r) h)
  sides_ask_in After r h = or_right (feeds m (after_nets m q) r) (sides_ask m After q.sides r || (changed_states m q r && not (is_in q.changes r))) (or_left (sides_ask m After q.sides r) (changed_states m q r && not (is_in q.changes r)) h)
  sides_ask_in Changed r h = or_right (feeds m (changed_nets m q) r) (sides_ask m Changed q.sides r) h

  pub enables_in : (y : ℕ) → is_in (enable_nets q) y ≡ true → is_in (before_nets m q) y ≡ true
  enables_in y among =
      let rest = flat_map (origin_nets m q) (filter (after_states m q) (registers_of m)) in
      cone_has (walk_of m) (enable_nets q ++ sides_nets m (enable_nets q) Before q.sides ++ rest) y
      (is_in_left (enable_nets q ++ sides_nets m (enable_nets q) Before q.sides) rest y (is_in_left (enable_nets q) (sides_nets m (enable_nets q) Before q.sides) y among))

  pub origins_in : (r y : ℕ) → is_in (filter (after_states m q) (registers_of m)) r ≡ true → is_in (origin_nets m q r) y ≡ true → is_in (before_nets m q) y ≡ true
  origins_in r y among inside =
      let rest = flat_map (origin_nets m q) (filter (after_states m q) (registers_of m)) in
      cone_has (walk_of m) (enable_nets q ++ sides_nets m (enable_nets q) Before q.sides ++ rest) y
      (is_in_right (enable_nets q ++ sides_nets m (enable_nets q) Before q.sides) rest y (in_each (origin_nets m q) (filter (after_states m q) (registers_of m)) r y among inside))

  -- a side of the question asks for what is reached in its copy
  pub side_nets_in : (sides : Side × Side) → q.sides ≡ Some sides → (side : Side) → (side ≡ sides.0) ⊎ (side ≡ sides.1)
      → (y : ℕ) → is_in (part_nets m (enable_nets q) side.part) y ≡ true → is_in (nets_reached m q side.copy) y ≡ true
  side_nets_in sides is side one y among =
      let asked : is_in (side_nets m (enable_nets q) side.copy side) y ≡ true = subst (λ b. is_in (if b then part_nets m (enable_nets q) side.part else []) y ≡ true) (sym (same_copy_self side.copy)) among in
      sides_in side.copy y (subst (λ o. is_in (sides_nets m (enable_nets q) side.copy o) y ≡ true) (sym is) (elim one [
        | inl first ↦ is_in_left (side_nets m (enable_nets q) side.copy sides.0) (side_nets m (enable_nets q) side.copy sides.1) y (subst (λ z. is_in (side_nets m (enable_nets q) side.copy z) y ≡ true) first asked)
        | inr other ↦ is_in_right (side_nets m (enable_nets q) side.copy sides.0) (side_nets m (enable_nets q) side.copy sides.1) y (subst (λ z. is_in (side_nets m (enable_nets q) side.copy z) y ≡ true) other asked)
      ]))

  pub side_asks_in : (sides : Side × Side) → q.sides ≡ Some sides → (side : Side) → (side ≡ sides.0) ⊎ (side ≡ sides.1)
      → (r : ℕ) → part_asks m side.part r ≡ true → states_reached m q side.copy r ≡ true
  side_asks_in sides is side one r asks =
      let asked : side_asks m side.copy side r ≡ true = and_from (same_copy side.copy side.copy) (part_asks m side.part r) (same_copy_self side.copy) asks in
      sides_ask_in side.copy r (subst (λ o. sides_ask m side.copy o r ≡ true) (sym is) (elim one [
        | inl first ↦ or_left (side_asks m side.copy sides.0 r) (side_asks m side.copy sides.1 r) (subst (λ z. side_asks m side.copy z r ≡ true) first asked)
        | inr other ↦ or_right (side_asks m side.copy sides.0 r) (side_asks m side.copy sides.1 r) (subst (λ z. side_asks m side.copy z r ≡ true) other asked)
      ]))
