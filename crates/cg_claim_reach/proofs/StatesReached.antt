-- The registers whose states a question reaches, from the registers of its cones and those that it asks for.
use Rattle.std.proofs.Common.{◌≡◌, ℕ, ◌<◌, Bool, true, false, ◌||◌, ◌&&◌, not, cond, if◌then◌else◌, nat_eq, List, [], ◌∷◌}
use Rattle.std.proofs.Common.{◌++◌, length, Option, Some, None, refl, sym, ◌∙◌, ap}
use Rattle.std.specs.List.{filter, range_with_len}
use Rattle.std.proofs.Math.Bool.{or_assoc}
use Rattle.std.proofs.lemmas.Bool.{eqb-true}
use Rattle.cg_net.specs.NetSets.{is_in}
use Rattle.cg_netlist_cone.specs.declared.cone.Cone.{Cone}
use Rattle.cg_net.proofs.Members.{is_in-append}
use Rattle.cg_machine.specs.Machine.{MachineData}
use Rattle.cg_claim.specs.Question.{Copy, Question, Before, After, Changed, Side}
use Rattle.cg_claim.specs.Reach.{after_nets, after_states, before_nets, before_states, changed_nets, changed_states, feeds}
use Rattle.cg_claim.specs.Reach.{next_asks_own, origin_asks, part_asks, registers_of, same_copy, side_asks, sides_ask}
use Rattle.cg_claim.specs.Violates.{CopyPartFits, SidesFit}
use Rattle.cg_claim.specs.Question.{CopyPart, Net, Next, State, Enable}
use Rattle.cg_claim.proofs.Reached.{after_within, before_within, changed_within, feeds_within}
use Rattle.cg_claim_reach.specs.Asking.{AsksThere, PartThere, SidesThere}
use Rattle.cg_claim_reach.specs.inner.Sources.{part_states, side_states, sides_states, with_number, with_numbers}
use Rattle.cg_claim_reach.specs.Reached.{IsConeOf}
use Rattle.cg_claim_reach.proofs.Filtering.{in_filtered, in_order_are, in_ranged}

set_within : (found xs : List ℕ) (r : ℕ) → is_in (with_numbers found xs) r ≡ (is_in found r || is_in xs r)
set_within found [] r = sym (or_none (is_in found r))
  where
    or_none : (b : Bool) → (b || false) ≡ b
    or_none true = refl
    or_none false = refl
set_within found (x ∷ xs) r = set_within (with_number found x) xs r ∙ (ap (λ b. b || is_in xs r) (one (is_in found x) refl) ∙ or_assoc (is_in found r) (nat_eq r x) (is_in xs r))
  where
    or_none : (b : Bool) → (b || false) ≡ b
    or_none true = refl
    or_none false = refl

    twice : (b : Bool) → nat_eq r x ≡ b → is_in found x ≡ true → is_in found r ≡ (is_in found r || b)
    twice true same there = let here : is_in found r ≡ true = ap (is_in found) (eqb-true r x same) ∙ there in here ∙ ap (λ b. b || true) (sym here)
    twice false same there = sym (or_none (is_in found r))

    one : (b : Bool) → is_in found x ≡ b → is_in (cond b found (found ++ x ∷ [])) r ≡ (is_in found r || nat_eq r x)
    one true there = twice (nat_eq r x) refl there
    one false there = is_in-append found (x ∷ []) r ∙ ap (λ b. is_in found r || b) (or_none (nat_eq r x))

-- a set has the registers of a list
pub set_has : (regs keys : List ℕ) → keys ≡ with_numbers [] regs → (r : ℕ) → is_in regs r ≡ is_in keys r
set_has regs keys is r = sym (ap (λ l. is_in l r) is ∙ set_within [] regs r)

-- the registers whose states are asked for are those of which the question says so
part_in : (m : MachineData) (part : CopyPart) (k : ℕ) → is_in (part_states m part) k ≡ part_asks m part k
part_in m (Net y) k = refl
part_in m (Next r) k = go (next_asks_own m r)
  where
    go : (b : Bool) → is_in (if b then r ∷ [] else []) k ≡ (nat_eq k r && b)
    go true = turn (nat_eq k r)
      where
        turn : (a : Bool) → (a || false) ≡ (a && true)
        turn true = refl
        turn false = refl
    go false = turn (nat_eq k r)
      where
        turn : (a : Bool) → false ≡ (a && false)
        turn true = refl
        turn false = refl
part_in m (State r) k = turn (nat_eq k r)
  where
    turn : (a : Bool) → (a || false) ≡ a
    turn true = refl
    turn false = refl
part_in m Enable k = refl

side_in : (m : MachineData) (copy : Copy) (side : Side) (k : ℕ) → is_in (side_states m copy side) k ≡ side_asks m copy side k
side_in m copy side k = go (same_copy side.copy copy)
  where
    go : (b : Bool) → is_in (if b then part_states m side.part else []) k ≡ (b && part_asks m side.part k)
    go true = part_in m side.part k
    go false = refl

sides_in : (m : MachineData) (copy : Copy) (sides : Option (Side × Side)) (k : ℕ) → is_in (sides_states m copy sides) k ≡ sides_ask m copy sides k
sides_in m copy None k = refl
sides_in m copy (Some s) k = is_in-append (side_states m copy s.0) (side_states m copy s.1) k ∙ (ap (λ b. b || is_in (side_states m copy s.1) k) (side_in m copy s.0 k) ∙ ap (λ b. side_asks m copy s.0 k || b) (side_in m copy s.1 k))

pub asked_in : (m : MachineData) (sides : Option (Side × Side)) (copy : Copy) (first second : List ℕ) → second ≡ first ++ sides_states m copy sides → (k : ℕ) → is_in second k ≡ (is_in first k || sides_ask m copy sides k)
asked_in m sides copy first second is k = ap (λ l. is_in l k) is ∙ (is_in-append first (sides_states m copy sides) k ∙ ap (λ b. is_in first k || b) (sides_in m copy sides k))

pub part_fits : (m : MachineData) (part : CopyPart) → PartThere m part → CopyPartFits m part
part_fits m (Net y) is = tt
part_fits m (Next r) is = is
part_fits m (State r) is = is
part_fits m Enable is = tt

pub fits : (m : MachineData) (sides : Option (Side × Side)) → SidesThere m sides → SidesFit m sides
fits m None is = tt
fits m (Some s) is = (part_fits m s.0.part is.0, part_fits m s.1.part is.1)

module _ (m : MachineData) (q : Question) (asks : AsksThere m q) where
  abbrev sides_fit : SidesFit m q.sides
  sides_fit = fits m q.sides asks.sides

  -- a register is among those that show their bits at some nets where it does
  fed_in : (nets : List ℕ) (k : ℕ) → is_in (filter (feeds m nets) (registers_of m)) k ≡ feeds m nets k
  fed_in nets k = in_ranged (feeds m nets) (length m.circuit.registers) k (λ j is. feeds_within m q sides_fit nets j is)

  pub changed_are : (cone : Cone) (first numbers regs : List ℕ) → IsConeOf m (changed_nets m q) cone → first ≡ cone.registers
      → ((k : ℕ) → is_in numbers k ≡ (is_in first k || sides_ask m Changed q.sides k))
      → ((n : ℕ) → ((x : ℕ) → is_in numbers x ≡ true → x < n) → regs ≡ filter (is_in numbers) (range_with_len 0 n))
      → regs ≡ filter (changed_states m q) (registers_of m)
  changed_are cone first numbers regs is first_is asked ordered =
      in_order_are (changed_states m q) (length m.circuit.registers) numbers regs (changed_within m q sides_fit)
      (λ k. asked k ∙ ap (λ b. b || sides_ask m Changed q.sides k) (ap (λ l. is_in l k) (first_is ∙ is.registers) ∙ fed_in (changed_nets m q) k)) ordered

  pub after_are : (cone : Cone) (first second numbers regs moved same : List ℕ) (changes : ℕ → Bool) → IsConeOf m (after_nets m q) cone → first ≡ cone.registers
      → ((r : ℕ) → is_in q.changes r ≡ changes r) → moved ≡ filter (changed_states m q) (registers_of m) → same ≡ filter (λ r. not (changes r)) moved
      → ((k : ℕ) → is_in second k ≡ (is_in first k || sides_ask m After q.sides k)) → numbers ≡ second ++ same
      → ((n : ℕ) → ((x : ℕ) → is_in numbers x ≡ true → x < n) → regs ≡ filter (is_in numbers) (range_with_len 0 n))
      → regs ≡ filter (after_states m q) (registers_of m)
  after_are cone first second numbers regs moved same changes is first_is known moved_is same_is asked all ordered =
      in_order_are (after_states m q) (length m.circuit.registers) numbers regs (after_within m q sides_fit)
      (λ k. ap (λ l. is_in l k) all ∙ (is_in-append second same k
      ∙ (ap (λ b. b || is_in same k) (asked k ∙ ap (λ b. b || sides_ask m After q.sides k) (ap (λ l. is_in l k) (first_is ∙ is.registers) ∙ fed_in (after_nets m q) k))
      ∙ (or_assoc (feeds m (after_nets m q) k) (sides_ask m After q.sides k) (is_in same k)
      ∙ ap (λ b. feeds m (after_nets m q) k || (sides_ask m After q.sides k || b))
      (ap (λ l. is_in l k) same_is ∙ (in_filtered (λ r. not (changes r)) moved k
      ∙ (ap (λ l. is_in l k && not (changes k)) moved_is ∙ (ap (λ b. b && not (changes k)) (in_ranged (changed_states m q) (length m.circuit.registers) k (changed_within m q sides_fit))
      ∙ ap (λ b. changed_states m q k && not b) (sym (known k)))))))))) ordered

  pub before_are : (cone : Cone) (first second numbers regs states : List ℕ) → IsConeOf m (before_nets m q) cone → first ≡ cone.registers
      → states ≡ filter (after_states m q) (registers_of m)
      → ((k : ℕ) → is_in second k ≡ (is_in first k || sides_ask m Before q.sides k)) → numbers ≡ second ++ filter (origin_asks m q) states
      → ((n : ℕ) → ((x : ℕ) → is_in numbers x ≡ true → x < n) → regs ≡ filter (is_in numbers) (range_with_len 0 n))
      → regs ≡ filter (before_states m q) (registers_of m)
  before_are cone first second numbers regs states is first_is states_are asked all ordered =
      in_order_are (before_states m q) (length m.circuit.registers) numbers regs (before_within m q sides_fit)
      (λ k. ap (λ l. is_in l k) all ∙ (is_in-append second (filter (origin_asks m q) states) k
      ∙ (ap (λ b. b || is_in (filter (origin_asks m q) states) k) (asked k ∙ ap (λ b. b || sides_ask m Before q.sides k) (ap (λ l. is_in l k) (first_is ∙ is.registers) ∙ fed_in (before_nets m q) k))
      ∙ (or_assoc (feeds m (before_nets m q) k) (sides_ask m Before q.sides k) (is_in (filter (origin_asks m q) states) k)
      ∙ ap (λ b. feeds m (before_nets m q) k || (sides_ask m Before q.sides k || b))
      (in_filtered (origin_asks m q) states k
      ∙ (ap (λ l. is_in l k && origin_asks m q k) states_are
      ∙ ap (λ b. b && origin_asks m q k) (in_ranged (after_states m q) (length m.circuit.registers) k (after_within m q sides_fit)))))))) ordered
