-- A target without a register of G in its cone shows none of them: its question has one answer whatever the other bits
-- of these registers are.
use Rattle.std.proofs.Common.{◌≡◌, ℕ, Bool, true, false, not, ◌&&◌, List, [], map, length, if◌then◌else◌, sym, refl}
use Rattle.std.proofs.Common.{◌∙◌, ap, arith}
use Rattle.std.specs.List.{range_with_len}
use Rattle.std.proofs.lemmas.Bool.{and_parts, both_ways}
use Rattle.cg_cell.specs.Gates.{exclusive_or}
use Rattle.cg_net.specs.NetSets.{is_in}
use Rattle.cg_netlist.specs.Moment.{bit}
use Rattle.cg_netlist.proofs.Values.{map_same}
use Rattle.cg_machine.specs.Claims.{Literal, Target, Unseen, any_at, followed, followed_bit, mixed}
use Rattle.cg_machine.specs.Machine.{IsMachine, MachineData, each_register, values}
use Rattle.cg_machine.proofs.Bits.{each_bit}
use Rattle.cg_machine.proofs.Lists.{below_range}
use Rattle.cg_claim.specs.declared.leaf.LeafSource.{LeafSource}
use Rattle.cg_claim.specs.declared.leaf.LeafSource.TheVariants.{Input as InputOf, Register as RegisterOf}
use Rattle.cg_claim.specs.LeafBits.{leaf_bit}
use Rattle.cg_claim.specs.Leaves.{Leaf, is_reached, is_source, leaves_of}
use Rattle.cg_claim.specs.Question.{After, Before, Changed, Copy, Question, target_part, unseen_question}
use Rattle.cg_claim.specs.Reach.{changed_states}
use Rattle.cg_claim.specs.Targets.{meets}
use Rattle.cg_claim.specs.Violates.{CopyPartFits, Free, part_bit, violates}
use Rattle.cg_claim.specs.inner.Copies.{source_bit}
use Rattle.cg_claim.specs.inner.Never.{IsNeverViolated}
use Rattle.cg_claim.proofs.ClaimsHold.{never_unseen}
use Rattle.cg_claim.proofs.GoalBits.{goal_at}
use Rattle.cg_claim.proofs.LeavesFound.{found_bit, leaf_among}
use Rattle.cg_netlist_cone.proofs.ConeEdge.{any_in}

module _ (m : MachineData) (E : List Literal) (Q G : List ℕ) (t : Target) (good : IsMachine m) (fit : CopyPartFits m (target_part t)) (none : meets m E G t ≡ false) where
  -- its question
  abbrev q : Question
  q = unseen_question E Q G t

  -- the same free bits, but for those in G, which are as before
  abbrev still : Free → Free
  still w = record { s0 = w.s0; x0 = w.x0; free = w.free; x1 = w.x1; other = followed m Q w.s0 w.x0 w.free }

  no_changed : (r : ℕ) → (changed_states m q r && is_in G r) ≡ true → ⊥
  no_changed r h = let p = and_parts (changed_states m q r) (is_in G r) h in both_ways (meets m E G t) none (any_in (changed_states m (unseen_question E [] G t)) G r p.1 p.0)

  agree : (w : Free) (copy : Copy) (source : LeafSource) → is_reached m q copy source ≡ true → source_bit m w copy source ≡ source_bit m (still w) copy source
  agree w Before (InputOf y) reached = refl
  agree w Before (RegisterOf r) reached = refl
  agree w After (InputOf y) reached = refl
  agree w After (RegisterOf r) reached = refl
  agree w Changed (InputOf y) reached = refl
  agree w Changed (RegisterOf r) reached = absurd (no_changed r reached)

  mixed_same : (s : List Bool) → each_register m (bit s) ≡ s → mixed m G s s ≡ s
  mixed_same s is = map_same (λ r. if is_in G r then bit s r else bit s r) (bit s) (range_with_len 0 (length m.circuit.registers)) (λ r among. either (is_in G r) (bit s r)) ∙ is
    where
      either : (b c : Bool) → (if b then c else c) ≡ c
      either true c = refl
      either false c = refl

  followed_is : (w : Free) → each_register m (bit (followed m Q w.s0 w.x0 w.free)) ≡ followed m Q w.s0 w.x0 w.free
  followed_is w =
      let f : ℕ → Bool = followed_bit m Q (values m w.s0 w.x0) w.s0 w.free in
      map_same (bit (each_register m f)) f (range_with_len 0 (length m.circuit.registers)) (λ r among. each_bit m f r (let b = below_range (length m.circuit.registers) 0 r among in omega (arith, b)))

  no_difference : (b : Bool) → exclusive_or b b ≡ false
  no_difference true = refl
  no_difference false = refl

  and_none : (a b : Bool) → b ≡ false → (a && b) ≡ false
  and_none true b is = is
  and_none false b is = refl

  still_no : (w : Free) → violates m q (still w) ≡ false
  still_no w =
      let s = followed m Q w.s0 w.x0 w.free in
      let same : mixed m G s s ≡ s = mixed_same s (followed_is w) in
      and_none (not (any_at (values m w.s0 w.x0) E)) (exclusive_or (part_bit m E (values m s w.x1) s (target_part t)) (part_bit m E (values m (mixed m G s s) w.x1) (mixed m G s s) (target_part t)))
      (ap (λ u. exclusive_or (part_bit m E (values m s w.x1) s (target_part t)) (part_bit m E (values m u w.x1) u (target_part t))) same ∙ no_difference (part_bit m E (values m s w.x1) s (target_part t)))

  never : IsNeverViolated m q
  never w free =
      let f : Leaf → Bool = λ (l : Leaf). source_bit m w l.copy l.source in
      let found : (copy : Copy) (source : LeafSource) → is_source m source ≡ true → is_reached m q copy source ≡ true → leaf_bit (leaves_of m q) (map f (leaves_of m q)) copy source ≡ source_bit m w copy source =
      λ copy source is reached. found_bit f (leaves_of m q) (record { copy = copy; source = source }) (leaf_among m q copy source is reached) in
      sym (goal_at m q good (fit, fit) (map f (leaves_of m q)) w free found)
      ∙ (goal_at m q good (fit, fit) (map f (leaves_of m q)) (still w) (record { s0 = free.s0; x0 = free.x0; x1 = free.x1 }) (λ copy source is reached. found copy source is reached ∙ agree w copy source reached)
      ∙ still_no w)

  pub apart_unseen : Unseen m E Q G t
  apart_unseen = never_unseen m E Q G t never
