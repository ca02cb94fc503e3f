-- The hold claims of one register, built over one list.
use Rattle.std.proofs.Common.{◌≡◌, ◌<◌, ◌≤◌, ℕ, ◌+◌, Bool, true, false, ◌&&◌, if◌then◌else◌, List, [], ◌∷◌, ◌++◌, length, length-append, slice_index_or}
use Rattle.std.proofs.Common.{Option, None, Some, Result, Ok, Err, OnOk, IsTrue, refl, sym, ◌∙◌, ap, subst, arith, append-nil, map}
use Rattle.std.specs.Prelude.{position}
use Rattle.cg_limit.specs.declared.TheConstants.{MOST_CLAIM_NODES}
use Rattle.cg_aig.specs.Aig.{IsAig, aig_and, aig_ops, and_with, in_order, inverse, pair_node_at, same_pair, simple}
use Rattle.cg_aig.specs.AigLaws.{aig_lawful}
use Rattle.cg_aig.specs.Limits.{AndRefuses}
use Rattle.cg_aig.specs.declared.fault.AigFault.{AigFault}
use Rattle.cg_aig.specs.declared.fault.AigFault.TheVariants.{Limit, NoMemory}
use Rattle.cg_cell.specs.Domain.{Keeps, Made, Makes, Seen, Stands, after}
use Rattle.cg_cell.proofs.Building.{keeps_self, keeps_then}
use Rattle.cg_cell.proofs.Evals.{valid_at}
use Rattle.cg_claim.proofs.HoldWidths.{hold_leaves, hold_widths}
use Rattle.cg_claim.specs.Build.{aig_values, claim_run, leaf_list, literal_of, nodes_of, size}
use Rattle.cg_claim.specs.Laws.{goal_bit}
use Rattle.cg_claim.specs.Leaves.{Leaf, shown_leaf, width_of}
use Rattle.cg_claim.specs.declared.leaf.Leaf.{Leaf as ShownLeaf}
use Rattle.cg_claim.specs.Question.{Question, held_question, hold_question}
use Rattle.cg_claim.specs.Reach.{inputs_of_register}
use Rattle.cg_claim_reach.specs.Asking.{side_of}
use Rattle.cg_claim_reach.specs.declared.asked.Side.{Side as AskedSide}
use Rattle.cg_machine.specs.Claims.{Literal}
use Rattle.cg_machine.specs.Machine.{IsMachine, MachineData, walk_of}
use Rattle.cg_net.specs.NetSets.{is_in}
use Rattle.cg_netlist_cone.specs.Cone.{cone_of}
use Rattle.cg_unroll.specs.Claims.{IsClaim, IsRefused}
use Rattle.cg_unroll.specs.Holding.{HasRoom, Holding, HoldsBefore, IsHolding, TellsClaim}
use Rattle.cg_unroll.specs.declared.claim.ClaimFault.{ClaimFault}
use Rattle.cg_unroll.specs.declared.claim.ClaimFault.TheVariants.{Wide, Limit as ClaimLimit, NoMemory as NoClaimMemory}
use Rattle.cg_unroll.specs.inner.Faults.{fault_of}
use Rattle.cg_unroll.proofs.HoldAlike.{differs, enable_is, goal_is, held_goal, held_list, in_cone, list_is}

-- an `and` adds one pair or none
put_one : (s : Seen) (p : ℕ × ℕ) (found : Option ℕ) → (length s.pairs ≤ length (pair_node_at found s p).pairs) × (length (pair_node_at found s p).pairs ≤ length s.pairs + 1)
put_one s p (Some k) = (omega arith, omega arith)
put_one s p None = let e = length-append s.pairs (p ∷ []) in (omega (arith, e), omega (arith, e))

and_one : (s : Seen) (p : ℕ × ℕ) (found : Option ℕ) → (length s.pairs ≤ length (and_with found s p).pairs) × (length (and_with found s p).pairs ≤ length s.pairs + 1)
and_one s p (Some a) = (omega arith, omega arith)
and_one s p None = put_one s p (position (same_pair p) s.pairs)

one_and : (s : Seen) (a b : ℕ) → (length s.pairs ≤ length (aig_and s a b).pairs) × (length (aig_and s a b).pairs ≤ length s.pairs + 1)
one_and s a b = and_one s (in_order a b) (simple a b)

-- and one where there is none yet
new_one : (s : Seen) (a b : ℕ) → simple a b ≡ None → position (same_pair (in_order a b)) s.pairs ≡ None → length (aig_and s a b).pairs ≡ length s.pairs + 1
new_one s a b none new =
    ap (λ (o : Option ℕ). length (and_with o s (in_order a b)).pairs) none
    ∙ (ap (λ (o : Option ℕ). length (pair_node_at o s (in_order a b)).pairs) new ∙ length-append s.pairs (in_order a b ∷ []))

abbrev seen : ℕ → List (ℕ × ℕ) → Seen
seen n ps = record { number = n; pairs = ps }

-- a list that did not grow is the same
same_list : (s t : Seen) → Keeps aig_ops s t → length t.pairs ≤ length s.pairs → s ≡ t
same_list s t keeps short = go keeps.pairs.added keeps.pairs.whole
  where
    go : (added : List (ℕ × ℕ)) → t.pairs ≡ s.pairs ++ added → s ≡ t
    go [] whole = ap (λ (n : ℕ). seen n s.pairs) (sym keeps.number) ∙ ap (λ (ps : List (ℕ × ℕ)). seen t.number ps) (sym (whole ∙ append-nil s.pairs))
    go (p ∷ added) whole = let e = ap (λ (ps : List (ℕ × ℕ)). length ps) whole in let f = length-append s.pairs (p ∷ added) in absurd (omega (arith, e, f, short))

longer : (s t : Seen) → Keeps aig_ops s t → length s.pairs ≤ length t.pairs
longer s t keeps = let e = ap (λ (ps : List (ℕ × ℕ)). length ps) keeps.pairs.whole in let f = length-append s.pairs keeps.pairs.added in omega (arith, e, f)

module _ (m : MachineData) (good : IsMachine m) (r width : ℕ) (h : Holding) (is : IsHolding m r width h) (l : Literal)
    (among : is_in (cone_of (walk_of m) (inputs_of_register m r)) l.0 ≡ true) where
  -- the literal that is 1 where that of the stage is 0
  abbrev pub off : ℕ
  off = inverse (literal_of aig_values (λ y. slice_index_or h.nets y 0) l)

  abbrev last : Made
  last = aig_and is.list off h.differs

  off_is : off ≡ enable_is m good r l
  off_is = ap (λ v. inverse (if l.1 then inverse v else v)) (is.nets.at l.0 (in_cone m good r l among))

  list_same : is.list ≡ (differs m good r).domain
  list_same = is.held.list ∙ held_list m good r

  goal_same : h.differs ≡ (differs m good r).answer
  goal_same = is.held.goal ∙ held_goal m good r

  last_is : aig_and (differs m good r).domain (enable_is m good r l) (differs m good r).answer ≡ last
  last_is =
      ap (λ (s : Seen). aig_and s (enable_is m good r l) (differs m good r).answer) (sym list_same)
      ∙ (ap (λ a. aig_and is.list a (differs m good r).answer) (sym off_is) ∙ ap (λ x. aig_and is.list off x) (sym goal_same))

  -- the list and the goal of the claim
  run_list : (claim_run m (hold_question l r)).domain ≡ after is.list last
  run_list = list_is m good r l among ∙ (ap (λ (s : Seen). after s (aig_and (differs m good r).domain (enable_is m good r l) (differs m good r).answer)) (sym list_same) ∙ ap (λ (z : Made). after is.list z) last_is)

  run_goal : (claim_run m (hold_question l r)).answer ≡ last.answer
  run_goal = goal_is m good r l among ∙ ap (λ (z : Made). z.answer) last_is

  nodes_are : nodes_of m (hold_question l r) ≡ is.list.number + length last.pairs
  nodes_are = ap size run_list

  -- whatever the literal, there is at most one and-node more than there is without it
  pub one_more : nodes_of m (hold_question l r) ≤ h.claim.aig.number + h.ands + 1
  one_more = let e = one_and is.list off h.differs in let n = is.grown.number in let k = is.ands in omega (arith, nodes_are, e.1, n, k)

  module _ (there : l.0 < length m.circuit.names) where
    valid_net : IsTrue (aig_ops.is_valid is.list (slice_index_or h.nets l.0 0))
    valid_net = let long = is.nets.table.long in valid_at aig_ops is.list h.nets l.0 is.nets.table.valid (omega (arith, long, there))

    valid_literal : (b : Bool) → IsTrue (aig_ops.is_valid is.list (if b then inverse (slice_index_or h.nets l.0 0) else slice_index_or h.nets l.0 0))
    valid_literal true = (aig_lawful.not_stands is.list (slice_index_or h.nets l.0 0) valid_net).valid
    valid_literal false = valid_net

    valid_off : IsTrue (aig_ops.is_valid is.list off)
    valid_off = (aig_lawful.not_stands is.list (literal_of aig_values (λ y. slice_index_or h.nets y 0) l) (valid_literal l.1)).valid

    -- both are literals of the list as it stands
    pub off_valid : IsTrue (aig_ops.is_valid h.claim.aig off)
    off_valid = is.grown.valid off valid_off

    pub differs_valid : IsTrue (aig_ops.is_valid h.claim.aig h.differs)
    differs_valid = is.grown.valid h.differs is.held.valid

    -- the bits of the claim's goal
    goal_bits : (bits : List Bool) → goal_bit m (hold_question l r) bits ≡ (aig_ops.bit is.list bits off && aig_ops.bit is.list bits h.differs)
    goal_bits bits =
        ap (λ (s : Seen). aig_ops.bit s bits (claim_run m (hold_question l r)).answer) run_list
        ∙ (ap (λ v. aig_ops.bit (after is.list last) bits v) run_goal
        ∙ (aig_lawful.and_stands is.list off h.differs valid_off is.held.valid).bit bits)

    -- the `and` of the two tells the claim
    pub tells : (t : Seen) (v : ℕ) → Stands aig_ops h.claim.aig t v (λ bits. aig_ops.bit h.claim.aig bits off && aig_ops.bit h.claim.aig bits h.differs)
        → Makes h.claim.aig (aig_and h.claim.aig off h.differs) t v → IsAig t
        → TellsClaim m (hold_question l r) width (record { aig = t; goal = v; leaves = h.claim.leaves })
    tells t v stands makes sound = record {
      number = stands.keeps.number ∙ (is.grown.number ∙ sym (ap (λ (s : Seen). s.number) run_list));
      bits = λ bits.
          stands.bit bits
          ∙ (ap (λ b. b && aig_ops.bit h.claim.aig bits h.differs) (is.grown.bits off bits valid_off)
          ∙ (ap (λ b. aig_ops.bit is.list bits off && b) (is.grown.bits h.differs bits is.held.valid)
          ∙ sym (goal_bits bits)));
      leaves = is.held.leaves ∙ ap (λ (ls : List Leaf). map shown_leaf ls) (sym (hold_leaves m good l r among));
      narrow = let e = hold_widths m good l r among in let n = is.held.narrow in omega (arith, e, n);
      small = go is.grown.pairs.added is.grown.pairs.whole;
      valid = stands.valid;
    }
      where
        later : length h.claim.aig.pairs ≤ length t.pairs
        later = longer h.claim.aig t stands.keeps

        go : (added : List (ℕ × ℕ)) → h.claim.aig.pairs ≡ is.list.pairs ++ added → nodes_of m (hold_question l r) ≤ MOST_CLAIM_NODES
        go [] whole =
            let short : length h.claim.aig.pairs ≤ length is.list.pairs = (let e = ap (λ (ps : List (ℕ × ℕ)). length ps) (whole ∙ append-nil is.list.pairs) in omega (arith, e)) in
            let same : is.list ≡ h.claim.aig = same_list is.list h.claim.aig is.grown short in
            let made : after is.list last ≡ t = ap (λ (s : Seen). after s (aig_and s off h.differs)) same ∙ makes.left in
            let e : nodes_of m (hold_question l r) ≡ size t = ap size (run_list ∙ made) in
            let small = sound.small in
            omega (arith, e, small)
        go (p ∷ added) whole =
            let e = ap (λ (ps : List (ℕ × ℕ)). length ps) whole in
            let f = length-append is.list.pairs (p ∷ added) in
            let one = one_and is.list off h.differs in
            let n = is.grown.number in
            let k = stands.keeps.number in
            let small = sound.small in
            omega (arith, e, f, one.1, n, k, small, later, nodes_are)

    -- and what the claims have in common stays
    pub stays : (t : Seen) (v : ℕ) → Keeps aig_ops h.claim.aig t
        → IsHolding m r width (record { claim = record { aig = t; goal = v; leaves = h.claim.leaves }; nets = h.nets; differs = h.differs; ands = h.ands })
    stays t v keeps = record { list = is.list; held = is.held; nets = is.nets; ands = is.ands; grown = keeps_then aig_ops is.list h.claim.aig t is.grown keeps }

    -- where the `and` is refused, so is the claim
    pub refused : HasRoom h → (fault : AigFault) → AndRefuses h.claim.aig off h.differs fault
        → IsRefused m (hold_question l r) width (fault_of fault)
    refused room NoMemory refuses = tt
    refused room (Limit which) refuses =
        let full = refuses.1.1 in
        let alone = room full in
        let k = is.ands in
        let same : is.list ≡ h.claim.aig = same_list is.list h.claim.aig is.grown (omega (arith, alone, k)) in
        let new = new_one is.list off h.differs refuses.0 (ap (λ (s : Seen). position (same_pair (in_order off h.differs)) s.pairs) same ∙ refuses.1.0) in
        let n = is.grown.number in
        let e = hold_widths m good l r among in
        let w = is.held.narrow in
        (refuses.1.2, omega (arith, e, w), omega (arith, full, alone, k, new, n, nodes_are))

-- where the claims stand, a refusal of what they have in common is want of memory
pub wants_memory : (m : MachineData) (r width : ℕ) (h : Holding) → IsHolding m r width h → (fault : ClaimFault) → IsRefused m (held_question r) width fault → fault ≡ NoClaimMemory
wants_memory m r width h is (Wide n) refuses = let narrow = is.held.narrow in let e = refuses.0 in let more = refuses.1 in absurd (omega (arith, narrow, e, more))
wants_memory m r width h is (ClaimLimit which) refuses = let small = is.held.small in let more = refuses.2 in absurd (omega (arith, small, more))
wants_memory m r width h is NoClaimMemory refuses = refl

-- without a literal there are no more nodes than with one
pub least_nodes : (m : MachineData) (good : IsMachine m) (r : ℕ) (l : Literal) → is_in (cone_of (walk_of m) (inputs_of_register m r)) l.0 ≡ true → nodes_of m (held_question r) ≤ nodes_of m (hold_question l r)
least_nodes m good r l among =
    let s : Seen = (differs m good r).domain in
    let a : nodes_of m (hold_question l r) ≡ size (after s (aig_and s (enable_is m good r l) (differs m good r).answer)) = ap size (list_is m good r l among) in
    let b : nodes_of m (held_question r) ≡ size s = ap size (held_list m good r) in
    let one = one_and s (enable_is m good r l) (differs m good r).answer in
    omega (arith, a, b, one.0)

-- what is asked without a literal
abbrev pub asked_of : AskedSide × AskedSide → Question
asked_of sides = record { enables = []; follows = []; changes = []; sides = Some (side_of sides.0, side_of sides.1) }

-- the claim of that is what all have in common
pub holds_of : {T E : Type 0} (result : Result T E) (m : MachineData) (r width : ℕ) (q : Question) (list : Seen) (goal : ℕ) (leaves kept : List ShownLeaf) (nets : List ℕ) (n : ℕ) → q ≡ held_question r → kept ≡ leaves
    → n ≡ length list.pairs
    → OnOk result (IsClaim m q width (record { aig = list; goal = goal; leaves = leaves }))
    → OnOk result (HoldsBefore m q (leaf_list (width_of m q)) list nets)
    → OnOk result (IsHolding m r width (record { claim = record { aig = list; goal = goal; leaves = kept }; nets = nets; differs = goal; ands = n }))
holds_of (Ok x) m r width q list goal leaves kept nets n asks same count claim hold = record {
  list = list;
  held = subst (λ (p : Question). IsClaim m p width (record { aig = list; goal = goal; leaves = kept })) asks
      (subst (λ (ls : List ShownLeaf). IsClaim m q width (record { aig = list; goal = goal; leaves = ls })) (sym same) claim);
  nets = subst (λ (p : Question). HoldsBefore m p (leaf_list (width_of m p)) list nets) asks hold;
  ands = count;
  grown = keeps_self aig_ops list;
}
holds_of (Err e) m r width q list goal leaves kept nets n asks same count claim hold = tt
