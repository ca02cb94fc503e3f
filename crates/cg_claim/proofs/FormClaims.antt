-- A goal of the common form at bits of its leaves, and over all free bits: with a cut it takes the nets of the cut as they are in the
-- machine.
use Rattle.std.proofs.Common.{◌≡◌, ◌↔◌, ℕ, zero, suc, ◌+◌, ◌*◌, ◌≤◌, Bool, true, false, ◌&&◌, if◌then◌else◌, List, [], map, length, nat_eq, slice_index_or}
use Rattle.std.proofs.Common.{Option, None, Some, refl, sym, ◌∙◌, ap, arith}
use Rattle.std.specs.List.{list_any}
use Rattle.std.specs.Option.{option_map_or}
use Rattle.std.proofs.lemmas.Bool.{and_from, both_ways, eq-eqb, ltb-true, ne_eqb, or_right}
use Rattle.std.proofs.lemmas.List.{length-map}
use Rattle.cg_aig.specs.Aig.{aig_ops}
use Rattle.cg_cell.specs.Domain.{Seen}
use Rattle.cg_cell.proofs.Runs.{Has}
use Rattle.cg_net.specs.NetSets.{is_in}
use Rattle.cg_netlist.specs.Circuit.{data_inputs}
use Rattle.cg_netlist.specs.Moment.{bit}
use Rattle.cg_netlist.proofs.NetsOf.{beside_at}
use Rattle.cg_machine.specs.Machine.{IsMachine, MachineData, values}
use Rattle.cg_machine.proofs.Bits.{each_bit, length-each}
use Rattle.cg_claim.specs.Build.{aig_values, leaf_list}
use Rattle.cg_claim.specs.Leaves.{is_source}
use Rattle.cg_claim.specs.declared.leaf.Leaf.{Leaf}
use Rattle.cg_claim.specs.declared.leaf.LeafSource.{LeafSource}
use Rattle.cg_claim.specs.declared.leaf.LeafSource.TheVariants.{Input, Register}
use Rattle.cg_claim.specs.form.Build.{claim_run, leaf_value}
use Rattle.cg_claim.specs.form.Laws.{CutNetsAreLeaves, CutSuffices, FormGoalViolates, FormIsSaid, OtherCutNetsAreLeaves, goal_bit}
use Rattle.cg_claim.specs.form.LeafBits.{free_of, leaf_bit, violates_at}
use Rattle.cg_claim.specs.form.Leaves.{is_cut, is_other_leaf, leaf_place, leaves_of, other_reads, same_leaf, width_of}
use Rattle.cg_claim.specs.form.Question.{Changes, Ends, Question, Shows}
use Rattle.cg_claim.specs.form.Reach.{nets_of, other_nets}
use Rattle.cg_claim.specs.form.Violates.{Free, IsAsked, IsFree, nets_at, other_state, violates}
use Rattle.cg_claim.proofs.FormCycles.{Agree, other_bit, source_bit}
use Rattle.cg_claim.proofs.FormGoals.{built_from, goal_is}
use Rattle.cg_claim.proofs.FormLeaves.{cut_net_in, found_bit, leaf_among, other_among, place_below, source_in}
use Rattle.cg_claim.proofs.GoalBits.{aig_fit, leaf_lit}
use Rattle.cg_claim.proofs.Reached.{and_first}

leaf_has : (leaves : List Leaf) (bits : List Bool) (i : ℕ) (source : LeafSource) → Has aig_ops bits (leaf_list (length leaves)) (leaf_value aig_values leaves i source) (leaf_bit leaves bits i source)
leaf_has leaves bits i source = go (leaf_place leaves (record { copy = i; source = source })) refl
  where
    go : (o : Option ℕ) → leaf_place leaves (record { copy = i; source = source }) ≡ o
        → Has aig_ops bits (leaf_list (length leaves)) (option_map_or (λ k. 2 * (k + 1)) o 0) (option_map_or (λ k. slice_index_or bits k false) o false)
    go None is = (aig_fit bits).zero.has (leaf_list (length leaves)) refl
    go (Some k) is = leaf_lit (length leaves) k bits (place_below leaves (record { copy = i; source = source }) k is)

-- the nets of a cut are leaves
pub cut_nets_are_leaves : CutNetsAreLeaves
cut_nets_are_leaves m q i y inside is among =
    leaf_among m q i inside (Input y) (cut_net_in m q.cut y is) (or_right (other_reads m q q.ends y && nat_eq i q.after) (is_in (nets_of m q i) y) among)

pub other_cut_nets_are_leaves : OtherCutNetsAreLeaves
other_cut_nets_are_leaves m q part G y shows is among =
    other_among m q part G shows (Input y) (cut_net_in m q.cut y is) (and_from (is_cut q.cut y) (is_in (other_nets m q) y) is among)

module _ (m : MachineData) (good : IsMachine m) (q : Question) (asked : IsAsked m q) where
  -- the list has the leaves of the claim, and at bits of theirs the goal is 1 exactly where the free bits that they stand for violate it
  goal_built : (bits : List Bool) (w : Free) → IsFree m w → Agree m q w (leaf_bit (leaves_of m q) bits)
      → ((claim_run m q).domain.number ≡ width_of m q) × (goal_bit m q bits ≡ violates m q w)
  goal_built bits w free agree =
      let leaves : List Leaf = leaves_of m q in
      let s : Seen = leaf_list (length leaves) in
      let valid = λ (i : ℕ) (source : LeafSource). (leaf_has leaves bits i source).valid in
      let agree' : Agree m q w (λ i source. aig_ops.bit s bits (leaf_value aig_values leaves i source)) = record {
        sources = λ i inside source is reached. (leaf_has leaves bits i source).bit ∙ agree.sources i inside source is reached;
        cuts = λ i inside y is among. (leaf_has leaves bits i (Input y)).bit ∙ agree.cuts i inside y is among;
        others = λ part G shows source is reached. (leaf_has leaves bits (suc q.after) source).bit ∙ agree.others part G shows source is reached;
        other_cuts = λ part G shows y is among. (leaf_has leaves bits (suc q.after) (Input y)).bit ∙ agree.other_cuts part G shows y is among;
      } in
      let goal = goal_is aig_values bits (aig_fit bits) m good q asked.literals asked.ends w free leaves s valid agree' asked.apart in
      let from = built_from aig_values bits (aig_fit bits) m good q asked.literals asked.ends w free leaves s valid agree' asked.apart in
      (goal.keeps.number ∙ from.number, goal.has.bit)

  abbrev pub other_net : Free → Ends → ℕ → Bool
  other_net w (Changes register) y = false
  other_net w (Shows part G) y = bit (values m (other_state m q w G) (w.inputs q.after)) y

  -- the bit of a source in a copy, from free bits
  abbrev source_at : Free → ℕ → LeafSource → Bool
  source_at w i source = if nat_eq i (suc q.after) then other_bit w source else source_bit m w i source

  abbrev net_at : Free → ℕ → ℕ → Bool
  net_at w i y = if nat_eq i (suc q.after) then other_net w q.ends y else bit (nets_at m q w i) y

  abbrev bit_in : Free → ℕ → LeafSource → Bool
  bit_in w i (Input y) = if is_cut q.cut y then net_at w i y else source_at w i (Input y)
  bit_in w i (Register r) = source_at w i (Register r)

  abbrev pub bits_from : Free → List Bool
  bits_from w = map (λ (l : Leaf). bit_in w l.copy l.source) (leaves_of m q)

  below : (i : ℕ) → i ≤ q.after → nat_eq i (suc q.after) ≡ false
  below i inside = ne_eqb i (suc q.after) (λ e. let f : i ≡ suc q.after = e in omega (arith, f, inside))

  found : (w : Free) (i : ℕ) (source : LeafSource) → list_any (same_leaf (record { copy = i; source = source })) (leaves_of m q) ≡ true → leaf_bit (leaves_of m q) (bits_from w) i source ≡ bit_in w i source
  found w i source among = found_bit (λ (l : Leaf). bit_in w l.copy l.source) (leaves_of m q) (record { copy = i; source = source }) among

  no_cut : (w : Free) (i : ℕ) (source : LeafSource) → is_source m source ≡ true → bit_in w i source ≡ source_at w i source
  no_cut w i (Input y) is = ap (λ b. if b then net_at w i y else source_at w i (Input y)) (asked.apart y is)
  no_cut w i (Register r) is = refl

  in_cut : (w : Free) (i y : ℕ) → is_cut q.cut y ≡ true → bit_in w i (Input y) ≡ net_at w i y
  in_cut w i y is = ap (λ b. if b then net_at w i y else source_at w i (Input y)) is

  agree_from : (w : Free) → Agree m q w (leaf_bit (leaves_of m q) (bits_from w))
  agree_from w = record {
    sources = λ i inside source is reached.
        found w i source (leaf_among m q i inside source (source_in m q.cut source is) reached) ∙ no_cut w i source is
        ∙ ap (λ b. if b then other_bit w source else source_bit m w i source) (below i inside);
    cuts = λ i inside y is among.
        found w i (Input y) (cut_nets_are_leaves m q i y inside is among) ∙ in_cut w i y is
        ∙ ap (λ b. if b then other_net w q.ends y else bit (nets_at m q w i) y) (below i inside);
    others = λ part G shows source is reached.
        found w (suc q.after) source (other_among m q part G shows source (source_in m q.cut source is) reached) ∙ no_cut w (suc q.after) source is
        ∙ ap (λ b. if b then other_bit w source else source_bit m w (suc q.after) source) (eq-eqb (suc q.after) (suc q.after) refl);
    other_cuts = λ part G shows y is among.
        found w (suc q.after) (Input y) (other_cut_nets_are_leaves m q part G y shows is among) ∙ in_cut w (suc q.after) y is
        ∙ ap (λ b. if b then other_net w q.ends y else bit (nets_at m q w (suc q.after)) y) (eq-eqb (suc q.after) (suc q.after) refl)
        ∙ ap (λ e. other_net w e y) shows;
  }

  pub at_free : (w : Free) → IsFree m w → goal_bit m q (bits_from w) ≡ violates m q w
  at_free w free = (goal_built (bits_from w) w free (agree_from w)).1

  pub long_from : (w : Free) → length (bits_from w) ≡ width_of m q
  long_from w = length-map (leaves_of m q) (λ (l : Leaf). bit_in w l.copy l.source)

  -- with or without a cut: where the goal is never 1, no free bits violate the claim
  pub never_free : ((bits : List Bool) → length bits ≡ width_of m q → goal_bit m q bits ≡ false) → (w : Free) → IsFree m w → violates m q w ≡ false
  never_free never w free = sym (at_free w free) ∙ never (bits_from w) (long_from w)

  -- without a cut the leaves stand for free bits
  module _ (whole : q.cut ≡ None) where
    uncut : (y : ℕ) → is_cut q.cut y ≡ false
    uncut y = ap (λ c. is_cut c y) whole

    abbrev free_at : List Bool → Free
    free_at bits = free_of m (suc q.after) (leaves_of m q) bits

    free_is : (bits : List Bool) → IsFree m (free_at bits)
    free_is bits = record {
      state = length-each m (λ r. leaf_bit (leaves_of m q) bits 0 (Register r));
      inputs = λ i. length-map (data_inputs m.circuit) (λ y. leaf_bit (leaves_of m q) bits i (Input y));
    }

    agree_source : (bits : List Bool) (i : ℕ) (source : LeafSource) → is_source m source ≡ true → leaf_bit (leaves_of m q) bits i source ≡ source_bit m (free_at bits) i source
    agree_source bits i (Input y) is = sym (beside_at (λ y. leaf_bit (leaves_of m q) bits i (Input y)) (data_inputs m.circuit) y is)
    agree_source bits zero (Register r) is = sym (each_bit m (λ r. leaf_bit (leaves_of m q) bits 0 (Register r)) r (ltb-true r (length m.circuit.registers) is))
    agree_source bits (suc i) (Register r) is = sym (each_bit m (λ r. leaf_bit (leaves_of m q) bits (suc i) (Register r)) r (ltb-true r (length m.circuit.registers) is))

    agree_other : (bits : List Bool) (G : List ℕ) (source : LeafSource) → is_source m source ≡ true → is_other_leaf m q G source ≡ true
        → leaf_bit (leaves_of m q) bits (suc q.after) source ≡ other_bit (free_at bits) source
    agree_other bits G (Input y) is reached = absurd (both_ways (is_cut q.cut y) (uncut y) (and_first (is_cut q.cut y) (is_in (other_nets m q) y) reached))
    agree_other bits G (Register r) is reached = sym (each_bit m (λ r. leaf_bit (leaves_of m q) bits (suc q.after) (Register r)) r (ltb-true r (length m.circuit.registers) is))

    agree_at : (bits : List Bool) → Agree m q (free_at bits) (leaf_bit (leaves_of m q) bits)
    agree_at bits = record {
      sources = λ i inside source is reached. agree_source bits i source is;
      cuts = λ i inside y is among. absurd (both_ways (is_cut q.cut y) (uncut y) is);
      others = λ part G shows source is reached. agree_other bits G source is reached;
      other_cuts = λ part G shows y is among. absurd (both_ways (is_cut q.cut y) (uncut y) is);
    }

    pub at_leaves : (bits : List Bool) → goal_bit m q bits ≡ violates_at m q bits
    at_leaves bits = (goal_built bits (free_at bits) (free_is bits) (agree_at bits)).1

    -- the list has the leaves of the claim
    pub goal_number : (claim_run m q).domain.number ≡ width_of m q
    goal_number = (goal_built [] (free_at []) (free_is []) (agree_at [])).0

    -- a goal is never 1 exactly where no free bits violate the claim
    pub never_says : ((bits : List Bool) → length bits ≡ width_of m q → goal_bit m q bits ≡ false) ↔ ((w : Free) → IsFree m w → violates m q w ≡ false)
    never_says = (never_free, (λ never bits long. at_leaves bits ∙ never (free_at bits) (free_is bits)))

-- the laws
pub form_goal_violates : FormGoalViolates
form_goal_violates m q bits good asked whole = at_leaves m good q asked whole bits

pub form_is_said : FormIsSaid
form_is_said m q good asked whole = never_says m good q asked whole

pub cut_suffices : CutSuffices
cut_suffices m q good asked never = never_free m good q asked never
