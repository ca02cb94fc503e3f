-- A claim whose sides are of the first cycle reaches nothing in the copies after it.
use Rattle.std.proofs.Common.{◌≡◌, ℕ, true, false, not, ◌&&◌, if◌then◌else◌, List, [], ◌++◌, Option, Some, None, refl, sym, ◌∙◌, ap, subst}
use Rattle.std.proofs.lemmas.Bool.{or_from}
use Rattle.cg_netlist.specs.Circuit.{data_inputs}
use Rattle.cg_net.specs.NetSets.{is_in}
use Rattle.cg_net.proofs.Members.{All-from_members}
use Rattle.cg_netlist_cone.specs.Cone.{cone_of}
use Rattle.cg_machine.specs.Machine.{MachineData, walk_of}
use Rattle.cg_claim.proofs.OneCopy.{IsOneCopy, cone_nil, feeds_nil, filter_none}
use Rattle.cg_claim.specs.Question.{Copy, Before, After, Changed, Question, Side}
use Rattle.cg_claim.specs.Reach.{after_nets, after_states, changed_nets, changed_states, enable_nets, feeds, part_asks, part_nets, registers_of, same_copy, side_nets, sides_ask, sides_nets}
use Rattle.cg_claim_reach.specs.Reached.{IsConeOf}
use Rattle.cg_claim_reach.specs.inner.Early.{IsEarly}
use Rattle.cg_claim_reach.specs.inner.Found.{IsLater}

late_copy : (copy later : Copy) → same_copy copy Before ≡ true → same_copy Before later ≡ false → same_copy copy later ≡ false
late_copy Before later early late = late
late_copy After later early late = absurd (cc)
late_copy Changed later early late = absurd (cc)

late_nets : (m : MachineData) (E : List ℕ) (later : Copy) (o : Option (Side × Side)) → IsEarly o → same_copy Before later ≡ false → sides_nets m E later o ≡ []
late_nets m E later None early late = refl
late_nets m E later (Some s) early late =
    ap (λ b. (if b then part_nets m E s.0.part else []) ++ side_nets m E later s.1) (late_copy s.0.copy later early.0 late)
    ∙ ap (λ b. if b then part_nets m E s.1.part else []) (late_copy s.1.copy later early.1 late)

late_asks : (m : MachineData) (later : Copy) (o : Option (Side × Side)) (r : ℕ) → IsEarly o → same_copy Before later ≡ false → sides_ask m later o r ≡ false
late_asks m later None r early late = refl
late_asks m later (Some s) r early late =
    or_from _ _ (ap (λ b. b && part_asks m s.0.part r) (late_copy s.0.copy later early.0 late)) (ap (λ b. b && part_asks m s.1.part r) (late_copy s.1.copy later early.1 late))

early_one : (m : MachineData) (q : Question) → IsEarly q.sides → IsOneCopy m q
early_one m q early =
    let after : after_nets m q ≡ [] = ap (cone_of (walk_of m)) (late_nets m (enable_nets q) After q.sides early refl) ∙ cone_nil (walk_of m) in
    let changed : changed_nets m q ≡ [] = ap (cone_of (walk_of m)) (late_nets m (enable_nets q) Changed q.sides early refl) ∙ cone_nil (walk_of m) in
    let moved : (r : ℕ) → changed_states m q r ≡ false = λ r. or_from _ _ (ap (λ nets. feeds m nets r) changed ∙ feeds_nil m r) (late_asks m Changed q.sides r early refl) in
    record {
      after = after;
      changed = changed;
      states = λ r. or_from _ _ (ap (λ nets. feeds m nets r) after ∙ feeds_nil m r)
          (or_from _ _ (late_asks m After q.sides r early refl) (ap (λ b. b && not (is_in q.changes r)) (moved r)));
      moved = moved;
    }

-- the cone of no nets
no_cone : (m : MachineData) (nets : List ℕ) → nets ≡ [] → IsConeOf m nets (record { cells = []; inputs = []; registers = [] })
no_cone m nets none = subst (λ l. IsConeOf m l (record { cells = []; inputs = []; registers = [] })) (sym none) (record {
  within = All-from_members _ [] (λ k among. absurd (cc));
  cells = sym (filter_none (λ cell. is_in [] cell.output) (walk_of m) (λ cell. refl));
  inputs = sym (filter_none (is_in []) (data_inputs m.circuit) (λ y. refl));
  registers = sym (filter_none (feeds m []) (registers_of m) (feeds_nil m));
})

pub nothing_later : (m : MachineData) (q : Question) → IsEarly q.sides
    → IsLater m q (record { after = record { cells = []; inputs = []; registers = [] }; changed = record { cells = []; inputs = []; registers = [] }; states = []; moved = [] })
nothing_later m q early =
    let one = early_one m q early in
    record {
      after = no_cone m (after_nets m q) one.after;
      changed = no_cone m (changed_nets m q) one.changed;
      states = sym (filter_none (after_states m q) (registers_of m) one.states);
      moved = sym (filter_none (changed_states m q) (registers_of m) one.moved);
    }
