-- The goal of a question, as it is built: its value is 1 exactly where the bits that leaves stand for violate the claim.
use Rattle.std.proofs.Common.{◌≡◌, ℕ, suc, ◌<◌, Bool, true, false, not, ◌&&◌, if◌then◌else◌, List, length, nat_eq, IsTrue}
use Rattle.std.proofs.Common.{None, Some, refl, sym, ◌∙◌, ap, arith, subst}
use Rattle.std.specs.List.{All}
use Rattle.std.proofs.lemmas.Bool.{and_from, eq-eqb, lt-ltb, not_from_false, or_left, or_right}
use Rattle.cg_cell.specs.Build.{Run, build_and, build_xor, chain, plain}
use Rattle.cg_cell.specs.Domain.{Keeps, Seen}
use Rattle.cg_cell.specs.Gates.{exclusive_or}
use Rattle.cg_cell.proofs.Building.{keeps_self, keeps_then}
use Rattle.cg_cell.proofs.Runs.{Gives, Has, gives_and, gives_as, gives_plain, gives_then, gives_xor, has_later}
use Rattle.cg_net.specs.NetSets.{is_in}
use Rattle.cg_netlist.specs.Circuit.{data_inputs}
use Rattle.cg_netlist.specs.Moment.{bit}
use Rattle.cg_netlist.proofs.Values.{element_at}
use Rattle.cg_netlist_cone.proofs.Cones.{cone_has}
use Rattle.cg_machine.specs.Machine.{IsInputs, IsMachine, IsState, MachineData, next, values}
use Rattle.cg_machine.proofs.Bits.{each_bit, length-each}
use Rattle.cg_claim.specs.Build.{Values, next_run}
use Rattle.cg_claim.specs.Leaves.{is_source}
use Rattle.cg_claim.specs.Question.{CopyPart, Net, Next, State, Enable}
use Rattle.cg_claim.specs.Reach.{feeds, next_asks_own, part_asks, part_nets}
use Rattle.cg_claim.specs.Violates.{CopyPartFits}
use Rattle.cg_claim.specs.declared.leaf.Leaf.{Leaf}
use Rattle.cg_claim.specs.declared.leaf.LeafSource.{LeafSource}
use Rattle.cg_claim.specs.declared.leaf.LeafSource.TheVariants.{Input, Register}
use Rattle.cg_claim.specs.form.Build.{Cycle, built_domain, condition_run, cycle_at, differ_run, goal_of, goal_run, leaf_value, other_cycle, other_states_of, part_run}
use Rattle.cg_claim.specs.form.Leaves.{is_cut, is_leaf, other_reads}
use Rattle.cg_claim.specs.form.Question.{Changes, Ends, Question, Shows, condition_nets}
use Rattle.cg_claim.specs.form.Reach.{asked_last, asked_other, nets_of, other_nets, other_states, reached_nets, reached_states, states_of, cut_walk}
use Rattle.cg_claim.specs.form.Violates.{EndsFit, Free, IsFree, condition_at, ends_otherwise, nets_at, other_state, part_bit, state_at, violates}
use Rattle.cg_claim.proofs.CellsLaid.{Holds, IsFit, Laid, holds_later}
use Rattle.cg_claim.proofs.FormConditions.{condition_gives}
use Rattle.cg_claim.proofs.FormCycles.{Agree, CycleHolds, cycle_holds, state_long}
use Rattle.cg_claim.proofs.FormReached.{condition_in, last_nets, last_states, other_within}
use Rattle.cg_claim.proofs.GivenNets.{registers_are}
use Rattle.cg_claim.proofs.FormCut.{copy_cut}
use Rattle.cg_claim.proofs.NextBits.{next_gives}

module _ (d : Values) (bits : List Bool) (fit : IsFit d bits) (m : MachineData) (good : IsMachine m) where
  -- one side of a goal, in a copy that holds its bits as far as the side asks for them
  side_gives : (q : Question) (some : All (λ term. 0 < length term) q.condition) (part : CopyPart) (fits : CopyPartFits m part) (c : Cycle) (st xs : List Bool) → IsState m st → IsInputs m xs
      → (u : Seen) → IsTrue (d.ops.is_sound u)
      → ((y : ℕ) → is_in (part_nets m (condition_nets q.condition) part) y ≡ true → Has d.ops bits u (c.nets y) (bit (values m st xs) y)) → ((r : ℕ) → IsTrue (d.ops.is_valid u (c.states r)))
      → ((r : ℕ) → part_asks m part r ≡ true → d.ops.bit u bits (c.states r) ≡ bit st r)
      → Gives d.ops bits u (part_run d m q c part u) (part_bit m q (values m st xs) st part)
  side_gives q some (Net y) fits c st xs long ins u sound nets valid asks = gives_plain d.ops bits u (c.nets y) (bit (values m st xs) y) (nets y (or_left (nat_eq y y) false (eq-eqb y y refl)))
  side_gives q some (Next r) fits c st xs long ins u sound nets valid asks =
      let cell = element_at m.circuit.registers r fits in
      next_gives d bits fit m r cell.0 (values m st xs) st c.nets c.states u cell.1 (registers_are m good st xs long ins r cell.0 cell.1) nets (valid r)
      (λ own. asks r (and_from (nat_eq r r) (next_asks_own m r) (eq-eqb r r refl) own))
  side_gives q some (State r) fits c st xs long ins u sound nets valid asks = gives_plain d.ops bits u (c.states r) (bit st r) (record { valid = valid r; bit = asks r (eq-eqb r r refl) })
  side_gives q some Enable fits c st xs long ins u sound nets valid asks = condition_gives d bits fit c.nets (bit (values m st xs)) q.condition u sound some nets

  -- the exclusive or of two values, and the `and` of it with the inverse of the condition
  differ_gives : (e x z : ℕ) (b p o : Bool) (u : Seen) → Has d.ops bits u e b → Has d.ops bits u x p → Has d.ops bits u z o → Gives d.ops bits u (differ_run d e x z u) (not b && exclusive_or p o)
  differ_gives e x z b p o u he hx hz =
      let r : Run = build_xor d.ops x z u in
      gives_then d.ops bits u r (λ y v. build_and d.ops (d.inverse e) y v) (exclusive_or p o) (not b && exclusive_or p o)
      (gives_xor d.ops bits fit.lawful u x z p o hx hz) (λ k f.
      gives_and d.ops bits fit.lawful r.domain (d.inverse e) r.answer (not b) (exclusive_or p o) (has_later d.ops bits u r.domain (d.inverse e) (not b) k (fit.inverse u e b he)) f)

  module _ (q : Question) (some : All (λ term. 0 < length term) q.condition) (fits : EndsFit m q.ends) (w : Free) (free : IsFree m w) (leaves : List Leaf) (s : Seen)
      (valid : (i : ℕ) (source : LeafSource) → IsTrue (d.ops.is_valid s (leaf_value d leaves i source)))
      (agree : Agree m q w (λ i source. d.ops.bit s bits (leaf_value d leaves i source))) (apart : (y : ℕ) → is_in (data_inputs m.circuit) y ≡ true → is_cut q.cut y ≡ false) where
    abbrev first : Cycle
    first = cycle_at d m q leaves s 0

    abbrev last : Cycle
    last = cycle_at d m q leaves s q.after

    first_holds : CycleHolds d.ops bits m q w s first.domain 0 first
    first_holds = cycle_holds d bits fit m good q fits w free leaves s valid agree 0 (omega arith)

    last_holds : CycleHolds d.ops bits m q w s first.domain q.after last
    last_holds = cycle_holds d bits fit m good q fits w free leaves s valid agree q.after (omega arith)

    sound_at : (u : Seen) → Keeps d.ops s u → IsTrue (d.ops.is_sound u)
    sound_at u k = fit.lawful.sound u (leaf_value d leaves 0 (Input 0)) (k.valid (leaf_value d leaves 0 (Input 0)) (valid 0 (Input 0)))

    is_register : (r : ℕ) → r < length m.circuit.registers → is_source m (Register r) ≡ true
    is_register r below = lt-ltb r (length m.circuit.registers) below

    after_long : IsState m (state_at m q w q.after)
    after_long = state_long m q w q.after free.state

    -- the last cycle with other bits
    module _ (part : CopyPart) (G : List ℕ) (shows : q.ends ≡ Shows part G) where
      abbrev other : Cycle
      other = other_cycle d m q leaves G last

      asks_same : asked_last m q q.ends ≡ asked_last m q (Shows part G)
      asks_same = ap (asked_last m q) shows

      other_same : other_nets m q ≡ reached_nets m q.cut (asked_other m q (Shows part G))
      other_same = ap (λ e. reached_nets m q.cut (asked_other m q e)) shows

      other_state_holds : Holds d.ops bits (other_states m q) (bit (other_state m q w G)) last.domain (other_states_of d q leaves G last.states)
      other_state_holds = record {
        valid = λ r. choose_valid r (is_in G r);
        same = λ r passes. choose r passes (is_in G r) refl
            ∙ sym (each_bit m (λ r. if is_in G r then bit w.other r else bit (state_at m q w q.after) r) r (other_within m q fits r passes));
      }
        where
          choose_valid : (r : ℕ) (b : Bool) → IsTrue (d.ops.is_valid last.domain (if b then leaf_value d leaves (suc q.after) (Register r) else last.states r))
          choose_valid r true = last_holds.keeps.valid (leaf_value d leaves (suc q.after) (Register r)) (valid (suc q.after) (Register r))
          choose_valid r false = last_holds.states.valid r

          choose : (r : ℕ) → other_states m q r ≡ true → (b : Bool) → is_in G r ≡ b
              → d.ops.bit last.domain bits (if b then leaf_value d leaves (suc q.after) (Register r) else last.states r) ≡ (if b then bit w.other r else bit (state_at m q w q.after) r)
          choose r passes true is =
              last_holds.keeps.bits (leaf_value d leaves (suc q.after) (Register r)) bits (valid (suc q.after) (Register r))
              ∙ agree.others part G shows (Register r) (is_register r (other_within m q fits r passes)) (and_from (other_states m q r) (is_in G r) passes is)
          choose r passes false is =
              last_holds.states.same r (last_states m q fits r (subst (λ a. a.states r ≡ true) (sym asks_same)
              (or_right (part_asks m part r) (reached_states m q.cut (asked_other m q (Shows part G)) r && not (is_in G r))
              (and_from (reached_states m q.cut (asked_other m q (Shows part G)) r) (not (is_in G r)) (subst (λ e. reached_states m q.cut (asked_other m q e) r ≡ true) shows passes) (not_from_false (is_in G r) is)))))

      reads_other : (y : ℕ) → is_in (data_inputs m.circuit) y ≡ true → is_in (other_nets m q) y ≡ true → is_leaf m q q.after (Input y) ≡ true
      reads_other y is among =
          or_left (other_reads m q q.ends y && nat_eq q.after q.after) (is_in (nets_of m q q.after) y)
          (and_from (other_reads m q q.ends y) (nat_eq q.after q.after) (subst (λ e. other_reads m q e y ≡ true) (sym shows) (and_from (not (is_cut q.cut y)) (is_in (other_nets m q) y) (not_from_false (is_cut q.cut y) (apart y is)) among)) (eq-eqb q.after q.after refl))

      other_long : IsState m (other_state m q w G)
      other_long = length-each m (λ r. if is_in G r then bit w.other r else bit (state_at m q w q.after) r)

      other_holds : Laid d.ops bits (is_in (other_nets m q)) (bit (values m (other_state m q w G) (w.inputs q.after))) last.domain (record { domain = other.domain; at = other.nets })
      other_holds =
          copy_cut d bits fit m good q.cut (asked_other m q q.ends).nets last.domain leaves (suc q.after) (λ y. leaf_value d leaves q.after (Input y)) (other_states_of d q leaves G last.states) (other_state m q w G) (w.inputs q.after)
          other_long (free.inputs q.after) (sound_at last.domain last_holds.keeps)
          (λ y. last_holds.keeps.valid (leaf_value d leaves (suc q.after) (Input y)) (valid (suc q.after) (Input y)))
          (λ y is among. last_holds.keeps.bits (leaf_value d leaves (suc q.after) (Input y)) bits (valid (suc q.after) (Input y)) ∙ agree.other_cuts part G shows y is among)
          (λ y. last_holds.keeps.valid (leaf_value d leaves q.after (Input y)) (valid q.after (Input y))) other_state_holds.valid
          (λ y is among. last_holds.keeps.bits (leaf_value d leaves q.after (Input y)) bits (valid q.after (Input y)) ∙ agree.sources q.after (omega arith) (Input y) is (reads_other y is among))
          (λ r feeding. other_state_holds.same r (or_left (feeds m (other_nets m q) r) ((asked_other m q q.ends).states r) feeding))

      shows_gives : (e : ℕ) (b : Bool) (u : Seen) → EndsFit m (Shows part G) → Keeps d.ops other.domain u → Has d.ops bits u e b
          → Gives d.ops bits u (goal_of d m q leaves last (Shows part G) e u) (not b && ends_otherwise m q w (Shows part G))
      shows_gives e b u fit' keeps he =
          let st : List Bool = state_at m q w q.after in
          let os : List Bool = other_state m q w G in
          let p : Bool = part_bit m q (values m st (w.inputs q.after)) st part in
          let o : Bool = part_bit m q (values m os (w.inputs q.after)) os part in
          let all : Keeps d.ops last.domain u = keeps_then d.ops last.domain other.domain u other_holds.keeps keeps in
          let n1 = holds_later d.ops bits (is_in (nets_of m q q.after)) (bit (values m st (w.inputs q.after))) last.domain u last.nets all last_holds.nets in
          let s1 = holds_later d.ops bits (states_of m q q.after) (bit st) last.domain u last.states all last_holds.states in
          let r0 : Run = part_run d m q last part u in
          let g0 : Gives d.ops bits u r0 p =
          side_gives q some part fit' last st (w.inputs q.after) after_long (free.inputs q.after) u (sound_at u (keeps_then d.ops s last.domain u last_holds.keeps all))
          (λ y among. record { valid = n1.valid y; bit = n1.same y (last_nets m q fits y (subst (λ a. is_in a.nets y ≡ true) (sym asks_same) among)) })
          s1.valid (λ r asks. s1.same r (last_states m q fits r (subst (λ a. a.states r ≡ true) (sym asks_same) (or_left (part_asks m part r) (reached_states m q.cut (asked_other m q (Shows part G)) r && not (is_in G r)) asks)))) in
          gives_then d.ops bits u r0 (λ x t. chain (part_run d m q other part t) (λ z v. differ_run d e x z v)) p (not b && exclusive_or p o) g0 (λ k0 f0.
          let t : Seen = r0.domain in
          let k1 : Keeps d.ops other.domain t = keeps_then d.ops other.domain u t keeps k0 in
          let k2 : Keeps d.ops last.domain t = keeps_then d.ops last.domain u t all k0 in
          let n2 = holds_later d.ops bits (is_in (other_nets m q)) (bit (values m os (w.inputs q.after))) other.domain t other.nets k1 other_holds.holds in
          let s2 = holds_later d.ops bits (other_states m q) (bit os) last.domain t other.states k2 other_state_holds in
          let r1 : Run = part_run d m q other part t in
          let g1 : Gives d.ops bits t r1 o =
          side_gives q some part fit' other os (w.inputs q.after) other_long (free.inputs q.after) t (sound_at t (keeps_then d.ops s last.domain t last_holds.keeps k2))
          (λ y among. record { valid = n2.valid y; bit = n2.same y (cone_has (cut_walk m q.cut) (asked_other m q q.ends).nets y (subst (λ a. is_in a y ≡ true) (sym (ap (λ x. (asked_other m q x).nets) shows)) among)) })
          s2.valid (λ r asks. s2.same r (or_right (feeds m (other_nets m q) r) ((asked_other m q q.ends).states r) (subst (λ a. a ≡ true) (sym (ap (λ x. (asked_other m q x).states r) shows)) asks))) in
          gives_then d.ops bits t r1 (λ z v. differ_run d e r0.answer z v) o (not b && exclusive_or p o) g1 (λ k f1.
          let v : Seen = r1.domain in
          differ_gives e r0.answer r1.answer b p o v (has_later d.ops bits u v e b (keeps_then d.ops u t v k0 k) he) (has_later d.ops bits t v r0.answer p k f0) f1))

    -- the goal of a register that can change its bit
    changes_gives : (r : ℕ) → q.ends ≡ Changes (Some r) → (e : ℕ) (b : Bool) (u : Seen) → Keeps d.ops last.domain u → Has d.ops bits u e b
        → Gives d.ops bits u (goal_of d m q leaves last (Changes (Some r)) e u) (not b && ends_otherwise m q w (Changes (Some r)))
    changes_gives r is e b u keeps he =
        let st : List Bool = state_at m q w q.after in
        let vs : List Bool = nets_at m q w q.after in
        let p : Bool = next m vs st r in
        let there : EndsFit m (Changes (Some r)) = subst (EndsFit m) is fits in
        let fit' : r < length m.circuit.registers = there r refl in
        let cell = element_at m.circuit.registers r fit' in
        let asks = ap (asked_last m q) is in
        let nets = holds_later d.ops bits (is_in (nets_of m q q.after)) (bit vs) last.domain u last.nets keeps last_holds.nets in
        let states = holds_later d.ops bits (states_of m q q.after) (bit st) last.domain u last.states keeps last_holds.states in
        let own : states_of m q q.after r ≡ true = last_states m q fits r (subst (λ a. a.states r ≡ true) (sym asks) (eq-eqb r r refl)) in
        let r0 : Run = next_run d m last.nets last.states r u in
        let g0 : Gives d.ops bits u r0 p =
        next_gives d bits fit m r cell.0 vs st last.nets last.states u cell.1
        (registers_are m good st (w.inputs q.after) after_long (free.inputs q.after) r cell.0 cell.1)
        (λ y among. record { valid = nets.valid y; bit = nets.same y (last_nets m q fits y (subst (λ a. is_in a.nets y ≡ true) (sym asks) among)) })
        (states.valid r) (λ _. states.same r own) in
        gives_then d.ops bits u r0 (λ x t. differ_run d e x (last.states r) t) p (not b && exclusive_or p (bit st r)) g0 (λ k f.
        differ_gives e r0.answer (last.states r) b p (bit st r) r0.domain (has_later d.ops bits u r0.domain e b k he) f
        (has_later d.ops bits u r0.domain (last.states r) (bit st r) k (record { valid = states.valid r; bit = states.same r own })))

    -- when all is built but the goal
    built_keeps : (e : Ends) → q.ends ≡ e → Keeps d.ops last.domain (built_domain d m q leaves last e)
    built_keeps (Changes register) is = keeps_self d.ops last.domain
    built_keeps (Shows part G) is = (other_holds part G is).keeps

    goal_gives : (o : Ends) → q.ends ≡ o → (e : ℕ) (b : Bool) (u : Seen) → Keeps d.ops (built_domain d m q leaves last o) u → Has d.ops bits u e b
        → Gives d.ops bits u (goal_of d m q leaves last o e u) (not b && ends_otherwise m q w o)
    goal_gives (Changes None) is e b u keeps he =
        gives_as d.ops bits u (plain (d.inverse e) u) (not b) (not b && true) (gives_plain d.ops bits u (d.inverse e) (not b) (fit.inverse u e b he)) (and_one (not b))
      where
        and_one : (x : Bool) → x ≡ (x && true)
        and_one true = refl
        and_one false = refl
    goal_gives (Changes (Some r)) is e b u keeps he = changes_gives r is e b u keeps he
    goal_gives (Shows part G) is e b u keeps he = shows_gives part G is e b u (subst (EndsFit m) is fits) keeps he

    abbrev built : Seen
    built = built_domain d m q leaves last q.ends

    pub goal_is : Gives d.ops bits built (goal_run d m q leaves first last) (violates m q w)
    goal_is =
        let k : Keeps d.ops last.domain built = built_keeps q.ends refl in
        let r : Run = condition_run d first.nets q.condition built in
        let v : Bool = condition_at (nets_at m q w 0) q.condition in
        let later : Keeps d.ops first.domain built = keeps_then d.ops first.domain last.domain built last_holds.later k in
        let nets = holds_later d.ops bits (is_in (nets_of m q 0)) (bit (nets_at m q w 0)) first.domain built first.nets later first_holds.nets in
        gives_then d.ops bits built r (λ e t. goal_of d m q leaves last q.ends e t) v (violates m q w)
        (condition_gives d bits fit first.nets (bit (nets_at m q w 0)) q.condition built (sound_at built (keeps_then d.ops s last.domain built last_holds.keeps k)) some (λ y among. record { valid = nets.valid y; bit = nets.same y (condition_in m q fits y among) }))
        (λ j h. goal_gives q.ends refl r.answer v r.domain j h)

    pub built_from : Keeps d.ops s built
    built_from = keeps_then d.ops s last.domain built last_holds.keeps (built_keeps q.ends refl)
