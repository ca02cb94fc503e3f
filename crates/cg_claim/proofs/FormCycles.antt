-- The cycles of a question, as they are built: their values stand for the bits of the machine's cycles, those of the nets of a cut for
-- the bits that these have there.
use Rattle.std.proofs.Common.{◌≡◌, ℕ, zero, suc, ◌+◌, ◌<◌, ◌≤◌, Bool, true, false, not, ◌&&◌, ◌||◌, if◌then◌else◌, List, [], ◌∷◌, length, nat_eq, IsTrue}
use Rattle.std.proofs.Common.{slice_get, is_some, Some, refl, sym, ◌∙◌, subst, arith}
use Rattle.std.specs.List.{filter}
use Rattle.std.specs.Option.{option_to_list}
use Rattle.std.proofs.lemmas.Bool.{and_from, both_ways, lt-ltb, or_right}
use Rattle.cg_cell.specs.Build.{Run, plain}
use Rattle.cg_cell.specs.Domain.{Keeps, Ops, Seen}
use Rattle.cg_cell.proofs.Building.{keeps_self, keeps_then}
use Rattle.cg_cell.proofs.Runs.{Gives, Has, gives_as, gives_plain, has_later}
use Rattle.cg_net.specs.NetSets.{is_in}
use Rattle.cg_netlist.specs.Circuit.{RegisterCell, data_inputs}
use Rattle.cg_netlist.specs.Moment.{bit}
use Rattle.cg_netlist.specs.Nets.{beside}
use Rattle.cg_netlist.proofs.Filtered.{in_filter, range_in, to_filter}
use Rattle.cg_netlist.proofs.Given.{from_option}
use Rattle.cg_netlist.proofs.RisingPlaces.{in_head, in_tail}
use Rattle.cg_netlist.proofs.Values.{element_at}
use Rattle.cg_machine.specs.Machine.{IsMachine, IsState, MachineData, enable_of, load, next, values}
use Rattle.cg_machine.proofs.Bits.{each_bit, length-each}
use Rattle.cg_claim.specs.Build.{Table, Values, mux_run, next_run, put_run}
use Rattle.cg_claim.specs.Leaves.{is_source}
use Rattle.cg_claim.specs.Question.{CopyPart}
use Rattle.cg_claim.specs.Reach.{next_asks_own, next_nets, registers_of}
use Rattle.cg_claim.specs.declared.leaf.Leaf.{Leaf}
use Rattle.cg_claim.specs.declared.leaf.LeafSource.{LeafSource}
use Rattle.cg_claim.specs.declared.leaf.LeafSource.TheVariants.{Input, Register}
use Rattle.cg_claim.specs.form.Build.{Cycle, cycle_at, cycle_from, lay_states, leaf_value, next_states, state_run}
use Rattle.cg_claim.specs.form.Leaves.{is_cut, is_given, is_leaf, is_other_leaf, other_reads}
use Rattle.cg_claim.specs.form.Question.{Question, Shows}
use Rattle.cg_claim.specs.form.Reach.{asked_of, nets_of, origin_asks, origin_nets, other_nets, states_of}
use Rattle.cg_claim.specs.form.Violates.{EndsFit, Free, IsFree, bit_after, nets_at, other_state, state_at}
use Rattle.cg_claim.proofs.CellsLaid.{Holds, IsFit, Laid, holds_later, put_same, put_valid}
use Rattle.cg_claim.proofs.FormReached.{feeding_reached, origin_state, origins_in, states_within}
use Rattle.cg_claim.proofs.GivenNets.{registers_are}
use Rattle.cg_claim.proofs.FormCut.{copy_cut}
use Rattle.cg_claim.proofs.NextBits.{IsRegister, mux_gives, next_gives, some_is}

-- the free bit that a leaf of a cycle stands for, and that of one of the last cycle with other bits
abbrev pub source_bit : MachineData → Free → ℕ → LeafSource → Bool
source_bit m w i (Input y) = beside false (data_inputs m.circuit) (w.inputs i) y
source_bit m w zero (Register r) = bit w.state r
source_bit m w (suc i) (Register r) = bit (w.given (suc i)) r

abbrev pub other_bit : Free → LeafSource → Bool
other_bit w (Input y) = false
other_bit w (Register r) = bit w.other r

-- what bits of leaves stand for, by copy and source: free bits; and for the nets of a cut the bits that these have in the machine
pub record Agree (m : MachineData) (q : Question) (w : Free) (value : ℕ → LeafSource → Bool) : Type 0 where
  pub sources : (i : ℕ) → i ≤ q.after → (source : LeafSource) → is_source m source ≡ true → is_leaf m q i source ≡ true → value i source ≡ source_bit m w i source
  pub cuts : (i : ℕ) → i ≤ q.after → (y : ℕ) → is_cut q.cut y ≡ true → is_in (nets_of m q i) y ≡ true → value i (Input y) ≡ bit (nets_at m q w i) y
  pub others : (part : CopyPart) (G : List ℕ) → q.ends ≡ Shows part G → (source : LeafSource) → is_source m source ≡ true → is_other_leaf m q G source ≡ true → value (suc q.after) source ≡ other_bit w source
  pub other_cuts : (part : CopyPart) (G : List ℕ) → q.ends ≡ Shows part G → (y : ℕ) → is_cut q.cut y ≡ true → is_in (other_nets m q) y ≡ true
      → value (suc q.after) (Input y) ≡ bit (values m (other_state m q w G) (w.inputs q.after)) y

-- a cycle holds its bits; it is built from s, and later than the first
pub record CycleHolds (o : Ops) (bits : List Bool) (m : MachineData) (q : Question) (w : Free) (s first : Seen) (i : ℕ) (c : Cycle) : Type 0 where
  pub keeps : Keeps o s c.domain
  pub later : Keeps o first c.domain
  pub nets : Holds o bits (is_in (nets_of m q i)) (bit (nets_at m q w i)) c.domain c.nets
  pub states : Holds o bits (states_of m q i) (bit (state_at m q w i)) c.domain c.states

pub state_long : (m : MachineData) (q : Question) (w : Free) (i : ℕ) → IsState m w.state → IsState m (state_at m q w i)
state_long m q w zero long = long
state_long m q w (suc i) long = length-each m (bit_after m q (w.given (suc i)) (nets_at m q w i) (state_at m q w i))

module _ (d : Values) (bits : List Bool) (fit : IsFit d bits) (m : MachineData) where
  -- the bit of a register after a cycle
  after_gives : (q : Question) (c : Cycle) (r : ℕ) (cell : RegisterCell ℕ ℕ) (vs s0 free : List Bool) (given : ℕ → ℕ) (s : Seen)
      → slice_get m.circuit.registers r ≡ Some cell → IsRegister vs cell
      → ((y : ℕ) → is_in (origin_nets m q r) y ≡ true → Has d.ops bits s (c.nets y) (bit vs y)) → IsTrue (d.ops.is_valid s (c.states r))
      → (origin_asks m q r ≡ true → d.ops.bit s bits (c.states r) ≡ bit s0 r)
      → (is_given q r ≡ true → Has d.ops bits s (given r) (bit free r))
      → Gives d.ops bits s (state_run d m q given c r s) (bit_after m q free vs s0 r)
  after_gives q c r cell vs s0 free given s at is known valid asks has = go (q.loose r) (q.follows r) known asks has
    where
      go : (l b : Bool) → ((y : ℕ) → is_in (if l then [] else if b then next_nets m r else option_to_list (enable_of m r)) y ≡ true → Has d.ops bits s (c.nets y) (bit vs y))
          → ((if l then false else if b then next_asks_own m r else is_some (enable_of m r)) ≡ true → d.ops.bit s bits (c.states r) ≡ bit s0 r)
          → ((l || not b) ≡ true → Has d.ops bits s (given r) (bit free r))
          → Gives d.ops bits s (if l then plain (given r) s else if b then next_run d m c.nets c.states r s else mux_run d (enable_of m r) c.nets (given r) (c.states r) s)
          (if l then bit free r else if b then next m vs s0 r else if load vs (enable_of m r) then bit free r else bit s0 r)
      go true b net own f = gives_plain d.ops bits s (given r) (bit free r) (f refl)
      go false true net own f = next_gives d bits fit m r cell vs s0 c.nets c.states s at is net valid own
      go false false net own f = mux_gives d bits fit s (enable_of m r) c.nets vs (given r) (c.states r) (bit free r) (bit s0 r) (f refl)
          (λ e on. net e (from_option (enable_of m r) e on))
          (λ e on. record { valid = valid; bit = own (some_is d bits fit (enable_of m r) e on) })

  lay_states_hold : (run : ℕ → Seen → Run) (rs : List ℕ) (test value : ℕ → Bool) (t : Table)
      → ((r : ℕ) → is_in rs r ≡ true → (u : Seen) → Keeps d.ops t.domain u → Gives d.ops bits u (run r u) (value r))
      → ((x : ℕ) → IsTrue (d.ops.is_valid t.domain (t.at x)))
      → ((x : ℕ) → test x ≡ true → is_in rs x ≡ false → d.ops.bit t.domain bits (t.at x) ≡ value x)
      → Laid d.ops bits test value t.domain (lay_states run rs t)
  lay_states_hold run [] test value t each valid same = record { keeps = keeps_self d.ops t.domain; holds = record { valid = valid; same = λ x passes. same x passes refl } }
  lay_states_hold run (r ∷ rs) test value t each valid same =
      let one : Run = run r t.domain in
      let g : Gives d.ops bits t.domain one (value r) = each r (in_head r rs) t.domain (keeps_self d.ops t.domain) in
      let u : Table = put_run t r one in
      let l = lay_states_hold run rs test value u
      (λ k among v keeps. each k (in_tail k r rs among) v (keeps_then d.ops t.domain one.domain v g.keeps keeps))
      (put_valid d bits fit t.domain t r one (value r) valid g)
      (λ x passes out. put_same d bits fit t r one value valid g x (λ other. same x passes (either_none (nat_eq x r) (is_in rs x) other out))) in
      record { keeps = keeps_then d.ops t.domain one.domain (lay_states run rs u).domain g.keeps l.keeps; holds = l.holds }
    where
      either_none : (a b : Bool) → a ≡ false → b ≡ false → (a || b) ≡ false
      either_none true b h k = h
      either_none false b h k = k

  module _ (good : IsMachine m) (q : Question) (fits : EndsFit m q.ends) (w : Free) (free : IsFree m w) (leaves : List Leaf) (s : Seen)
      (valid : (i : ℕ) (source : LeafSource) → IsTrue (d.ops.is_valid s (leaf_value d leaves i source)))
      (agree : Agree m q w (λ i source. d.ops.bit s bits (leaf_value d leaves i source))) where
    sound_at : (u : Seen) → Keeps d.ops s u → IsTrue (d.ops.is_sound u)
    sound_at u k = fit.lawful.sound u (leaf_value d leaves 0 (Input 0)) (k.valid (leaf_value d leaves 0 (Input 0)) (valid 0 (Input 0)))

    is_register : (r : ℕ) → r < length m.circuit.registers → is_source m (Register r) ≡ true
    is_register r below = lt-ltb r (length m.circuit.registers) below

    leaf_later : (u : Seen) → Keeps d.ops s u → (i : ℕ) → i ≤ q.after → (source : LeafSource) → is_source m source ≡ true → is_leaf m q i source ≡ true → Has d.ops bits u (leaf_value d leaves i source) (source_bit m w i source)
    leaf_later u k i inside source is reached = record {
      valid = k.valid (leaf_value d leaves i source) (valid i source);
      bit = k.bits (leaf_value d leaves i source) bits (valid i source) ∙ agree.sources i inside source is reached;
    }

    -- cycle i from the bits of its registers
    from_holds : (i : ℕ) → i ≤ q.after → (t : Table) → Keeps d.ops s t.domain → Holds d.ops bits (states_of m q i) (bit (state_at m q w i)) t.domain t.at
        → Laid d.ops bits (is_in (nets_of m q i)) (bit (nets_at m q w i)) t.domain (record { domain = (cycle_from d m q leaves i t).domain; at = (cycle_from d m q leaves i t).nets })
    from_holds i inside t keeps states =
        copy_cut d bits fit m good q.cut (asked_of m q i).nets t.domain leaves i (λ y. leaf_value d leaves i (Input y)) t.at (state_at m q w i) (w.inputs i)
        (state_long m q w i free.state) (free.inputs i) (sound_at t.domain keeps)
        (λ y. keeps.valid (leaf_value d leaves i (Input y)) (valid i (Input y)))
        (λ y among inside'. keeps.bits (leaf_value d leaves i (Input y)) bits (valid i (Input y)) ∙ agree.cuts i inside y among inside')
        (λ y. keeps.valid (leaf_value d leaves i (Input y)) (valid i (Input y))) states.valid
        (λ y is among. (leaf_later t.domain keeps i inside (Input y) is (or_right (other_reads m q q.ends y && nat_eq i q.after) (is_in (nets_of m q i) y) among)).bit)
        (λ r feeding. states.same r (feeding_reached m q fits i r feeding))

    -- the bits of the registers after a cycle
    next_holds : (i : ℕ) → suc i ≤ q.after → (first : Seen) (c : Cycle) → CycleHolds d.ops bits m q w s first i c
        → Laid d.ops bits (states_of m q (suc i)) (bit (state_at m q w (suc i))) c.domain (next_states d m q leaves (suc i) c)
    next_holds i below first c h =
        lay_states_hold (state_run d m q (λ r. leaf_value d leaves (suc i) (Register r)) c) (filter (states_of m q (suc i)) (registers_of m)) (states_of m q (suc i)) (bit (state_at m q w (suc i))) (record { domain = c.domain; at = λ r. 0 })
        (λ r among u keeps.
        let passes = (in_filter (states_of m q (suc i)) (registers_of m) r among).1 in
        let inside = states_within m q fits (suc i) r passes in
        let cell = element_at m.circuit.registers r inside in
        let all = keeps_then d.ops s c.domain u h.keeps keeps in
        gives_as d.ops bits u (state_run d m q (λ r. leaf_value d leaves (suc i) (Register r)) c r u) (bit_after m q (w.given (suc i)) (nets_at m q w i) (state_at m q w i) r) (bit (state_at m q w (suc i)) r)
        (after_gives q c r cell.0 (nets_at m q w i) (state_at m q w i) (w.given (suc i)) (λ r. leaf_value d leaves (suc i) (Register r)) u cell.1
        (registers_are m good (state_at m q w i) (w.inputs i) (state_long m q w i free.state) (free.inputs i) r cell.0 cell.1)
        (λ y inner. has_later d.ops bits c.domain u (c.nets y) (bit (nets_at m q w i) y) keeps (record { valid = h.nets.valid y; bit = h.nets.same y (origins_in m q fits i below r passes y inner) }))
        (keeps.valid (c.states r) (h.states.valid r))
        (λ own. keeps.bits (c.states r) bits (h.states.valid r) ∙ h.states.same r (origin_state m q fits i below r passes own))
        (λ given. leaf_later u all (suc i) below (Register r) (is_register r inside) (and_from (is_given q r) (states_of m q (suc i) r) given passes)))
        (sym (each_bit m (bit_after m q (w.given (suc i)) (nets_at m q w i) (state_at m q w i)) r inside)))
        (λ r. (fit.zero.has c.domain (sound_at c.domain h.keeps)).valid)
        (λ r passes out.
        let zero_r : 0 + r ≡ r = omega arith in
        absurd (both_ways (is_in (filter (states_of m q (suc i)) (registers_of m)) r) out
        (to_filter (states_of m q (suc i)) (registers_of m) r (subst (λ k. is_in (registers_of m) k ≡ true) zero_r (range_in (length m.circuit.registers) 0 r (states_within m q fits (suc i) r passes))) passes)))

    first_states : Holds d.ops bits (states_of m q 0) (bit w.state) s (λ r. leaf_value d leaves 0 (Register r))
    first_states = record {
      valid = λ r. valid 0 (Register r);
      same = λ r passes. agree.sources 0 (omega arith) (Register r) (is_register r (states_within m q fits 0 r passes)) passes;
    }

    abbrev pub cycle : ℕ → Cycle
    cycle i = cycle_at d m q leaves s i

    pub cycle_holds : (i : ℕ) → i ≤ q.after → CycleHolds d.ops bits m q w s (cycle 0).domain i (cycle i)
    cycle_holds zero inside =
        let l = from_holds 0 inside (record { domain = s; at = λ r. leaf_value d leaves 0 (Register r) }) (keeps_self d.ops s) first_states in
        record {
          keeps = l.keeps;
          later = keeps_self d.ops (cycle 0).domain;
          nets = l.holds;
          states = holds_later d.ops bits (states_of m q 0) (bit w.state) s (cycle 0).domain (λ r. leaf_value d leaves 0 (Register r)) l.keeps first_states;
        }
    cycle_holds (suc i) inside =
        let h = cycle_holds i (omega (arith, inside)) in
        let c : Cycle = cycle i in
        let t : Table = next_states d m q leaves (suc i) c in
        let n = next_holds i inside (cycle 0).domain c h in
        let k = keeps_then d.ops s c.domain t.domain h.keeps n.keeps in
        let l = from_holds (suc i) inside t k n.holds in
        record {
          keeps = keeps_then d.ops s t.domain (cycle (suc i)).domain k l.keeps;
          later = keeps_then d.ops (cycle 0).domain t.domain (cycle (suc i)).domain (keeps_then d.ops (cycle 0).domain c.domain t.domain h.later n.keeps) l.keeps;
          nets = l.holds;
          states = holds_later d.ops bits (states_of m q (suc i)) (bit (state_at m q w (suc i))) t.domain (cycle (suc i)).domain t.at l.keeps n.holds;
        }
