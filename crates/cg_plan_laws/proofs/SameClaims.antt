-- Gates behind the cells of a machine, and enables of other registers, change no hold claim of a register: it is as wide, has as
-- many nodes, and is as true.
use Rattle.std.proofs.Common.{◌≡◌, ℕ, ◌<◌, Bool, true, false, ◌||◌, ◌&&◌, if◌then◌else◌, cond, List, [], ◌∷◌, ◌++◌, map, length}
use Rattle.std.proofs.Common.{nat_eq, nat_lt, slice_get, is_some, Option, refl, sym, ◌∙◌, ap, inl, inr, arith}
use Rattle.std.specs.Cmp.{both_ways as same_bools}
use Rattle.std.specs.List.{filter, flat_map, list_any, range_with_len}
use Rattle.std.specs.Option.{option_map_or, option_to_list}
use Rattle.std.proofs.lemmas.Bool.{both_ways, eq-eqb, false_from_ne_true, or_left}
use Rattle.cg_cell.specs.Build.{Run, build_and, build_xor, chain, plain}
use Rattle.cg_cell.specs.Domain.{Seen}
use Rattle.cg_aig.specs.Aig.{aig_ops}
use Rattle.cg_limit.specs.declared.TheConstants.{MOST_CLAIM_NODES}
use Rattle.cg_net.specs.NetSets.{is_in}
use Rattle.cg_net.proofs.Members.{is_in_cases}
use Rattle.cg_netlist.specs.Circuit.{LogicCell, RegisterCell, data_inputs, shown_nets}
use Rattle.cg_netlist.specs.Nets.{outputs}
use Rattle.cg_netlist.proofs.Given.{in_option}
use Rattle.cg_netlist.proofs.Used.{input_is_used}
use Rattle.cg_netlist_cone.specs.Cone.{IsInCone, Reaches, cone_of, here, through}
use Rattle.cg_netlist_cone.proofs.Cones.{cone_is}
use Rattle.cg_machine.specs.Claims.{Literal}
use Rattle.cg_machine.specs.Machine.{IsMachine, MachineData, enable_of, walk_of}
use Rattle.cg_machine.proofs.Grown.{used_below}
use Rattle.cg_machine.proofs.Lists.{in_one}
use Rattle.cg_claim.specs.Build.{Copies, Table, aig_values, before_table, claim_run, copies, enable_run, from_state, goal_run}
use Rattle.cg_claim.specs.Build.{lay, leaf_list, leaf_value, next_run_of, reached_cells, shown_by, size, start_nets}
use Rattle.cg_claim.specs.Laws.{IsNeverOne}
use Rattle.cg_claim.specs.LeafBits.{is_never}
use Rattle.cg_claim.specs.Leaves.{Leaf, is_reached, leaves_of, sources, width_of}
use Rattle.cg_claim.specs.Question.{Before, Question, hold_question, idle_question}
use Rattle.cg_claim.specs.Reach.{after_states, before_nets, enable_nets, feeds, inputs_of_register, next_nets, origin_asks}
use Rattle.cg_claim.specs.Reach.{origin_nets, reads_own, registers_of, sides_ask, sides_nets}
use Rattle.cg_claim.specs.Violates.{SidesFit}
use Rattle.cg_claim.specs.declared.leaf.LeafSource.{LeafSource}
use Rattle.cg_claim.specs.declared.leaf.LeafSource.TheVariants.{Input as InputOf, Register as RegisterOf}
use Rattle.cg_claim.proofs.ClaimsSaid.{never_is_tried}
use Rattle.cg_claim.proofs.HoldWidths.{same_test}
use Rattle.cg_claim.proofs.OneCopy.{IsOneCopy, domain_one, filter_none, hold_one, idle_one, leaves_one}
use Rattle.cg_stage_list_laws.specs.HoldList.{is_large}
use Rattle.cg_stage_list_laws.proofs.UsedNets.{inputs_used}

pub second_false : (a b : Bool) → (a || b) ≡ false → b ≡ false
second_false true b h = absurd (both_ways true h refl)
second_false false b h = h

-- Cells behind others, of whose outputs none is looked for: they lead to no cone, and none of them is reached.
abbrev AreUnseen : List (LogicCell ℕ) → List ℕ → Type 0
AreUnseen more nets = (x : ℕ) → is_in nets x ≡ true → is_in (outputs more) x ≡ false

unseen_later : (cell : LogicCell ℕ) (more : List (LogicCell ℕ)) (nets : List ℕ) → AreUnseen (cell ∷ more) nets → AreUnseen more nets
unseen_later cell more nets new x among = second_false (nat_eq x cell.output) (is_in (outputs more) x) (new x among)

unseen_here : (cell : LogicCell ℕ) (more : List (LogicCell ℕ)) (nets : List ℕ) → AreUnseen (cell ∷ more) nets → is_in nets cell.output ≡ false
unseen_here cell more nets new = false_from_ne_true (is_in nets cell.output) (λ among.
    both_ways (is_in (outputs (cell ∷ more)) cell.output) (new cell.output among) (or_left (nat_eq cell.output cell.output) (is_in (outputs more) cell.output) (eq-eqb cell.output cell.output refl)))

cone_last : (more : List (LogicCell ℕ)) (roots : List ℕ) → AreUnseen more roots → cone_of more roots ≡ roots
cone_last [] roots new = refl
cone_last (cell ∷ more) roots new =
    ap (λ l. if is_in l cell.output then l ++ cell.inputs else l) (cone_last more roots (unseen_later cell more roots new))
    ∙ ap (λ (b : Bool). if b then roots ++ cell.inputs else roots) (unseen_here cell more roots new)

cone_front : (cells more : List (LogicCell ℕ)) (roots : List ℕ) → AreUnseen more roots → cone_of (cells ++ more) roots ≡ cone_of cells roots
cone_front [] more roots new = cone_last more roots new
cone_front (cell ∷ cells) more roots new = ap (λ l. if is_in l cell.output then l ++ cell.inputs else l) (cone_front cells more roots new)

abbrev reached : List ℕ → List (LogicCell ℕ) → List (LogicCell ℕ)
reached nets cells = filter (λ (cell : LogicCell ℕ). is_in nets cell.output) cells

reached_last : (more : List (LogicCell ℕ)) (nets : List ℕ) → AreUnseen more nets → reached nets more ≡ []
reached_last [] nets new = refl
reached_last (cell ∷ more) nets new =
    ap (λ (b : Bool). cond b (cell ∷ reached nets more) (reached nets more)) (unseen_here cell more nets new)
    ∙ reached_last more nets (unseen_later cell more nets new)

reached_front : (cells more : List (LogicCell ℕ)) (nets : List ℕ) → AreUnseen more nets → reached nets (cells ++ more) ≡ reached nets cells
reached_front [] more nets new = reached_last more nets new
reached_front (cell ∷ cells) more nets new = ap (λ l. cond (is_in nets cell.output) (cell ∷ l) l) (reached_front cells more nets new)

-- n has the registers and the inputs of m, and behind its cells some whose outputs are no nets of m
pub record Beside (m n : MachineData) : Type 0 where
  pub registers : n.circuit.registers ≡ m.circuit.registers
  pub inputs : data_inputs n.circuit ≡ data_inputs m.circuit
  pub more : List (LogicCell ℕ)
  pub walk : walk_of n ≡ walk_of m ++ more
  pub new : (x : ℕ) → x < length m.circuit.names → is_in (outputs more) x ≡ false

-- a claim is the same on both machines
pub record SameClaim (m n : MachineData) (q : Question) : Type 0 where
  pub width : width_of n q ≡ width_of m q
  pub large : is_large n q ≡ is_large m q
  pub never : is_never n q ≡ is_never m q

-- the goal of a question without sides
abbrev idle_to : List Literal → (ℕ → ℕ) → Seen → Run
idle_to E nets s = chain (enable_run aig_values nets E s) (λ a t. plain (aig_values.inverse a) t)

abbrev leaves_from : List LeafSource → List Leaf
leaves_from ss = map (λ (source : LeafSource). record { copy = Before; source = source }) ss

module _ (m n : MachineData) (good : IsMachine m) (other : IsMachine n) (b : Beside m n) where
  abbrev IsLow : List ℕ → Type 0
  IsLow nets = (y : ℕ) → is_in nets y ≡ true → y < length m.circuit.names

  reach_low : (y x : ℕ) → Reaches m.circuit.cells y x → x < length m.circuit.names → y < length m.circuit.names
  reach_low y x here low = low
  reach_low y x (through k cell z at input way) low = reach_low y z way (used_below m good z (input_is_used m.circuit k z cell at input))

  cone_low : (roots : List ℕ) → IsLow roots → IsLow (cone_of (walk_of m) roots)
  cone_low roots low y among =
      let way : IsInCone m.circuit.cells roots y = (cone_is m.circuit.cells (walk_of m) good.walk roots y).0 among in
      reach_low y way.root way.reaches (low way.root way.among)

  same_cone : (roots : List ℕ) → IsLow roots → cone_of (walk_of n) roots ≡ cone_of (walk_of m) roots
  same_cone roots low = ap (λ walk. cone_of walk roots) b.walk ∙ cone_front (walk_of m) b.more roots (λ x among. b.new x (low x among))

  same_cells : (nets : List ℕ) → IsLow nets → reached_cells n nets ≡ reached_cells m nets
  same_cells nets low = ap (reached nets) b.walk ∙ reached_front (walk_of m) b.more nets (λ x among. b.new x (low x among))

  same_feeds : (nets : List ℕ) (k : ℕ) → feeds n nets k ≡ feeds m nets k
  same_feeds nets k = ap (λ rs. option_map_or (λ (cell : RegisterCell ℕ ℕ). list_any (is_in nets) (shown_nets cell)) (slice_get rs k) false) b.registers

  same_sources : sources n ≡ sources m
  same_sources =
      ap (λ ys. map InputOf ys ++ map RegisterOf (registers_of n)) b.inputs
      ∙ ap (λ (count : ℕ). map InputOf (data_inputs m.circuit) ++ map RegisterOf (range_with_len 0 count)) (ap length b.registers)

  same_start : (inputs states : ℕ → ℕ) → start_nets aig_values n inputs states ≡ start_nets aig_values m inputs states
  same_start inputs states =
      let first : List ℕ → ℕ → ℕ = λ ys y. if is_in ys y then inputs y else from_state aig_values.inverse 0 states (shown_by n.circuit.registers y) in
      let second : List (RegisterCell ℕ ℕ) → ℕ → ℕ = λ rs y. if is_in (data_inputs m.circuit) y then inputs y else from_state aig_values.inverse 0 states (shown_by rs y) in
      ap first b.inputs ∙ ap second b.registers

  -- a question of the first cycle alone, that asks for the same on both machines
  module _ (q : Question) (one : IsOneCopy m q) (also : IsOneCopy n q)
      (asked : sides_nets n (enable_nets q) Before q.sides ≡ sides_nets m (enable_nets q) Before q.sides)
      (low : (y : ℕ) → is_in (enable_nets q ++ sides_nets m (enable_nets q) Before q.sides ++ []) y ≡ true → y < length m.circuit.names)
      (asks : (k : ℕ) → sides_ask n Before q.sides k ≡ sides_ask m Before q.sides k)
      (goal : (c e : Copies) → c.nets0 ≡ e.nets0 → c.states0 ≡ e.states0 → c.domain ≡ e.domain → goal_run aig_values n q c ≡ goal_run aig_values m q e)
      (fits : SidesFit m q.sides) (fit : SidesFit n q.sides) where
    abbrev roots : List ℕ
    roots = enable_nets q ++ sides_nets m (enable_nets q) Before q.sides ++ []

    nets_are : before_nets m q ≡ cone_of (walk_of m) roots
    nets_are = ap (λ rs. cone_of (walk_of m) (enable_nets q ++ sides_nets m (enable_nets q) Before q.sides ++ flat_map (origin_nets m q) rs)) (filter_none (after_states m q) (registers_of m) one.states)

    same_nets : before_nets n q ≡ before_nets m q
    same_nets =
        ap (λ rs. cone_of (walk_of n) (enable_nets q ++ sides_nets n (enable_nets q) Before q.sides ++ flat_map (origin_nets n q) rs)) (filter_none (after_states n q) (registers_of n) also.states)
        ∙ (ap (λ ys. cone_of (walk_of n) (enable_nets q ++ ys ++ [])) asked ∙ (same_cone roots low ∙ sym nets_are))

    nets_low : IsLow (before_nets m q)
    nets_low y among = cone_low roots low y (ap (λ l. is_in l y) (sym nets_are) ∙ among)

    same_reached : (source : LeafSource) → is_reached n q Before source ≡ is_reached m q Before source
    same_reached (InputOf y) = ap (λ l. is_in l y) same_nets
    same_reached (RegisterOf k) =
        ap (λ l. feeds n l k || (sides_ask n Before q.sides k || (after_states n q k && origin_asks n q k))) same_nets
        ∙ (ap (λ (a : Bool). a || (sides_ask n Before q.sides k || (after_states n q k && origin_asks n q k))) (same_feeds (before_nets m q) k)
        ∙ (ap (λ (a : Bool). feeds m (before_nets m q) k || (a || (after_states n q k && origin_asks n q k))) (asks k)
        ∙ ap (λ (a : Bool). feeds m (before_nets m q) k || (sides_ask m Before q.sides k || a)) none_later))
      where
        none_later : (after_states n q k && origin_asks n q k) ≡ (after_states m q k && origin_asks m q k)
        none_later = ap (λ (a : Bool). a && origin_asks n q k) (also.states k) ∙ sym (ap (λ (a : Bool). a && origin_asks m q k) (one.states k))

    same_leaves : leaves_of n q ≡ leaves_of m q
    same_leaves =
        leaves_one n q also
        ∙ (ap (λ ss. leaves_from (filter (is_reached n q Before) ss)) same_sources
        ∙ (ap leaves_from (same_test (is_reached n q Before) (is_reached m q Before) (sources m) same_reached) ∙ sym (leaves_one m q one)))

    same_table : (leaves : List Leaf) (s : Seen) → before_table aig_values n q leaves s ≡ before_table aig_values m q leaves s
    same_table leaves s =
        let inputs : ℕ → ℕ = λ y. leaf_value aig_values leaves Before (InputOf y) in
        let states : ℕ → ℕ = λ r. leaf_value aig_values leaves Before (RegisterOf r) in
        ap (λ cells. lay aig_values cells (record { domain = s; at = start_nets aig_values n inputs states })) (ap (reached_cells n) same_nets ∙ same_cells (before_nets m q) nets_low)
        ∙ ap (λ (at : ℕ → ℕ). lay aig_values (reached_cells m (before_nets m q)) (record { domain = s; at = at })) (same_start inputs states)

    same_run : claim_run n q ≡ claim_run m q
    same_run =
        let leaves : List Leaf = leaves_of m q in
        let s : Seen = leaf_list (length leaves) in
        ap (λ (ls : List Leaf). goal_run aig_values n q (copies aig_values n q ls (leaf_list (length ls)))) same_leaves
        ∙ goal (copies aig_values n q leaves s) (copies aig_values m q leaves s) (ap (λ (t : Table). t.at) (same_table leaves s)) refl
        (domain_one n q also aig_values leaves s ∙ (ap (λ (t : Table). t.domain) (same_table leaves s) ∙ sym (domain_one m q one aig_values leaves s)))

    same_width : width_of n q ≡ width_of m q
    same_width = ap length same_leaves

    never_there : IsNeverOne n q → IsNeverOne m q
    never_there never bits long = ap (λ (r : Run). aig_ops.bit r.domain bits r.answer) (sym same_run) ∙ never bits (long ∙ sym same_width)

    never_here : IsNeverOne m q → IsNeverOne n q
    never_here never bits long = ap (λ (r : Run). aig_ops.bit r.domain bits r.answer) same_run ∙ never bits (long ∙ same_width)

    same_claim : SameClaim m n q
    same_claim = record {
      width = same_width;
      large = ap (λ (r : Run). nat_lt MOST_CLAIM_NODES (size r.domain)) same_run;
      never = same_bools (is_never n q) (is_never m q)
          (λ h. (never_is_tried m q good fits).1 (never_there ((never_is_tried n q other fit).0 h)))
          (λ h. (never_is_tried n q other fit).1 (never_here ((never_is_tried m q good fits).0 h)));
    }

  -- that literals can be 0
  pub same_idle : (E : List Literal) → ((y : ℕ) → is_in (map (λ (l : Literal). l.0) E) y ≡ true → y < length m.circuit.names) → SameClaim m n (idle_question E)
  same_idle E low = same_claim (idle_question E) (idle_one m E) (idle_one n E) refl alone (λ k. refl) goal tt tt
    where
      alone : (y : ℕ) → is_in (enable_nets (idle_question E) ++ sides_nets m (enable_nets (idle_question E)) Before (idle_question E).sides ++ []) y ≡ true → y < length m.circuit.names
      alone y among = elim (is_in_cases (map (λ (l : Literal). l.0) E ++ []) [] y among) [
        | inl one ↦ elim (is_in_cases (map (λ (l : Literal). l.0) E) [] y one) [ inl net ↦ low y net | inr none ↦ absurd (both_ways false refl none) ]
        | inr none ↦ absurd (both_ways false refl none)
      ]

      goal : (c e : Copies) → c.nets0 ≡ e.nets0 → c.states0 ≡ e.states0 → c.domain ≡ e.domain → goal_run aig_values n (idle_question E) c ≡ goal_run aig_values m (idle_question E) e
      goal c e nets states domain = ap (λ (f : ℕ → ℕ). idle_to E f c.domain) nets ∙ ap (λ (s : Seen). idle_to E e.nets0 s) domain

  -- that a register holds its bit where a literal is 0
  module _ (l : Literal) (r : ℕ) (net : l.0 < length m.circuit.names) (below : r < length m.circuit.registers) (enable : enable_of n r ≡ enable_of m r) where
    same_asked : sides_nets n (enable_nets (hold_question l r)) Before (hold_question l r).sides ≡ sides_nets m (enable_nets (hold_question l r)) Before (hold_question l r).sides
    same_asked =
        ap (λ rs. (option_map_or (λ (cell : RegisterCell ℕ ℕ). cell.inputs) (slice_get rs r) [] ++ option_to_list (enable_of n r)) ++ []) b.registers
        ∙ ap (λ (e : Option ℕ). (inputs_of_register m r ++ option_to_list e) ++ []) enable

    next_low : IsLow (next_nets m r)
    next_low y among = elim (is_in_cases (inputs_of_register m r) (option_to_list (enable_of m r)) y among) [
      | inl input ↦ used_below m good y (inputs_used m good r y input)
      | inr own ↦ (good.enabled r y (in_option (enable_of m r) y own)).below
    ]

    roots_low : IsLow ((l.0 ∷ []) ++ ((next_nets m r ++ []) ++ []))
    roots_low y among = elim (is_in_cases (l.0 ∷ []) ((next_nets m r ++ []) ++ []) y among) [
      | inl literal ↦ first literal
      | inr more ↦ elim (is_in_cases (next_nets m r ++ []) [] y more) [
        | inl next ↦ elim (is_in_cases (next_nets m r) [] y next) [ inl asked ↦ next_low y asked | inr none ↦ absurd (both_ways false refl none) ]
        | inr none ↦ absurd (both_ways false refl none)
      ]
    ]
      where
        first : is_in (l.0 ∷ []) y ≡ true → y < length m.circuit.names
        first h = let same : y ≡ l.0 = in_one y l.0 h in omega (arith, same, net)

    same_asks : (k : ℕ) → sides_ask n Before (hold_question l r).sides k ≡ sides_ask m Before (hold_question l r).sides k
    same_asks k =
        ap (λ rs. (nat_eq k r && (is_some (enable_of n r) || option_map_or reads_own (slice_get rs r) false)) || nat_eq k r) b.registers
        ∙ ap (λ (e : Option ℕ). (nat_eq k r && (is_some e || option_map_or reads_own (slice_get m.circuit.registers r) false)) || nat_eq k r) enable

    abbrev to : Option (RegisterCell ℕ ℕ) → Option ℕ → (ℕ → ℕ) → (ℕ → ℕ) → Seen → Run
    to cell e nets states s =
        chain (enable_run aig_values nets (l ∷ []) s) (λ a t.
        chain (next_run_of aig_values cell e nets (states r) t) (λ x u.
        chain (plain (states r) u) (λ y v.
        chain (build_xor aig_values.ops x y v) (λ g w. build_and aig_values.ops (aig_values.inverse a) g w))))

    same_goal : (c e : Copies) → c.nets0 ≡ e.nets0 → c.states0 ≡ e.states0 → c.domain ≡ e.domain → goal_run aig_values n (hold_question l r) c ≡ goal_run aig_values m (hold_question l r) e
    same_goal c e nets states domain =
        ap (λ (rs : List (RegisterCell ℕ ℕ)). to (slice_get rs r) (enable_of n r) c.nets0 c.states0 c.domain) b.registers
        ∙ (ap (λ (o : Option ℕ). to (slice_get m.circuit.registers r) o c.nets0 c.states0 c.domain) enable
        ∙ (ap (λ (f : ℕ → ℕ). to (slice_get m.circuit.registers r) (enable_of m r) f c.states0 c.domain) nets
        ∙ (ap (λ (f : ℕ → ℕ). to (slice_get m.circuit.registers r) (enable_of m r) e.nets0 f c.domain) states
        ∙ ap (λ (s : Seen). to (slice_get m.circuit.registers r) (enable_of m r) e.nets0 e.states0 s) domain)))

    there : r < length n.circuit.registers
    there = let e : length n.circuit.registers ≡ length m.circuit.registers = ap length b.registers in omega (arith, e, below)

    pub same_hold : SameClaim m n (hold_question l r)
    same_hold = same_claim (hold_question l r) (hold_one m l r) (hold_one n l r) same_asked roots_low same_asks same_goal (below, below) (there, there)
