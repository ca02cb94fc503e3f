-- How wide the hold claims of a register without an enable are is told by the machine's own netlist alone.
use Rattle.std.proofs.Common.{◌≡◌, ℕ, zero, suc, ◌+◌, ◌-◌, ◌<◌, ◌≤◌, Bool, true, false, ◌&&◌, ◌||◌, cond, List, [], ◌∷◌, ◌++◌}
use Rattle.std.proofs.Common.{length, map, slice_get, nat_eq, Option, None, Some, refl, sym, ap, ◌∙◌, arith, append-nil}
use Rattle.std.specs.List.{All, filter, flat_map, list_any, range_with_len}
use Rattle.std.specs.Option.{option_map_or, option_to_list}
use Rattle.std.specs.Cmp.{both_ways as same_bools}
use Rattle.std.proofs.lemmas.Bool.{both_ways, false_from_ne_true, ne_eqb, or_cases, or_from}
use Rattle.std.proofs.lemmas.List.{length-append, length-map, length-take-le}
use Rattle.std.proofs.lemmas.List.Elements.{filter-append}
use Rattle.cg_claim.specs.Leaves.{is_reached}
use Rattle.cg_claim.specs.Question.{Before, held_question}
use Rattle.cg_claim.specs.Reach.{after_states, before_nets, feeds, inputs_of_register, next_asks_own, next_nets, origin_asks, origin_nets, registers_of, sides_ask}
use Rattle.cg_claim.specs.declared.leaf.LeafSource.{LeafSource}
use Rattle.cg_claim.specs.declared.leaf.LeafSource.TheVariants.{Input as InputOf, Register as RegisterOf}
use Rattle.cg_claim.proofs.OneCopy.{IsOneCopy, filter_none, hold_one, leaves_one}
use Rattle.cg_machine.specs.Added.{own_netlist}
use Rattle.cg_machine.specs.Machine.{IsMachine, MachineData, enable_of, walk_of}
use Rattle.cg_machine.proofs.Lists.{take_get}
use Rattle.cg_net.specs.NetSets.{is_in}
use Rattle.cg_net.proofs.Members.{All-member}
use Rattle.cg_netlist.specs.Circuit.{Circuit, RegisterCell, data_inputs, shown_nets, used_nets}
use Rattle.cg_netlist.specs.WellFormed.{IsDriven}
use Rattle.cg_netlist.proofs.Used.{data_is_used, input_is_used}
use Rattle.cg_netlist.proofs.Driven.{in_range}
use Rattle.cg_netlist_cone.specs.Cone.{IsInCone, Reaches, cone_of, here, through}
use Rattle.cg_netlist_cone.proofs.Cones.{cone_is}
use Rattle.cg_stage_list_laws.specs.HoldList.{hold_width}
use Rattle.cg_register_text.proofs.OwnDrivers.{delay_apart, front_cell, own_cell}

range_parts : (s x y : ℕ) → range_with_len s (x + y) ≡ range_with_len s x ++ range_with_len (s + x) y
range_parts s zero y = ap (range_with_len s) (let z : 0 + y ≡ y = omega arith in z) ∙ ap (λ a. range_with_len a y) (let e : s ≡ s + 0 = omega arith in e)
range_parts s (suc x) y =
    ap (range_with_len s) (let z : suc x + y ≡ suc (x + y) = omega arith in z)
    ∙ ap (λ l. s ∷ l) (range_parts (s + 1) x y ∙ ap (λ a. range_with_len (s + 1) x ++ range_with_len a y) (let e : s + 1 + x ≡ s + suc x = omega arith in e))

-- filters that agree where they are asked
agree : {X : Type 0} (f g : X → Bool) (F : ℕ → X) (xs : List ℕ) → ((x : ℕ) → is_in xs x ≡ true → f (F x) ≡ g (F x)) → filter f (map F xs) ≡ filter g (map F xs)
agree f g F [] same = refl
agree f g F (x ∷ xs) same =
    let first : f (F x) ≡ g (F x) = same x (or_here x x (is_in xs x) refl) in
    ap (λ b. cond b (F x ∷ filter f (map F xs)) (filter f (map F xs))) first
    ∙ ap (λ l. cond (g (F x)) (F x ∷ l) l) (agree f g F xs (λ y among. same y (or_there (nat_eq y x) (is_in xs y) among)))
  where
    or_here : (a b : ℕ) (c : Bool) → a ≡ b → (nat_eq a b || c) ≡ true
    or_here a b c is = ap (λ d. d || c) (Rattle.std.proofs.lemmas.Bool.eq-eqb a b is)

    or_there : (b c : Bool) → c ≡ true → (b || c) ≡ true
    or_there true c is = refl
    or_there false c is = is

any_agree : (f g : ℕ → Bool) (xs : List ℕ) → ((x : ℕ) → f x ≡ g x) → list_any f xs ≡ list_any g xs
any_agree f g [] same = refl
any_agree f g (x ∷ xs) same = ap (λ b. b || list_any f xs) (same x) ∙ ap (λ b. g x || b) (any_agree f g xs same)

any_none : (f : ℕ → Bool) (xs : List ℕ) → ((x : ℕ) → is_in xs x ≡ true → f x ≡ false) → list_any f xs ≡ false
any_none f [] none = refl
any_none f (x ∷ xs) none =
    or_from (f x) (list_any f xs) (none x (ap (λ d. d || is_in xs x) (Rattle.std.proofs.lemmas.Bool.eq-eqb x x refl))) (any_none f xs (λ y among. none y (later (nat_eq y x) (is_in xs y) among)))
  where
    later : (b c : Bool) → c ≡ true → (b || c) ≡ true
    later true c is = refl
    later false c is = is

absorbed : (b x : Bool) → ((b && x) || b) ≡ b
absorbed true true = refl
absorbed true false = refl
absorbed false x = refl

-- what a question of one cycle reaches of a register
held_one : (m : MachineData) (r : ℕ) → IsOneCopy m (held_question r)
held_one m r = let one = hold_one m (0, false) r in record { after = one.after; changed = one.changed; states = one.states; moved = one.moved }

-- the inputs of a register of a netlist
abbrev inputs_in : Circuit → ℕ → List ℕ
inputs_in c r = option_map_or (λ (cell : RegisterCell ℕ ℕ). cell.inputs) (slice_get c.registers r) []

-- the sources that pass a test on nets, or are the register itself
abbrev passes : Circuit → (ℕ → Bool) → ℕ → LeafSource → Bool
passes c test r (InputOf y) = test y
passes c test r (RegisterOf k) = option_map_or (λ (cell : RegisterCell ℕ ℕ). list_any test (shown_nets cell)) (slice_get c.registers k) false || nat_eq k r

abbrev width_by : Circuit → (ℕ → Bool) → ℕ → ℕ
width_by c test r = length (filter (passes c test r) (map InputOf (data_inputs c))) + length (filter (passes c test r) (map RegisterOf (range_with_len 0 (length c.registers))))

module _ (m : MachineData) (good : IsMachine m) (c : Circuit) (own : own_netlist m ≡ c) (driven : IsDriven c) (used : All (λ net. net < length c.names) (used_nets c)) where
  count_is : length c.registers ≡ m.own_registers
  count_is = ap (λ (d : Circuit). length d.registers) (sym own) ∙ length-take-le m.own_registers m.circuit.registers good.own_registers

  -- the cone of nets of the netlist
  own_way : (y x : ℕ) → Reaches m.circuit.cells y x → x < length c.names → Reaches c.cells y x × (y < length c.names)
  own_way y x here below = (here, below)
  own_way y x (through k cell z at input way) below =
      let there = own_cell m good c own driven k cell at below in
      let low : z < length c.names = All-member (λ net. net < length c.names) (used_nets c) z used (input_is_used c k z cell there input) in
      let before = own_way y z way low in
      (through k cell z there input before.0, before.1)

  back_way : (y x : ℕ) → Reaches c.cells y x → Reaches m.circuit.cells y x
  back_way y x here = here
  back_way y x (through k cell z at input way) = through k cell z (front_cell m good c own driven k cell at) input (back_way y z way)

  module _ (roots : List ℕ) (below : (x : ℕ) → is_in roots x ≡ true → x < length c.names) where
    cone_own : (y : ℕ) → is_in (cone_of (walk_of m) roots) y ≡ true → IsInCone c.cells roots y × (y < length c.names)
    cone_own y among =
        let way : IsInCone m.circuit.cells roots y = (cone_is m.circuit.cells (walk_of m) good.walk roots y).0 among in
        let found = own_way y way.root way.reaches (below way.root way.among) in
        (record { root = way.root; among = way.among; reaches = found.0 }, found.1)

    own_cone : (y : ℕ) → IsInCone c.cells roots y → is_in (cone_of (walk_of m) roots) y ≡ true
    own_cone y way = (cone_is m.circuit.cells (walk_of m) good.walk roots y).1 (record { root = way.root; among = way.among; reaches = back_way y way.root way.reaches })

  module _ (r : ℕ) (low : r < m.own_registers) (free : enable_of m r ≡ None) where
    one : IsOneCopy m (held_question r)
    one = held_one m r

    same_cell : (k : ℕ) → k < m.own_registers → slice_get m.circuit.registers k ≡ slice_get c.registers k
    same_cell k under = sym (take_get m.own_registers m.circuit.registers k under) ∙ ap (λ (d : Circuit). slice_get d.registers k) own

    roots_are : ((next_nets m r ++ []) ++ flat_map (origin_nets m (held_question r)) (filter (after_states m (held_question r)) (registers_of m))) ≡ inputs_in c r
    roots_are =
        ap (λ rs. (next_nets m r ++ []) ++ flat_map (origin_nets m (held_question r)) rs) (filter_none (after_states m (held_question r)) (registers_of m) one.states)
        ∙ (append-nil (next_nets m r ++ []) ∙ (append-nil (next_nets m r)
        ∙ (ap (λ o. inputs_of_register m r ++ option_to_list o) free ∙ (append-nil (inputs_of_register m r)
        ∙ ap (λ (o : Option (RegisterCell ℕ ℕ)). option_map_or (λ (cell : RegisterCell ℕ ℕ). cell.inputs) o []) (same_cell r low)))))

    roots_below : (x : ℕ) → is_in (inputs_in c r) x ≡ true → x < length c.names
    roots_below x among = go (slice_get c.registers r) refl among
      where
        go : (o : Option (RegisterCell ℕ ℕ)) → slice_get c.registers r ≡ o → is_in (option_map_or (λ (cell : RegisterCell ℕ ℕ). cell.inputs) o []) x ≡ true → x < length c.names
        go None at inside = absurd (both_ways false refl inside)
        go (Some cell) at inside = All-member (λ net. net < length c.names) (used_nets c) x used (data_is_used c r x cell at inside)

    nets_are : before_nets m (held_question r) ≡ cone_of (walk_of m) (inputs_in c r)
    nets_are = ap (cone_of (walk_of m)) roots_are

    -- which nets are reached is told by the netlist
    pub reached_own : (y : ℕ) → is_in (before_nets m (held_question r)) y ≡ true → IsInCone c.cells (inputs_in c r) y × (y < length c.names)
    reached_own y among = cone_own (inputs_in c r) roots_below y (ap (λ l. is_in l y) (sym nets_are) ∙ among)

    pub own_reached : (y : ℕ) → IsInCone c.cells (inputs_in c r) y → is_in (before_nets m (held_question r)) y ≡ true
    own_reached y way = ap (λ l. is_in l y) nets_are ∙ own_cone (inputs_in c r) roots_below y way

    module _ (test : ℕ → Bool) (same : (y : ℕ) → is_in (before_nets m (held_question r)) y ≡ test y) where
      asks_self : (k : ℕ) → (sides_ask m Before (held_question r).sides k || (after_states m (held_question r) k && origin_asks m (held_question r) k)) ≡ nat_eq k r
      asks_self k = ap (λ b. ((nat_eq k r && next_asks_own m r) || nat_eq k r) || (b && origin_asks m (held_question r) k)) (one.states k) ∙ (or_false ((nat_eq k r && next_asks_own m r) || nat_eq k r) ∙ absorbed (nat_eq k r) (next_asks_own m r))
        where
          or_false : (b : Bool) → (b || false) ≡ b
          or_false true = refl
          or_false false = refl

      of_register : (k : ℕ) → k < m.own_registers → is_reached m (held_question r) Before (RegisterOf k) ≡ passes c test r (RegisterOf k)
      of_register k under =
          ap (λ b. feeds m (before_nets m (held_question r)) k || b) (asks_self k)
          ∙ ap (λ b. b || nat_eq k r)
          (ap (λ (o : Option (RegisterCell ℕ ℕ)). option_map_or (λ (cell : RegisterCell ℕ ℕ). list_any (is_in (before_nets m (held_question r))) (shown_nets cell)) o false) (same_cell k under)
          ∙ go (slice_get c.registers k))
        where
          go : (o : Option (RegisterCell ℕ ℕ)) → option_map_or (λ (cell : RegisterCell ℕ ℕ). list_any (is_in (before_nets m (held_question r))) (shown_nets cell)) o false ≡ option_map_or (λ (cell : RegisterCell ℕ ℕ). list_any test (shown_nets cell)) o false
          go None = refl
          go (Some cell) = any_agree (is_in (before_nets m (held_question r))) test (shown_nets cell) same

      -- no delay register is reached
      no_delay : (k : ℕ) → m.own_registers ≤ k → is_reached m (held_question r) Before (RegisterOf k) ≡ false
      no_delay k past =
          ap (λ b. feeds m (before_nets m (held_question r)) k || b) (asks_self k)
          ∙ or_from (feeds m (before_nets m (held_question r)) k) (nat_eq k r) (go (slice_get m.circuit.registers k) refl) (ne_eqb k r (λ is. let no : ⊥ = omega (arith, is, low, past) in no))
        where
          go : (o : Option (RegisterCell ℕ ℕ)) → slice_get m.circuit.registers k ≡ o → option_map_or (λ (cell : RegisterCell ℕ ℕ). list_any (is_in (before_nets m (held_question r))) (shown_nets cell)) o false ≡ false
          go None at = refl
          go (Some cell) at = any_none (is_in (before_nets m (held_question r))) (shown_nets cell) (λ y shown. false_from_ne_true (is_in (before_nets m (held_question r)) y) (λ among.
              both_ways (is_in (shown_nets cell) y) (delay_apart m good c own driven k cell y past at (reached_own y among).1) shown))

      registers_are : filter (is_reached m (held_question r) Before) (map RegisterOf (registers_of m)) ≡ filter (passes c test r) (map RegisterOf (range_with_len 0 (length c.registers)))
      registers_are = whole (length m.circuit.registers - m.own_registers) (let g = good.own_registers in omega (arith, g))
        where
          mapped : (xs ys : List ℕ) → map RegisterOf (xs ++ ys) ≡ map RegisterOf xs ++ map RegisterOf ys
          mapped [] ys = refl
          mapped (x ∷ xs) ys = ap (λ l. RegisterOf x ∷ l) (mapped xs ys)

          none : (a : ℕ) (n : ℕ) → m.own_registers ≤ a → filter (is_reached m (held_question r) Before) (map RegisterOf (range_with_len a n)) ≡ []
          none a zero past = refl
          none a (suc n) past =
              ap (λ b. cond b (RegisterOf a ∷ filter (is_reached m (held_question r) Before) (map RegisterOf (range_with_len (a + 1) n))) (filter (is_reached m (held_question r) Before) (map RegisterOf (range_with_len (a + 1) n)))) (no_delay a past)
              ∙ none (a + 1) n (omega (arith, past))

          whole : (more : ℕ) → length m.circuit.registers ≡ m.own_registers + more → filter (is_reached m (held_question r) Before) (map RegisterOf (registers_of m)) ≡ filter (passes c test r) (map RegisterOf (range_with_len 0 (length c.registers)))
          whole more is =
              let front : List ℕ = range_with_len 0 m.own_registers in
              let back : List ℕ = range_with_len (0 + m.own_registers) more in
              let parts : registers_of m ≡ front ++ back = ap (range_with_len 0) is ∙ range_parts 0 m.own_registers more in
              ap (λ l. filter (is_reached m (held_question r) Before) (map RegisterOf l)) parts
              ∙ (ap (filter (is_reached m (held_question r) Before)) (mapped front back)
              ∙ (filter-append (is_reached m (held_question r) Before) (map RegisterOf front) (map RegisterOf back)
              ∙ (ap (λ l. filter (is_reached m (held_question r) Before) (map RegisterOf front) ++ l) (none (0 + m.own_registers) more (omega arith))
              ∙ (append-nil (filter (is_reached m (held_question r) Before) (map RegisterOf front))
              ∙ (agree (is_reached m (held_question r) Before) (passes c test r) RegisterOf front (λ k among. let b = in_range m.own_registers 0 k among in of_register k (omega (arith, b.1)))
              ∙ ap (λ n. filter (passes c test r) (map RegisterOf (range_with_len 0 n))) (sym count_is))))))

      inputs_are : filter (is_reached m (held_question r) Before) (map InputOf (data_inputs m.circuit)) ≡ filter (passes c test r) (map InputOf (data_inputs c))
      inputs_are =
          agree (is_reached m (held_question r) Before) (passes c test r) InputOf (data_inputs m.circuit) (λ y among. same y)
          ∙ ap (λ l. filter (passes c test r) (map InputOf l)) (ap data_inputs own)

      pub width_own : hold_width m r ≡ width_by c test r
      width_own =
          let ins : List LeafSource = map InputOf (data_inputs m.circuit) in
          let regs : List LeafSource = map RegisterOf (registers_of m) in
          let f : LeafSource → Bool = is_reached m (held_question r) Before in
          ap length (leaves_one m (held_question r) one)
          ∙ (length-map (filter f (ins ++ regs)) (λ source. record { copy = Before; source = source })
          ∙ (ap length (filter-append f ins regs)
          ∙ (length-append (filter f ins) (filter f regs)
          ∙ (ap (λ l. length l + length (filter f regs)) inputs_are ∙ ap (λ l. length (filter (passes c test r) (map InputOf (data_inputs c))) + length l) registers_are))))

-- two machines of one netlist
pub widths_same : (m n : MachineData) → IsMachine m → IsMachine n → (c : Circuit) → own_netlist m ≡ c → own_netlist n ≡ c → IsDriven c → All (λ net. net < length c.names) (used_nets c) → (r : ℕ) → r < m.own_registers → r < n.own_registers
    → enable_of m r ≡ None → enable_of n r ≡ None → hold_width n r ≡ hold_width m r
widths_same m n good fine c own mine driven used r low under free none =
    let test : ℕ → Bool = λ y. is_in (before_nets m (held_question r)) y in
    let same : (y : ℕ) → is_in (before_nets n (held_question r)) y ≡ is_in (before_nets m (held_question r)) y =
    λ y. same_bools (is_in (before_nets n (held_question r)) y) (is_in (before_nets m (held_question r)) y)
    (λ h. own_reached m good c own driven used r low free y (reached_own n fine c mine driven used r under none y h).0)
    (λ h. own_reached n fine c mine driven used r under none y (reached_own m good c own driven used r low free y h).0) in
    width_own n fine c mine driven used r under none test same ∙ sym (width_own m good c own driven used r low free test (λ y. refl))
