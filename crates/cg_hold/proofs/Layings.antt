-- Cells are laid in each lane, and the words of all nets are those of cycles.
use Rattle.std.proofs.Common.{◌≡◌, ℕ, suc, ◌+◌, ◌-◌, ◌<◌, ◌≤◌, Bool, true, false, not, cond, if◌then◌else◌, List, [], ◌∷◌, ◌++◌, map}
use Rattle.std.proofs.Common.{length, nat_eq, set, slice_get, slice_index_or, slice_set, take, Option, Some, None, refl, sym, ◌∙◌, ap, subst}
use Rattle.std.proofs.Common.{arith, inl, inr}
use Rattle.std.specs.List.{cons_option, filter, range_with_len}
use Rattle.std.proofs.lemmas.Bool.{both_ways, or_from}
use Rattle.std.proofs.lemmas.List.{length-append, length-map, length-set, length-take-le}
use Rattle.std.proofs.lemmas.Option.{slice_get-get_or, slice_get_within}
use Rattle.cg_claim.proofs.GivenNets.{bits_given}
use Rattle.cg_claim.specs.Build.{from_state, given, shown_by}
use Rattle.cg_word.proofs.Lanes.{lane_get, lane_or, lane_set, lane_values, zero_bit}
use Rattle.cg_hold.specs.inner.Laying.{IsStart, Lays, StartsAt}
use Rattle.cg_word.specs.Words.{IsWord, LANES, lane, lane_bit, word_not}
use Rattle.cg_word.specs.inner.WordsLaws.{not_bit}
use Rattle.cg_machine.proofs.PutBits.{put_cells-append}
use Rattle.cg_machine.proofs.Settled.{settled}
use Rattle.cg_machine.specs.Machine.{IsInputs, IsMachine, IsState, MachineData, order_of, values, walk_of}
use Rattle.cg_netlist.proofs.Driven.{in_range}
use Rattle.cg_netlist.proofs.CellFits.{walk_within}
use Rattle.cg_netlist.proofs.Given.{driver_within, given_driver, given_no_cell, given_within, data_given}
use Rattle.cg_net.proofs.Members.{is_in_cases, member_at}
use Rattle.cg_netlist.proofs.NetsOf.{beside_at, other_eqb}
use Rattle.cg_netlist.proofs.Values.{bit_shown, element_at, length-values_at, same_values, values_at-append, values_by}
use Rattle.cg_netlist.proofs.WalkLawsHold.{walk_leaves_moment}
use Rattle.cg_netlist.specs.Circuit.{Circuit, LogicCell, cell_nets, data_inputs, given_nets}
use Rattle.cg_net.specs.NetSets.{is_in}
use Rattle.cg_netlist.specs.Moment.{CellsHold, bit, function_value, values_at}
use Rattle.cg_netlist.specs.Nets.{IsOrdered, beside, outputs, put_cells, walk_order}
use Rattle.cg_netlist_cone.proofs.Cones.{AreClosed}
use Rattle.cg_net.proofs.TableLemmas.{same_or_not, slice_get-set_other, slice_get-set_same, take_end}
use Rattle.cg_netlist.proofs.SearchSteps.{push_cases}
use Rattle.cg_claim_reach.proofs.Filtering.{take_whole}

-- no cell, one, and some behind others
pub lays_none : (words : List ℕ) → Lays [] words words
lays_none words = record { at = λ i below. refl }

pub lays_one : (cell : LogicCell ℕ) (words : List ℕ) (word : ℕ) → IsWord word (λ i. function_value cell.function (lane i (values_at words cell.inputs)))
    → Lays (cell ∷ []) words (set words cell.output word)
lays_one cell words word is = record {
  at = λ i below.
      lane_set i words cell.output word
      ∙ ap (set (lane i words) cell.output) (is.at i below ∙ ap (function_value cell.function) (lane_values i words cell.inputs));
}

lays_then : (xs ys : List (LogicCell ℕ)) (a b c : List ℕ) → Lays xs a b → Lays ys b c → Lays (xs ++ ys) a c
lays_then xs ys a b c first second = record { at = λ i below. second.at i below ∙ (ap (put_cells ys) (first.at i below) ∙ sym (put_cells-append xs ys (lane i a))) }

-- the cells at the first places of an order
abbrev pub first_cells : List (LogicCell ℕ) → List ℕ → ℕ → List (LogicCell ℕ)
first_cells cells order n = values_at cells (take n order)

pub lays_next : (cells : List (LogicCell ℕ)) (order : List ℕ) (n id : ℕ) (cell : LogicCell ℕ) (a b c : List ℕ) → slice_get order n ≡ Some id → slice_get cells id ≡ Some cell
    → Lays (first_cells cells order n) a b → Lays (cell ∷ []) b c → Lays (first_cells cells order (n + 1)) a c
lays_next cells order n id cell a b c at is before last =
    let e : suc n ≡ n + 1 = omega arith in
    let more : first_cells cells order (n + 1) ≡ first_cells cells order n ++ cell ∷ [] =
    ap (first_cells cells order) (sym e)
    ∙ (ap (values_at cells) (take_end order n id at)
    ∙ (values_at-append cells (take n order) (id ∷ []) ∙ ap (λ o. first_cells cells order n ++ cons_option o []) is)) in
    subst (λ l. Lays l a c) (sym more) (lays_then (first_cells cells order n) (cell ∷ []) a b c before last)

pub lays_all : (m : MachineData) (n : ℕ) (a b : List ℕ) → length (order_of m) ≤ n → Lays (first_cells m.circuit.cells (order_of m) n) a b → Lays (walk_of m) a b
lays_all m n a b past laid = subst (λ ids. Lays (values_at m.circuit.cells ids) a b) (take_whole (order_of m) n past) laid

-- each number in the order is a cell's
pub order_within : (m : MachineData) → IsMachine m → (place id : ℕ) → slice_get (order_of m) place ≡ Some id → id < length m.circuit.cells
order_within m good place id at =
    let own : List (LogicCell ℕ) = take m.own_cells m.circuit.cells in
    let added : ℕ = length m.circuit.cells - m.own_cells in
    let count = length-take-le m.own_cells m.circuit.cells (omega (arith, good.own_cells)) in
    elim (is_in_cases (walk_order own) (range_with_len m.own_cells added) id (member_at (order_of m) place id at)) [
      | inl among ↦ let low = walk_within own id among in omega (arith, low, count, good.own_cells)
      | inr among ↦ let high = (in_range added m.own_cells id among).1 in omega (arith, high, good.own_cells)
    ]

-- what is given in words is given in each lane
module _ (c : Circuit) (i : ℕ) (below : i < LANES) (input state : ℕ → ℕ) where
  pub lane_given : (net : ℕ) → lane_bit i (given word_not 0 c input state net) ≡ given not false c (λ y. lane_bit i (input y)) (λ r. lane_bit i (state r)) net
  lane_given net = go (is_in (data_inputs c) net)
    where
      shown : (r : ℕ) (b : Bool) → lane_bit i (if b then word_not (state r) else state r) ≡ (if b then not (lane_bit i (state r)) else lane_bit i (state r))
      shown r true = not_bit (state r) i below
      shown r false = refl

      by : (o : Option (ℕ × Bool)) → lane_bit i (from_state word_not 0 state o) ≡ from_state not false (λ r. lane_bit i (state r)) o
      by None = zero_bit i
      by (Some p) = shown p.0 p.1

      go : (b : Bool) → lane_bit i (if b then input net else from_state word_not 0 state (shown_by c.registers net)) ≡ (if b then lane_bit i (input net) else from_state not false (λ r. lane_bit i (state r)) (shown_by c.registers net))
      go true = refl
      go false = by (shown_by c.registers net)

-- inputs and states that agree give the same
given_agrees : (c : Circuit) (inputs inputs' states states' : ℕ → Bool) (net : ℕ) → (is_in (data_inputs c) net ≡ true → inputs net ≡ inputs' net) → ((r : ℕ) → states r ≡ states' r)
    → given not false c inputs states net ≡ given not false c inputs' states' net
given_agrees c inputs inputs' states states' net ins sts = go (is_in (data_inputs c) net) refl
  where
    shown : (r : ℕ) (b : Bool) → (if b then not (states r) else states r) ≡ (if b then not (states' r) else states' r)
    shown r true = ap not (sts r)
    shown r false = sts r

    by : (o : Option (ℕ × Bool)) → from_state not false states o ≡ from_state not false states' o
    by None = refl
    by (Some p) = shown p.0 p.1

    go : (b : Bool) → is_in (data_inputs c) net ≡ b → (if b then inputs net else from_state not false states (shown_by c.registers net)) ≡ (if b then inputs' net else from_state not false states' (shown_by c.registers net))
    go true is = ins is
    go false is = by (shown_by c.registers net)

-- cells that pass a test are put in an order, where the nets of no other cells that pass are not yet as they should be
put_some : (cells : List (LogicCell ℕ)) (test : ℕ → Bool) (table vs : List Bool) → length table ≡ length vs → CellsHold cells vs → IsOrdered cells → AreClosed cells test
    → ((x : ℕ) → test x ≡ true → is_in (outputs cells) x ≡ false → slice_get table x ≡ slice_get vs x) → (x : ℕ) → test x ≡ true → slice_get (put_cells (filter (λ cell. test cell.output) cells) table) x ≡ slice_get vs x
put_some [] test table vs long holds ordered closed same x passes = same x passes refl
put_some (cell ∷ cells) test table vs long holds ordered closed same x passes = go (λ t l s. put_some cells test t vs l (λ k. holds (suc k)) ordered.1 (λ k. closed (suc k)) s x passes) (test cell.output) refl
  where
    go : ((t : List Bool) → length t ≡ length vs → ((y : ℕ) → test y ≡ true → is_in (outputs cells) y ≡ false → slice_get t y ≡ slice_get vs y) → slice_get (put_cells (filter (λ cell. test cell.output) cells) t) x ≡ slice_get vs x)
        → (b : Bool) → test cell.output ≡ b → slice_get (put_cells (cond b (cell ∷ filter (λ cell. test cell.output) cells) (filter (λ cell. test cell.output) cells)) table) x ≡ slice_get vs x
    go rest false is = rest table long (λ y p out. same y p (or_from (nat_eq y cell.output) (is_in (outputs cells) y) (other_eqb y cell.output (λ e. both_ways (test y) (ap test e ∙ is) p)) out))
    go rest true is =
        let v : Bool = function_value cell.function (values_at table cell.inputs) in
        let inputs : values_at table cell.inputs ≡ values_at vs cell.inputs = same_values table vs cell.inputs (λ y among. same y (closed 0 cell refl is y among) (ordered.0 y among)) in
        let there : slice_get vs cell.output ≡ Some v = holds 0 cell refl ∙ ap (λ bits. Some (function_value cell.function bits)) (sym inputs) in
        let within : cell.output < length table = omega (arith, slice_get_within vs cell.output v there, long) in
        rest (slice_set table cell.output v) (length-set table cell.output v ∙ long) (λ y p out. elim (same_or_not y cell.output) [
          | inl e ↦ ap (slice_get (slice_set table cell.output v)) e ∙ (slice_get-set_same table cell.output v within ∙ (sym there ∙ ap (slice_get vs) (sym e)))
          | inr e ↦ slice_get-set_other table cell.output y v e ∙ same y p (or_from (nat_eq y cell.output) (is_in (outputs cells) y) (other_eqb y cell.output e) out)
        ])

-- the words before cells are laid are those of cycles with these states, and with the inputs that stand there
module _ (m : MachineData) (good : IsMachine m) (state words : List ℕ) (state_long : length state ≡ length m.circuit.registers) (long : length words ≡ length m.circuit.names) where
  abbrev pub inputs_in : ℕ → List Bool
  inputs_in i = values_at (lane i words) (data_inputs m.circuit)

  words_long : (i : ℕ) → length (lane i words) ≡ length m.circuit.names
  words_long i = length-map words (lane_bit i) ∙ long

  pub are_inputs : (i : ℕ) → IsInputs m (inputs_in i)
  are_inputs i = length-values_at (lane i words) (data_inputs m.circuit) (given_within m.circuit good.well_formed.driven (length (lane i words)) (data_inputs m.circuit) (words_long i) (data_given m.circuit))

  pub is_state : (i : ℕ) → IsState m (lane i state)
  is_state i = length-map state (lane_bit i) ∙ state_long

  module _ (i : ℕ) (below : i < LANES) where
    abbrev vs : List Bool
    vs = values m (lane i state) (inputs_in i)

    below_names : (y : ℕ) → is_in (given_nets m.circuit) y ≡ true → y < length m.circuit.names
    below_names y among = driver_within m.circuit good.well_formed.driven y (given_driver m.circuit y among)

    word_at : (y : ℕ) → is_in (given_nets m.circuit) y ≡ true → (word : ℕ) × (slice_get words y ≡ Some word)
    word_at y among = let small = below_names y among in element_at words y (omega (arith, small, long))

    -- the input of a lane is the bit that stands there
    input_is : (y word : ℕ) → slice_get words y ≡ Some word → is_in (data_inputs m.circuit) y ≡ true → lane_bit i word ≡ beside false (data_inputs m.circuit) (inputs_in i) y
    input_is y word at among =
        let each : inputs_in i ≡ map (bit (lane i words)) (data_inputs m.circuit) = values_by (bit (lane i words)) (lane i words) (data_inputs m.circuit) (λ z inside.
        let small = below_names z (data_given m.circuit z inside) in slice_get-get_or (lane i words) z false (omega (arith, small, words_long i))) in
        sym (ap (λ bits. beside false (data_inputs m.circuit) bits y) each ∙ (beside_at (bit (lane i words)) (data_inputs m.circuit) y among ∙ bit_shown (lane i words) y (lane_bit i word) (lane_get i words y word at)))

    -- a net that is given, where its word is what stands there before cells are laid
    given_same : (y : ℕ) → is_in (given_nets m.circuit) y ≡ true → ((word : ℕ) → slice_get words y ≡ Some word → StartsAt m state y word) → slice_get (lane i words) y ≡ slice_get vs y
    given_same y among each =
        let w = word_at y among in
        let settles = settled m good (lane i state) (inputs_in i) (is_state i) (are_inputs i) in
        let small = below_names y among in
        let shown : slice_get vs y ≡ Some (bit vs y) = slice_get-get_or vs y false (omega (arith, small, settles.long)) in
        let starts : w.0 ≡ given word_not 0 m.circuit (λ _. w.0) (λ r. slice_index_or state r 0) y = each w.0 w.1 in
        let is : lane_bit i w.0 ≡ bit vs y =
        ap (lane_bit i) starts
        ∙ (lane_given m.circuit i below (λ _. w.0) (λ r. slice_index_or state r 0) y
        ∙ (given_agrees m.circuit (λ _. lane_bit i w.0) (beside false (data_inputs m.circuit) (inputs_in i)) (λ r. lane_bit i (slice_index_or state r 0)) (bit (lane i state)) y (input_is y w.0 w.1) (λ r. sym (lane_or i state r))
        ∙ sym (bits_given m good (lane i state) (inputs_in i) (is_state i) (are_inputs i) y (given_no_cell m.circuit good.well_formed.driven y among)))) in
        lane_get i words y w.0 w.1 ∙ (ap Some is ∙ sym shown)

    pub nets_are : IsStart m state words → (nets : List ℕ) → Lays (walk_of m) words nets → lane i nets ≡ vs
    nets_are start nets laid =
        laid.at i below
        ∙ walk_leaves_moment m.circuit (walk_of m) false (inputs_in i) (lane i state) [] vs (lane i words) good.well_formed good.walk (settled m good (lane i state) (inputs_in i) (is_state i) (are_inputs i)) (words_long i) (λ y among. given_same y among (start.each y))

    -- the nets that pass a test, where the inputs of each cell pass with its output, and cells whose outputs pass are laid
    pub some_are : (test : ℕ → Bool) → AreClosed (walk_of m) test → ((y : ℕ) → test y ≡ true → y < length m.circuit.names) → ((y word : ℕ) → test y ≡ true → slice_get words y ≡ Some word → StartsAt m state y word)
        → (nets : List ℕ) → Lays (filter (λ cell. test cell.output) (walk_of m)) words nets → (y : ℕ) → test y ≡ true → slice_get (lane i nets) y ≡ slice_get vs y
    some_are test closed within each nets laid y passes =
        let settles = settled m good (lane i state) (inputs_in i) (is_state i) (are_inputs i) in
        let holds : CellsHold (walk_of m) vs = λ j cell at. let k = good.walk.of_cells j cell at in settles.holds k.0 cell k.1 in
        ap (λ l. slice_get l y) (laid.at i below)
        ∙ put_some (walk_of m) test (lane i words) vs (words_long i ∙ sym settles.long) holds good.walk.ordered closed (λ x p out. elim (is_in_cases (given_nets m.circuit) (cell_nets m.circuit) x (good.well_formed.driven.driven x (within x p))) [
          | inl given' ↦ given_same x given' (λ word. each x word p)
          | inr output ↦ absurd (both_ways (is_in (outputs (walk_of m)) x) out (good.walk.whole x output))
        ]) y passes

-- the words of the nets up to a place, before cells are laid
pub record StartsTo (m : MachineData) (state words : List ℕ) (k : ℕ) : Type 0 where
  pub long : length words ≡ k
  pub each : (net word : ℕ) → slice_get words net ≡ Some word → StartsAt m state net word

pub starts_none : (m : MachineData) (state : List ℕ) → StartsTo m state [] 0
starts_none m state = record { long = refl; each = λ net word at. absurd (Rattle.std.proofs.lemmas.Option.none-some word at) }

pub starts_more : (m : MachineData) (state words : List ℕ) (k net word : ℕ) → net ≡ k → StartsAt m state net word → StartsTo m state words k → StartsTo m state (words ++ word ∷ []) (k + 1)
starts_more m state words k net word same is so_far = record {
  long = let l = length-append words (word ∷ []) in omega (arith, l, so_far.long);
  each = λ j w at. elim (push_cases words word w j at) [
    | inl before ↦ so_far.each j w before
    | inr here ↦ let place : net ≡ j = same ∙ (sym so_far.long ∙ sym here.0) in subst (λ x. StartsAt m state j x) here.1 (subst (λ n. StartsAt m state n word) place is)
  ];
}

pub starts_all : (m : MachineData) (state words : List ℕ) (k : ℕ) → k ≡ length m.circuit.names → StartsTo m state words k → IsStart m state words
starts_all m state words k whole to = record { long = to.long ∙ whole; each = to.each }
