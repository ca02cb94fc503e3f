-- What drives the nets of a cone, one net at a time; and the cone as the netlist has it.
use Rattle.std.proofs.Common.{◌≡◌, ℕ, zero, suc, ◌+◌, ◌<◌, Bool, true, false, not, ◌||◌, ◌&&◌, cond, List, [], ◌∷◌, ◌++◌, length}
use Rattle.std.proofs.Common.{nat_eq, slice_get, slice_index_or, take, Option, Some, None, Result, Ok, Err, OnOk, is_ok}
use Rattle.std.proofs.Common.{if◌then◌else◌, refl, sym, ◌∙◌, ap, subst, arith, inl, inr}
use Rattle.std.specs.List.{cons_option, filter, list_any, range_with_len}
use Rattle.std.specs.Option.{option_map_or, option_to_list}
use Rattle.std.proofs.lemmas.Bool.{both_ways, eqb-true, eq-eqb, or_cases, or_left, or_right}
use Rattle.std.proofs.lemmas.List.Folds.{list_any-append}
use Rattle.std.proofs.lemmas.Option.{slice_get_within}
use Rattle.std.proofs.Math.Bool.{or-false}
use Rattle.cg_netlist.specs.Circuit.{Circuit, LogicCell, RegisterCell, cell_nets, data_inputs, gater_outputs, net_order}
use Rattle.cg_net.specs.NetSets.{is_in}
use Rattle.cg_netlist.specs.Circuit.{register_nets, shown_nets}
use Rattle.cg_netlist_cone.specs.Cone.{cell_feeds, cone_at, cone_of, register_feeds}
use Rattle.cg_netlist.specs.Drivers.{IsDriver}
use Rattle.cg_netlist.specs.Moment.{values_at}
use Rattle.cg_netlist.specs.Netlist.{IsNetlist}
use Rattle.cg_netlist.specs.Nets.{walk_order}
use Rattle.cg_netlist.specs.WellFormed.{IsDriven, IsInNetOrder}
use Rattle.cg_netlist_cone.specs.declared.cone.Cone.{Cone}
use Rattle.cg_netlist.specs.declared.driver.Driver.{Driver}
use Rattle.cg_netlist.specs.declared.driver.Driver.TheVariants.{Input, Clock, Cell, Gater, Register}
use Rattle.cg_netlist_cone.specs.inner.Reaching.{IsEdge, IsWired, cell_shows, register_shows}
use Rattle.cg_netlist.specs.inner.Rising.{Rises}
use Rattle.cg_netlist.proofs.Driven.{in_range}
use Rattle.cg_netlist.proofs.Filtered.{in_filter, range_in, to_filter}
use Rattle.cg_net.proofs.TableLemmas.{take_end}
use Rattle.cg_netlist.proofs.Given.{data_given, distinct_cells, driver_within, given_driver}
use Rattle.cg_net.proofs.Members.{member_at}
use Rattle.cg_netlist_cone.proofs.OneDriver.{cell_driver, cell_number, input_driver, is_input, is_register, register_driver}
use Rattle.cg_netlist.proofs.RisingNumbers.{range_rises, rises_later}
use Rattle.cg_netlist.proofs.RisingPlaces.{places_filter, rising_same}
use Rattle.cg_netlist.proofs.Values.{values_at-append}
use Rattle.cg_netlist.proofs.WalkOrder.{walk_is}
use Rattle.cg_netlist.proofs.WalkPlaces.{walk_once}
use Rattle.std.specs.Cmp.{both_ways as same_truth}

any_more : (test : ℕ → Bool) (nets : List ℕ) (y : ℕ) → list_any test (nets ++ y ∷ []) ≡ (list_any test nets || test y)
any_more test nets y = list_any-append test nets (y ∷ []) ∙ ap (λ b. list_any test nets || b) (or-false (test y))

pub in_more : (nets : List ℕ) (y x : ℕ) → is_in (nets ++ y ∷ []) x ≡ (is_in nets x || nat_eq x y)
in_more nets y x = any_more (nat_eq x) nets y

pub any_in : (test : ℕ → Bool) (xs : List ℕ) (x : ℕ) → is_in xs x ≡ true → test x ≡ true → list_any test xs ≡ true
any_in test [] x among passes = absurd (both_ways false refl among)
any_in test (y ∷ xs) x among passes = elim (or_cases (nat_eq x y) (is_in xs x) among) [
  | inl same ↦ or_left (test y) (list_any test xs) (ap test (sym (eqb-true x y same)) ∙ passes)
  | inr later ↦ or_right (test y) (list_any test xs) (any_in test xs x later passes)
]

pub from_any : (test : ℕ → Bool) (xs : List ℕ) → list_any test xs ≡ true → (x : ℕ) × (is_in xs x ≡ true) × (test x ≡ true)
from_any test [] any = absurd (both_ways false refl any)
from_any test (y ∷ xs) any = elim (or_cases (test y) (list_any test xs) any) [
  | inl here ↦ (y, or_left (nat_eq y y) (is_in xs y) (eq-eqb y y refl), here)
  | inr later ↦ let r = from_any test xs later in (r.0, or_right (nat_eq r.0 y) (is_in xs r.0) r.1, r.2)
]

-- a common member, looked for from either side
pub common : (xs ys zs : List ℕ) → ((y : ℕ) → is_in xs y ≡ is_in zs y) → list_any (is_in ys) xs ≡ list_any (is_in zs) ys
common xs ys zs same = same_truth (list_any (is_in ys) xs) (list_any (is_in zs) ys)
    (λ any. let r = from_any (is_in ys) xs any in any_in (is_in zs) ys r.0 r.2 (sym (same r.0) ∙ r.1))
    (λ any. let r = from_any (is_in zs) ys any in any_in (is_in ys) xs r.0 (same r.0 ∙ r.2) r.1)

pub never : (xs : List ℕ) → list_any (λ x. false) xs ≡ false
never [] = refl
never (x ∷ xs) = never xs

filter_same : (f g : ℕ → Bool) → ((x : ℕ) → f x ≡ g x) → (xs : List ℕ) → filter f xs ≡ filter g xs
filter_same f g same [] = refl
filter_same f g same (x ∷ xs) = ap (λ b. cond b (x ∷ filter f xs) (filter f xs)) (same x) ∙ ap (λ ys. cond (g x) (x ∷ ys) ys) (filter_same f g same xs)

-- what is kept of rising numbers rises
pub kept_rises : (test : ℕ → Bool) (a : ℕ) (xs : List ℕ) → Rises a xs → Rises a (filter test xs)
kept_rises test a [] rises = tt
kept_rises test a (x ∷ xs) rises = go (kept_rises test (suc x) xs rises.1) (test x)
  where
    go : Rises (suc x) (filter test xs) → (b : Bool) → Rises a (cond b (x ∷ filter test xs) (filter test xs))
    go next true = (rises.0, next)
    go next false = rises_later (suc x) a (filter test xs) (omega (arith, rises.0)) next

-- what holds of a longer list holds where it was made
pub pushed_ok : {E : Type 0} (P : List ℕ → Type 0) (r : Result (Unit {0}) E) (old new : List ℕ) (x : ℕ) → new ≡ (if is_ok r then old ++ x ∷ [] else old) → P (old ++ x ∷ []) → OnOk r (P new)
pushed_ok P (Ok u) old new x is p = subst P (sym is) p
pushed_ok P (Err e) old new x is p = tt

-- whether a driver is a logic cell
abbrev is_cell : Driver → Bool
is_cell (Cell k) = true
is_cell _ = false

module _ (c : Circuit) (driven : IsDriven c) (order : List ℕ) where
  pub edge_first : IsEdge c order [] [] [] []
  edge_first = record { cells_are = λ p. refl; inputs_are = λ y. refl; registers_are = λ r. refl }

  -- the cell at a place shows nothing at a net that no cell drives
  no_cell : (y : ℕ) (d : Driver) → IsDriver c y d → is_cell d ≡ false → (p : ℕ) → cell_shows c order p y ≡ false
  no_cell y d is none p = go (slice_get order p)
    where
      other : (k : ℕ) (cell : LogicCell ℕ) → slice_get c.cells k ≡ Some cell → (b : Bool) → nat_eq cell.output y ≡ b → b ≡ false
      other k cell at false shows = refl
      other k cell at true shows = absurd (both_ways (is_cell d) none (ap is_cell (cell_driver c driven k cell y d at (eqb-true cell.output y shows) is)))

      at_cell : (k : ℕ) (o : Option (LogicCell ℕ)) → slice_get c.cells k ≡ o → option_map_or (λ cell. nat_eq cell.output y) o false ≡ false
      at_cell k None at = refl
      at_cell k (Some cell) at = other k cell at (nat_eq cell.output y) refl

      go : (o : Option ℕ) → option_map_or (λ k. option_map_or (λ cell. nat_eq cell.output y) (slice_get c.cells k) false) o false ≡ false
      go None = refl
      go (Some k) = at_cell k (slice_get c.cells k) refl

  module _ (nets : List ℕ) (y : ℕ) (cells inputs registers : List ℕ) (edge : IsEdge c order nets cells inputs registers) where
    or_none : (a b : Bool) → b ≡ false → a ≡ (a || b)
    or_none a b none = sym (ap (λ d. a || d) none ∙ or-false a)

    cells_same : (d : Driver) → IsDriver c y d → is_cell d ≡ false → (p : ℕ) → is_in cells p ≡ list_any (cell_shows c order p) (nets ++ y ∷ [])
    cells_same d is none p = edge.cells_are p ∙ (or_none (list_any (cell_shows c order p) nets) (cell_shows c order p y) (no_cell y d is none p) ∙ sym (any_more (cell_shows c order p) nets y))

    inputs_same : (d : Driver) → IsDriver c y d → is_input d ≡ false → (x : ℕ) → is_in inputs x ≡ (is_in (nets ++ y ∷ []) x && is_in (data_inputs c) x)
    inputs_same d is none x = edge.inputs_are x ∙ (go (nat_eq x y) refl ∙ ap (λ b. b && is_in (data_inputs c) x) (sym (in_more nets y x)))
      where
        out : is_in (data_inputs c) y ≡ false
        out = input_driver c driven y d is ∙ none

        go : (b : Bool) → nat_eq x y ≡ b → (is_in nets x && is_in (data_inputs c) x) ≡ ((is_in nets x || b) && is_in (data_inputs c) x)
        go false same = ap (λ b. b && is_in (data_inputs c) x) (sym (or-false (is_in nets x)))
        go true same =
            let no : is_in (data_inputs c) x ≡ false = ap (is_in (data_inputs c)) (eqb-true x y same) ∙ out in
            ap (λ b. is_in nets x && b) no ∙ (zero_and (is_in nets x) (is_in nets x || true) ∙ ap (λ b. (is_in nets x || true) && b) (sym no))
          where
            zero_and : (a b : Bool) → (a && false) ≡ (b && false)
            zero_and true true = refl
            zero_and true false = refl
            zero_and false true = refl
            zero_and false false = refl

    registers_same : (d : Driver) → IsDriver c y d → ((r : ℕ) → is_register d r ≡ false) → (r : ℕ) → is_in registers r ≡ list_any (register_shows c r) (nets ++ y ∷ [])
    registers_same d is none r = edge.registers_are r ∙ (or_none (list_any (register_shows c r) nets) (register_shows c r y) (register_driver c driven r y d is ∙ none r) ∙ sym (any_more (register_shows c r) nets y))

    -- a data input
    pub edge_input : IsDriver c y Input → IsEdge c order (nets ++ y ∷ []) cells (inputs ++ y ∷ []) registers
    edge_input is = record {
      cells_are = cells_same Input is refl;
      inputs_are = λ x. in_more inputs y x ∙ (ap (λ b. b || nat_eq x y) (edge.inputs_are x) ∙ (go x (nat_eq x y) refl ∙ ap (λ b. b && is_in (data_inputs c) x) (sym (in_more nets y x))));
      registers_are = registers_same Input is (λ r. refl);
    }
      where
        go : (x : ℕ) (b : Bool) → nat_eq x y ≡ b → ((is_in nets x && is_in (data_inputs c) x) || b) ≡ ((is_in nets x || b) && is_in (data_inputs c) x)
        go x false same = or-false (is_in nets x && is_in (data_inputs c) x) ∙ ap (λ b. b && is_in (data_inputs c) x) (sym (or-false (is_in nets x)))
        go x true same =
            let yes : is_in (data_inputs c) x ≡ true = ap (is_in (data_inputs c)) (eqb-true x y same) ∙ is in
            both_one (is_in nets x && is_in (data_inputs c) x) (is_in nets x) ∙ ap (λ b. (is_in nets x || true) && b) (sym yes)
          where
            both_one : (a b : Bool) → (a || true) ≡ ((b || true) && true)
            both_one true true = refl
            both_one true false = refl
            both_one false true = refl
            both_one false false = refl

    -- a register
    pub edge_register : (r : ℕ) (inverted : Bool) → IsDriver c y (Register r inverted) → IsEdge c order (nets ++ y ∷ []) cells inputs (registers ++ r ∷ [])
    edge_register r inverted is = record {
      cells_are = cells_same (Register r inverted) is refl;
      inputs_are = inputs_same (Register r inverted) is refl;
      registers_are = λ k. in_more registers r k
          ∙ (ap (λ b. b || nat_eq k r) (edge.registers_are k) ∙ (ap (λ b. list_any (register_shows c k) nets || b) (sym (register_driver c driven k y (Register r inverted) is)) ∙ sym (any_more (register_shows c k) nets y)));
    }

    -- the clock, a gating cell
    pub edge_clock : IsDriver c y Clock → IsEdge c order (nets ++ y ∷ []) cells inputs registers
    edge_clock is = record { cells_are = cells_same Clock is refl; inputs_are = inputs_same Clock is refl; registers_are = registers_same Clock is (λ r. refl) }

    pub edge_gater : (k : ℕ) → IsDriver c y (Gater k) → IsEdge c order (nets ++ y ∷ []) cells inputs registers
    edge_gater k is = record { cells_are = cells_same (Gater k) is refl; inputs_are = inputs_same (Gater k) is refl; registers_are = registers_same (Gater k) is (λ r. refl) }

    -- a logic cell, by its place
    pub edge_cell : ((i j k : ℕ) → slice_get order i ≡ Some k → slice_get order j ≡ Some k → i ≡ j) → (id place : ℕ) → IsDriver c y (Cell id) → slice_get order place ≡ Some id → IsEdge c order (nets ++ y ∷ []) (cells ++ place ∷ []) inputs registers
    edge_cell once id place is at = record {
      cells_are = λ p. in_more cells place p ∙ (ap (λ b. b || nat_eq p place) (edge.cells_are p) ∙ (ap (λ b. list_any (cell_shows c order p) nets || b) (sym (shows p)) ∙ sym (any_more (cell_shows c order p) nets y)));
      inputs_are = inputs_same (Cell id) is refl;
      registers_are = registers_same (Cell id) is (λ r. refl);
    }
      where
        there_cell : (p k : ℕ) → slice_get order p ≡ Some k → (o : Option (LogicCell ℕ)) → slice_get c.cells k ≡ o → option_map_or (λ cell. nat_eq cell.output y) o false ≡ true → nat_eq p place ≡ true
        there_cell p k p_at None k_at shown = absurd (both_ways false refl shown)
        there_cell p k p_at (Some cell) k_at shown =
            let same : id ≡ k = ap cell_number (cell_driver c driven k cell y (Cell id) k_at (eqb-true cell.output y shown) is) in
            eq-eqb p place (once p place k p_at (at ∙ ap Some same))

        there : (p : ℕ) (o : Option ℕ) → slice_get order p ≡ o → option_map_or (λ k. option_map_or (λ cell. nat_eq cell.output y) (slice_get c.cells k) false) o false ≡ true → nat_eq p place ≡ true
        there p None p_at shown = absurd (both_ways false refl shown)
        there p (Some k) p_at shown = there_cell p k p_at (slice_get c.cells k) refl shown

        back : cell_shows c order place y ≡ true
        back = ap (λ o. option_map_or (λ k. option_map_or (λ cell. nat_eq cell.output y) (slice_get c.cells k) false) o false) at
            ∙ (ap (λ o. option_map_or (λ (cell : LogicCell ℕ). nat_eq cell.output y) o false) is.1 ∙ eq-eqb is.0.output y is.2)

        shows : (p : ℕ) → cell_shows c order p y ≡ nat_eq p place
        shows p = same_truth (cell_shows c order p y) (nat_eq p place) (λ shown. there p (slice_get order p) refl shown) (λ same. ap (λ q. cell_shows c order q y) (eqb-true p place same) ∙ back)

  module _ (found nets : List ℕ) (same : (y : ℕ) → is_in found y ≡ is_in nets y) (cells inputs registers : List ℕ) (edge : IsEdge c order found cells inputs registers) where
    -- the logic cells of the cone, in the order
    pub cells_of_edge : (places : List ℕ) → places ≡ filter (is_in cells) (range_with_len 0 (length order)) → values_at order places ≡ filter (cell_feeds c nets) order
    cells_of_edge places are =
        places_filter (cell_feeds c nets) order places (subst (Rises 0) (sym are) (range_rises (is_in cells) (length order) 0)) within tells
      where
        among_range : (p : ℕ) → is_in places p ≡ true → is_in (range_with_len 0 (length order)) p ≡ true
        among_range p among = (in_filter (is_in cells) (range_with_len 0 (length order)) p (subst (λ ps. is_in ps p ≡ true) are among)).0

        within : (p : ℕ) → is_in places p ≡ true → p < length order
        within p among = let h = in_range (length order) 0 p (among_range p among) in let high = h.1 in omega (arith, high)

        fed : (i k : ℕ) → slice_get order i ≡ Some k → is_in cells i ≡ cell_feeds c nets k
        fed i k at = edge.cells_are i ∙ (ap (λ o. list_any (λ y. option_map_or (λ j. option_map_or (λ cell. nat_eq cell.output y) (slice_get c.cells j) false) o false) found) at ∙ go (slice_get c.cells k))
          where
            go : (o : Option (LogicCell ℕ)) → list_any (λ y. option_map_or (λ (cell : LogicCell ℕ). nat_eq cell.output y) o false) found ≡ option_map_or (λ (cell : LogicCell ℕ). is_in nets cell.output) o false
            go None = never found
            go (Some cell) = same cell.output

        tells : (i k : ℕ) → slice_get order i ≡ Some k → is_in places i ≡ cell_feeds c nets k
        tells i k at =
            let below = slice_get_within order i k at in
            let e : 0 + i ≡ i = omega arith in
            let inside : is_in (range_with_len 0 (length order)) i ≡ true = subst (λ j. is_in (range_with_len 0 (length order)) j ≡ true) e (range_in (length order) 0 i below) in
            same_truth (is_in places i) (cell_feeds c nets k)
            (λ among. sym (fed i k at) ∙ (in_filter (is_in cells) (range_with_len 0 (length order)) i (subst (λ ps. is_in ps i ≡ true) are among)).1)
            (λ feeds. subst (λ ps. is_in ps i ≡ true) (sym are) (to_filter (is_in cells) (range_with_len 0 (length order)) i inside (fed i k at ∙ feeds)))

    -- the data inputs, in their order
    pub inputs_of_edge : (n : ℕ) (numbers : List ℕ) → Rises 0 (data_inputs c) → ((y : ℕ) → is_in (data_inputs c) y ≡ true → y < n) → numbers ≡ filter (is_in inputs) (range_with_len 0 n) → numbers ≡ filter (is_in nets) (data_inputs c)
    inputs_of_edge n numbers rises below are = are ∙ rising_same (filter (is_in inputs) (range_with_len 0 n)) (filter (is_in nets) (data_inputs c)) 0 0 (range_rises (is_in inputs) n 0) (kept_rises (is_in nets) 0 (data_inputs c) rises) (λ x.
        same_truth (is_in (filter (is_in inputs) (range_with_len 0 n)) x) (is_in (filter (is_in nets) (data_inputs c)) x)
        (λ among.
        let both = sym (edge.inputs_are x) ∙ (in_filter (is_in inputs) (range_with_len 0 n) x among).1 in
        to_filter (is_in nets) (data_inputs c) x (second (is_in found x) (is_in (data_inputs c) x) both) (sym (same x) ∙ first (is_in found x) (is_in (data_inputs c) x) both))
        (λ among.
        let both = in_filter (is_in nets) (data_inputs c) x among in
        let e : 0 + x ≡ x = omega arith in
        to_filter (is_in inputs) (range_with_len 0 n) x (subst (λ y. is_in (range_with_len 0 n) y ≡ true) e (range_in n 0 x (below x both.0)))
        (edge.inputs_are x ∙ (ap (λ b. b && is_in (data_inputs c) x) (same x ∙ both.1) ∙ both.0))))
      where
        first : (a b : Bool) → (a && b) ≡ true → a ≡ true
        first true b h = refl
        first false b h = h

        second : (a b : Bool) → (a && b) ≡ true → b ≡ true
        second true b h = h
        second false b h = absurd (both_ways false refl h)

    -- the registers, in their order
    pub registers_of_edge : (n : ℕ) (numbers : List ℕ) → numbers ≡ filter (is_in registers) (range_with_len 0 n) → numbers ≡ filter (register_feeds c nets) (range_with_len 0 n)
    registers_of_edge n numbers are = are ∙ filter_same (is_in registers) (register_feeds c nets) (λ r. edge.registers_are r ∙ go (slice_get c.registers r)) (range_with_len 0 n)
      where
        go : (o : Option (RegisterCell ℕ ℕ)) → list_any (λ y. option_map_or (λ (cell : RegisterCell ℕ ℕ). is_in (shown_nets cell) y) o false) found ≡ option_map_or (λ (cell : RegisterCell ℕ ℕ). list_any (is_in nets) (shown_nets cell)) o false
        go None = never found
        go (Some cell) = common found (shown_nets cell) nets same

rises_front : (a : ℕ) (xs ys : List ℕ) → Rises a (xs ++ ys) → Rises a xs
rises_front a [] ys rises = tt
rises_front a (x ∷ xs) ys rises = (rises.0, rises_front (suc x) xs ys rises.1)

numbers_rise : (n a : ℕ) → Rises a (range_with_len a n)
numbers_rise zero a = tt
numbers_rise (suc n) a = let e : a + 1 ≡ suc a = omega arith in (omega arith, subst (λ b. Rises b (range_with_len (a + 1) n)) e (numbers_rise n (a + 1)))

-- the data inputs of a netlist rise, since nets are numbered in net order
pub data_rises : (c : Circuit) → IsInNetOrder c → Rises 0 (data_inputs c)
data_rises c ordered =
    let late : List ℕ = filter (λ net. not (is_in c.inputs net)) (option_to_list c.clock) in
    let whole : Rises 0 (net_order c) = subst (Rises 0) (sym ordered) (numbers_rise (length c.names) 0) in
    let to_gates = rises_front 0 (c.inputs ++ late ++ cell_nets c ++ gater_outputs c) (register_nets c) whole in
    let to_cells = rises_front 0 (c.inputs ++ late ++ cell_nets c) (gater_outputs c) to_gates in
    let to_late = rises_front 0 (c.inputs ++ late) (cell_nets c) to_cells in
    kept_rises (λ net. not (is_in (option_to_list c.clock) net)) 0 c.inputs (rises_front 0 c.inputs late to_late)

module _ (c : Circuit) (driven : IsDriven c) (order found cells inputs registers : List ℕ) (edge : IsEdge c order found cells inputs registers) where
  -- what was noted are places of the order, nets and registers
  pub places_within : (p : ℕ) → is_in cells p ≡ true → p < length order
  places_within p among = let some = from_any (cell_shows c order p) found (sym (edge.cells_are p) ∙ among) in go (slice_get order p) refl some.2
    where
      go : (o : Option ℕ) → slice_get order p ≡ o → option_map_or (λ k. option_map_or (λ cell. nat_eq cell.output (from_any (cell_shows c order p) found (sym (edge.cells_are p) ∙ among)).0) (slice_get c.cells k) false) o false ≡ true → p < length order
      go None at shows = absurd (both_ways false refl shows)
      go (Some k) at shows = slice_get_within order p k at

  inputs_within : (y : ℕ) → is_in inputs y ≡ true → y < length c.names
  inputs_within y among = driver_within c driven y (given_driver c y (data_given c y (second (is_in found y) (is_in (data_inputs c) y) (sym (edge.inputs_are y) ∙ among))))
    where
      second : (a b : Bool) → (a && b) ≡ true → b ≡ true
      second true b h = h
      second false b h = absurd (both_ways false refl h)

  registers_within : (r : ℕ) → is_in registers r ≡ true → r < length c.registers
  registers_within r among = let some = from_any (register_shows c r) found (sym (edge.registers_are r) ∙ among) in go some.0 (slice_get c.registers r) refl some.2
    where
      go : (y : ℕ) (o : Option (RegisterCell ℕ ℕ)) → slice_get c.registers r ≡ o → option_map_or (λ (cell : RegisterCell ℕ ℕ). is_in (shown_nets cell) y) o false ≡ true → r < length c.registers
      go y None at shows = absurd (both_ways false refl shows)
      go y (Some cell) at shows = slice_get_within c.registers r cell at

  -- the cone, once what was noted stands in order
  pub cone_made : (roots : List ℕ) → Rises 0 (data_inputs c) → ((y : ℕ) → is_in found y ≡ is_in (cone_of (values_at c.cells order) roots) y) → (cone : Cone)
      → cone.cells ≡ values_at order (filter (is_in cells) (range_with_len 0 (length order)))
      → ((n : ℕ) → ((x : ℕ) → is_in inputs x ≡ true → x < n) → cone.inputs ≡ filter (is_in inputs) (range_with_len 0 n))
      → ((n : ℕ) → ((x : ℕ) → is_in registers x ≡ true → x < n) → cone.registers ≡ filter (is_in registers) (range_with_len 0 n))
      → cone ≡ cone_at c order roots
  cone_made roots rises same cone cells_are inputs_are registers_are =
      let nets : List ℕ = cone_of (values_at c.cells order) roots in
      let first : cone.cells ≡ filter (cell_feeds c nets) order = cells_are ∙ cells_of_edge c driven order found nets same cells inputs registers edge (filter (is_in cells) (range_with_len 0 (length order))) refl in
      let second : cone.inputs ≡ filter (is_in nets) (data_inputs c) = inputs_of_edge c driven order found nets same cells inputs registers edge (length c.names) cone.inputs rises (λ y among. driver_within c driven y (given_driver c y (data_given c y among))) (inputs_are (length c.names) inputs_within) in
      let third : cone.registers ≡ filter (register_feeds c nets) (range_with_len 0 (length c.registers)) = registers_of_edge c driven order found nets same cells inputs registers edge (length c.registers) cone.registers (registers_are (length c.registers) registers_within) in
      λ i. record { cells = first i; inputs = second i; registers = third i }

-- a netlist and its walk order
pub netlist_wired : (c : Circuit) → IsNetlist c → IsWired c (walk_order c.cells)
netlist_wired c good = record {
  well_formed = good.well_formed;
  walk = walk_is c.cells good.well_formed.ranks good.well_formed.ranked (distinct_cells c good.well_formed.driven);
  once = walk_once c.cells;
  rises = data_rises c good.in_order;
}

-- the number at a place
index_at : (ps : List ℕ) (i : ℕ) → i < length ps → slice_get ps i ≡ Some (slice_index_or ps i 0)
index_at [] i below = absurd (omega arith)
index_at (p ∷ ps) zero below = refl
index_at (p ∷ ps) (suc i) below = index_at ps i (omega arith)

-- a number of those below n that pass a test
pub kept_below : (test : ℕ → Bool) (n : ℕ) (ps : List ℕ) (i : ℕ) → ps ≡ filter test (range_with_len 0 n) → i < length ps → slice_index_or ps i 0 < n
kept_below test n ps i are below =
    let among = member_at ps i (slice_index_or ps i 0) (index_at ps i below) in
    let inside = (in_filter test (range_with_len 0 n) (slice_index_or ps i 0) (subst (λ qs. is_in qs (slice_index_or ps i 0) ≡ true) are among)).0 in
    let high = (in_range n 0 (slice_index_or ps i 0) inside).1 in
    omega (arith, high)

-- one more cell by its place
pub walked_more : (order ps : List ℕ) (i cell : ℕ) (cells next : List ℕ) → i < length ps → slice_get order (slice_index_or ps i 0) ≡ Some cell → cells ≡ values_at order (take i ps) → next ≡ cells ++ cell ∷ [] → next ≡ values_at order (take (i + 1) ps)
walked_more order ps i cell cells next below at so_far is =
    let one : i + 1 ≡ suc i = omega arith in
    let p : ℕ = slice_index_or ps i 0 in
    let more : take (i + 1) ps ≡ take i ps ++ p ∷ [] = ap (λ n. take n ps) one ∙ take_end ps i p (index_at ps i below) in
    let last : values_at order (p ∷ []) ≡ cell ∷ [] = ap (λ o. cons_option o []) at in
    is ∙ (ap (λ l. l ++ cell ∷ []) so_far ∙ (ap (λ l. values_at order (take i ps) ++ l) (sym last) ∙ (sym (values_at-append order (take i ps) (p ∷ [])) ∙ ap (values_at order) (sym more))))

-- what follows where a call succeeds
pub ok_then : {E P Q : Type 0} (r : Result (Unit {0}) E) → OnOk r P → (P → Q) → OnOk r Q
ok_then (Ok u) p f = f p
ok_then (Err e) p f = tt
