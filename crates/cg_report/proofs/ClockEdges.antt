-- The lines of the watcher of clocks account for every edge of a history: each register is clocked by one clock net, and rises with it.
use Rattle.std.proofs.Common.{◌≡◌, ℕ, ◌+◌, ◌*◌, ◌≤◌, Bool, true, false, cond, not, ◌&&◌, if◌then◌else◌, inl, inr, List, [], ◌∷◌, ◌++◌}
use Rattle.std.proofs.Common.{length, map, nat_eq, Option, None, Some, refl, sym, ap, subst, ◌∙◌, append_assoc, arith}
use Rattle.std.specs.List.{All, IsDistinct, count_by, sum_by}
use Rattle.std.specs.Option.{option_map, option_to_list}
use Rattle.std.proofs.lemmas.Bool.{both_ways, eqb-true, false_from_ne_true, or_cases, or_parts}
use Rattle.std.proofs.lemmas.List.Elements.{All-head, All-tail}
use Rattle.std.proofs.lemmas.List.Sums.{sum_by-cons}
use Rattle.cg_limit.specs.declared.TheConstants.{MOST_ROWS}
use Rattle.cg_net.specs.NetSets.{is_in}
use Rattle.cg_net.proofs.Members.{distinct_head, distinct_left, distinct_right, distinct_tail}
use Rattle.cg_netlist.specs.Circuit.{Circuit, RegisterCell, cell_nets, clock_nets, data_inputs, gater_outputs, given_nets, register_nets}
use Rattle.cg_netlist.specs.History.{LawfulFrom, Moment, Tick, edges, edges_from}
use Rattle.cg_netlist.specs.Moment.{bit}
use Rattle.cg_netlist.specs.WellFormed.{IsWellFormed}
use Rattle.cg_stimulus.specs.Played.{IsPlayed, played_start, played_wave, wave_from}
use Rattle.cg_report.specs.ClockLines.{ClockLine, clock_line, clock_lines, line_edges, net_rise, net_rises, net_rises_from, registers_on}
use Rattle.cg_report.specs.Counts.{capped}
use Rattle.cg_report.specs.Place.{played_moments, shown_from}
use Rattle.cg_report.specs.Shown.{Shown}

-- sums

module _ {X : Type 0} where
  sum_none : (f : X → ℕ) (xs : List X) → ((x : X) → f x ≡ 0) → sum_by f xs ≡ 0
  sum_none f [] none = refl
  sum_none f (x ∷ xs) none =
      let here : f x ≡ 0 = none x in
      let later : sum_by f xs ≡ 0 = sum_none f xs none in
      sum_by-cons f x xs ∙ omega arith

  sum_same : (f g : X → ℕ) (xs : List X) → ((x : X) → f x ≡ g x) → sum_by f xs ≡ sum_by g xs
  sum_same f g [] same = refl
  sum_same f g (x ∷ xs) same = sum_by-cons f x xs ∙ (ap (λ n. n + sum_by f xs) (same x) ∙ (ap (λ n. g x + n) (sum_same f g xs same) ∙ sym (sum_by-cons g x xs)))

  sum_both : (f g h : X → ℕ) (xs : List X) → ((x : X) → h x ≡ f x + g x) → sum_by h xs ≡ sum_by f xs + sum_by g xs
  sum_both f g h [] both = refl
  sum_both f g h (x ∷ xs) both =
      let here : h x ≡ f x + g x = both x in
      let later : sum_by h xs ≡ sum_by f xs + sum_by g xs = sum_both f g h xs both in
      let left : sum_by f (x ∷ xs) ≡ f x + sum_by f xs = sum_by-cons f x xs in
      let right : sum_by g (x ∷ xs) ≡ g x + sum_by g xs = sum_by-cons g x xs in
      let whole : sum_by h (x ∷ xs) ≡ h x + sum_by h xs = sum_by-cons h x xs in
      omega arith

  sum_mapped : {Y : Type 0} (f : X → Y) (g : Y → ℕ) (xs : List X) → sum_by g (map f xs) ≡ sum_by (λ x. g (f x)) xs
  sum_mapped f g [] = refl
  sum_mapped f g (x ∷ xs) = sum_by-cons g (f x) (map f xs) ∙ (ap (λ n. g (f x) + n) (sum_mapped f g xs) ∙ sym (sum_by-cons (λ x. g (f x)) x xs))

-- what is counted at one net of many

abbrev at_net : (ℕ → ℕ) → ℕ → ℕ → ℕ
at_net f x net = if nat_eq x net then f net else 0

other_net : (f : ℕ → ℕ) (x y : ℕ) → nat_eq x y ≡ false → at_net f x y ≡ 0
other_net f x y differ = ap (λ b. if b then f y else 0) differ

no_net : (f : ℕ → ℕ) (x : ℕ) (nets : List ℕ) → is_in nets x ≡ false → sum_by (at_net f x) nets ≡ 0
no_net f x [] none = refl
no_net f x (y ∷ ys) none =
    let parts = or_parts (nat_eq x y) (is_in ys x) none in
    let here : at_net f x y ≡ 0 = other_net f x y parts.0 in
    let later : sum_by (at_net f x) ys ≡ 0 = no_net f x ys parts.1 in
    sum_by-cons (at_net f x) y ys ∙ omega arith

one_net : (f : ℕ → ℕ) (x : ℕ) (nets : List ℕ) → IsDistinct nat_eq nets → is_in nets x ≡ true → sum_by (at_net f x) nets ≡ f x
one_net f x [] distinct among = absurd (both_ways false refl among)
one_net f x (y ∷ ys) distinct among = elim (or_cases (nat_eq x y) (is_in ys x) among) [
  | inl here ↦
      let same : x ≡ y = eqb-true x y here in
      let first : at_net f x y ≡ f x = ap (λ b. if b then f y else 0) here ∙ ap f (sym same) in
      let later : sum_by (at_net f x) ys ≡ 0 = no_net f x ys (ap (is_in ys) same ∙ distinct_head y ys distinct) in
      sum_by-cons (at_net f x) y ys ∙ omega arith
  | inr there ↦
      let differ : nat_eq x y ≡ false = false_from_ne_true (nat_eq x y) (λ here. both_ways (is_in ys x) (ap (is_in ys) (eqb-true x y here) ∙ distinct_head y ys distinct) there) in
      let first : at_net f x y ≡ 0 = other_net f x y differ in
      let later : sum_by (at_net f x) ys ≡ f x = one_net f x ys (distinct_tail y ys distinct) there in
      sum_by-cons (at_net f x) y ys ∙ omega arith
]

one_more : (b : Bool) (n u : ℕ) → (cond b 1 0 + n) * u ≡ (if b then u else 0) + n * u
one_more true n u = omega arith
one_more false n u = omega arith

-- the registers on a net, of these
abbrev on_net : List (RegisterCell ℕ ℕ) → ℕ → ℕ
on_net rs net = count_by (λ r. nat_eq r.clock net) rs

-- what is counted at the clock nets of registers, net by net
net_by_net : (f : ℕ → ℕ) (nets : List ℕ) (rs : List (RegisterCell ℕ ℕ)) → IsDistinct nat_eq nets → All (λ (r : RegisterCell ℕ ℕ). is_in nets r.clock ≡ true) rs
    → sum_by (λ (r : RegisterCell ℕ ℕ). f r.clock) rs ≡ sum_by (λ net. on_net rs net * f net) nets
net_by_net f nets [] distinct among = sym (sum_none (λ net. on_net [] net * f net) nets (λ net. omega arith))
net_by_net f nets (r ∷ rs) distinct among =
    let A : RegisterCell ℕ ℕ → Type 0 = λ r. is_in nets r.clock ≡ true in
    let here : sum_by (at_net f r.clock) nets ≡ f r.clock = one_net f r.clock nets distinct (All-head A r rs among) in
    let later : sum_by (λ (r : RegisterCell ℕ ℕ). f r.clock) rs ≡ sum_by (λ net. on_net rs net * f net) nets = net_by_net f nets rs distinct (All-tail A r rs among) in
    let both : sum_by (λ net. on_net (r ∷ rs) net * f net) nets ≡ sum_by (at_net f r.clock) nets + sum_by (λ net. on_net rs net * f net) nets =
    sum_both (at_net f r.clock) (λ net. on_net rs net * f net) (λ net. on_net (r ∷ rs) net * f net) nets
    (λ net. ap (λ n. n * f net) (sum_by-cons (λ (r : RegisterCell ℕ ℕ). cond (nat_eq r.clock net) 1 0) r rs) ∙ one_more (nat_eq r.clock net) (on_net rs net) (f net)) in
    sum_by-cons (λ (r : RegisterCell ℕ ℕ). f r.clock) r rs ∙ omega arith

-- moment by moment

abbrev nets_of : Option Moment → Option (List Bool)
nets_of before = option_map (λ (m : Moment). m.nets) before

times_more : (k a b : ℕ) → k * (a + b) ≡ k * a + k * b
times_more k a b = omega arith

module _ (c : Circuit) (distinct : IsDistinct nat_eq (clock_nets c)) (clocked : All (λ (r : RegisterCell ℕ ℕ). is_in (clock_nets c) r.clock ≡ true) c.registers) where
  edges_by_net : (start : List Bool) (before : Option Moment) (wave : List Tick) (history : List Moment) → LawfulFrom c start before wave history
      → edges_from c before history ≡ sum_by (λ net. registers_on c net * net_rises_from net (nets_of before) (shown_from c before wave history)) (clock_nets c)
  edges_by_net start before [] [] lawful = sym (sum_none (λ net. registers_on c net * 0) (clock_nets c) (λ net. omega arith))
  edges_by_net start before [] (now ∷ history) lawful = absurd lawful
  edges_by_net start before (tick ∷ wave) [] lawful = absurd lawful
  edges_by_net start None (tick ∷ wave) (now ∷ history) lawful =
      edges_by_net start (Some now) wave history lawful.1
      ∙ sum_same (λ net. registers_on c net * net_rises_from net (Some now.nets) (shown_from c (Some now) wave history))
      (λ net. registers_on c net * (0 + net_rises_from net (Some now.nets) (shown_from c (Some now) wave history))) (clock_nets c)
      (λ net. ap (λ n. registers_on c net * n) (omega arith))
  edges_by_net start (Some before) (tick ∷ wave) (now ∷ history) lawful =
      let up : ℕ → ℕ = λ net. net_rise net (Some before.nets) now.nets in
      let more : ℕ → ℕ = λ net. net_rises_from net (Some now.nets) (shown_from c (Some now) wave history) in
      let here : sum_by (λ (r : RegisterCell ℕ ℕ). up r.clock) c.registers ≡ sum_by (λ net. registers_on c net * up net) (clock_nets c) = net_by_net up (clock_nets c) c.registers distinct clocked in
      let later : edges_from c (Some now) history ≡ sum_by (λ net. registers_on c net * more net) (clock_nets c) = edges_by_net start (Some now) wave history lawful.1 in
      let both : sum_by (λ net. registers_on c net * (up net + more net)) (clock_nets c)
      ≡ sum_by (λ net. registers_on c net * up net) (clock_nets c) + sum_by (λ net. registers_on c net * more net) (clock_nets c) =
      sum_both (λ net. registers_on c net * up net) (λ net. registers_on c net * more net) (λ net. registers_on c net * (up net + more net)) (clock_nets c)
      (λ net. times_more (registers_on c net) (up net) (more net)) in
      ap (λ n. n + edges_from c (Some now) history) here ∙ (ap (λ n. sum_by (λ net. registers_on c net * up net) (clock_nets c) + n) later ∙ sym both)

-- a net rises at most once a moment

bit_most : (b : Bool) → (if b then 1 else 0) ≤ 1
bit_most true = omega arith
bit_most false = omega arith

rise_most : (net : ℕ) (before : Option (List Bool)) (now : List Bool) → net_rise net before now ≤ 1
rise_most net None now = omega arith
rise_most net (Some before) now = bit_most (not (bit before net) && bit now net)

rises_most : (net : ℕ) (before : Option (List Bool)) (moments : List Shown) → net_rises_from net before moments ≤ length moments
rises_most net before [] = omega arith
rises_most net before (now ∷ later) =
    let here = rise_most net before now.nets in
    let more = rises_most net (Some now.nets) later in
    omega arith

shown_most : (c : Circuit) (before : Option Moment) (wave : List Tick) (history : List Moment) → length (shown_from c before wave history) ≤ length wave
shown_most c before [] history = omega arith
shown_most c before (tick ∷ wave) [] = omega arith
shown_most c before (tick ∷ wave) (now ∷ history) = let more = shown_most c (Some now) wave history in omega arith

wave_long : (width : ℕ) (before : List Bool) (rows : List (List Bool)) → length (wave_from width before rows) ≡ 2 * length rows + 1
wave_long width before [] = refl
wave_long width before (row ∷ rows) = let more = wave_long width row rows in omega arith

-- no count of a history on which rows are played stops early
uncapped : (c : Circuit) (rows : List (List Bool)) (history : List Moment) (net : ℕ) → length rows ≤ MOST_ROWS → capped (net_rises net (played_moments c rows history)) ≡ net_rises net (played_moments c rows history)
uncapped c rows history net few =
    let rises = rises_most net None (played_moments c rows history) in
    let shown = shown_most c None (played_wave c rows) history in
    let long = wave_long (length (data_inputs c)) [] rows in
    omega arith

-- the clock nets are different nets
clocks_differ : (c : Circuit) → IsWellFormed c → IsDistinct nat_eq (clock_nets c)
clocks_differ c good =
    let inputs = data_inputs c in
    let clock = option_to_list c.clock in
    let front : IsDistinct nat_eq ((inputs ++ clock) ++ gater_outputs c) = distinct_left ((inputs ++ clock) ++ gater_outputs c) (register_nets c) (distinct_left (given_nets c) (cell_nets c) good.driven.once) in
    distinct_right inputs (clock_nets c) (subst (IsDistinct nat_eq) (append_assoc inputs clock (gater_outputs c)) front)

pub lines_account : (c : Circuit) (rows : List (List Bool)) (history : List Moment) → IsWellFormed c → length rows ≤ MOST_ROWS → IsPlayed c rows history
    → line_edges (clock_lines c (played_moments c rows history)) ≡ edges c history
lines_account c rows history good few played =
    let moments = played_moments c rows history in
    sum_mapped (clock_line c moments) (λ (line : ClockLine). line.registers * line.rises) (clock_nets c)
    ∙ (sum_same (λ net. registers_on c net * capped (net_rises net moments)) (λ net. registers_on c net * net_rises net moments) (clock_nets c)
    (λ net. ap (λ n. registers_on c net * n) (uncapped c rows history net few))
    ∙ sym (edges_by_net c (clocks_differ c good) good.clocked (played_start c) None (played_wave c rows) history played))
