-- The edges of a netlist without gating cells: each register is on the clock, and rises once in each row.
use Rattle.std.proofs.Common.{◌≡◌, ℕ, ◌*◌, Bool, true, false, cond, not, ◌&&◌, List, [], ◌∷◌, length, nat_eq, Option, None, Some}
use Rattle.std.proofs.Common.{◌++◌, map, refl, sym, ap, subst, ◌∙◌, append-nil, inl, inr, arith}
use Rattle.std.specs.List.{All, count_by}
use Rattle.std.specs.Option.{option_to_list}
use Rattle.std.proofs.lemmas.Bool.{both_ways, eqb-true, or_cases}
use Rattle.std.proofs.lemmas.List.Elements.{All-head, All-tail, All-weaker}
use Rattle.std.proofs.lemmas.List.Sums.{sum_by-cons}
use Rattle.cg_net.specs.NetSets.{is_in}
use Rattle.cg_netlist.specs.Circuit.{Circuit, GatingCell, RegisterCell, clock_nets, data_inputs}
use Rattle.cg_netlist.specs.History.{LawfulFrom, Moment, MomentFollows, Tick, edges, edges_from, rises}
use Rattle.cg_netlist.specs.Moment.{bit}
use Rattle.cg_netlist.specs.WellFormed.{IsWellFormed}
use Rattle.cg_netlist.proofs.Values.{bit_shown}
use Rattle.cg_stimulus.specs.Played.{IsPlayed, played_start, wave_from}

-- the clock of a list of registers
abbrev OnClock : Option ℕ → List (RegisterCell ℕ ℕ) → Type 0
OnClock clock rs = All (λ (r : RegisterCell ℕ ℕ). clock ≡ Some r.clock) rs

-- the bit of the clock at a moment
abbrev ClockIs : Option ℕ → Bool → List Bool → Type 0
ClockIs clock b nets = (net : ℕ) → clock ≡ Some net → bit nets net ≡ b

in_option_only : (clock : Option ℕ) (net : ℕ) → is_in (option_to_list clock) net ≡ true → clock ≡ Some net
in_option_only None net among = absurd (both_ways false refl among)
in_option_only (Some x) net among = elim (or_cases (nat_eq net x) false among) [
  | inl same ↦ ap (λ n. Some n) (sym (eqb-true net x same))
  | inr none ↦ absurd (both_ways false refl none)
]

all_on_clock : (clock : Option ℕ) (rs : List (RegisterCell ℕ ℕ)) → All (λ (r : RegisterCell ℕ ℕ). is_in (option_to_list clock) r.clock ≡ true) rs → OnClock clock rs
all_on_clock clock rs among = All-weaker (λ (r : RegisterCell ℕ ℕ). is_in (option_to_list clock) r.clock ≡ true) (λ (r : RegisterCell ℕ ℕ). clock ≡ Some r.clock) (λ r in_clock. in_option_only clock r.clock in_clock) rs among

-- no register rises where the clock is low
rise_low : (b n : Bool) → n ≡ false → (not b && n) ≡ false
rise_low true n low = refl
rise_low false n low = low

none_rises : (clock : Option ℕ) (before now : List Bool) (rs : List (RegisterCell ℕ ℕ)) → OnClock clock rs → ClockIs clock false now → count_by (rises before now) rs ≡ 0
none_rises clock before now [] on low = refl
none_rises clock before now (r ∷ rs) on low =
    let A : RegisterCell ℕ ℕ → Type 0 = λ r. clock ≡ Some r.clock in
    let here : rises before now r ≡ false = rise_low (bit before r.clock) (bit now r.clock) (low r.clock (All-head A r rs on)) in
    let one : ◌≡◌ {A = ℕ} (cond (rises before now r) 1 0) 0 = ap {B = ℕ} (λ b. cond b 1 0) here in
    let later : count_by (rises before now) rs ≡ 0 = none_rises clock before now rs (All-tail A r rs on) low in
    sum_by-cons (λ (r : RegisterCell ℕ ℕ). cond (rises before now r) 1 0) r rs ∙ omega arith

-- each register rises where the clock does
rise_high : (b n : Bool) → b ≡ false → n ≡ true → (not b && n) ≡ true
rise_high true n low high = absurd (both_ways true low refl)
rise_high false n low high = high

all_rise : (clock : Option ℕ) (before now : List Bool) (rs : List (RegisterCell ℕ ℕ)) → OnClock clock rs → ClockIs clock false before → ClockIs clock true now
    → count_by (rises before now) rs ≡ length rs
all_rise clock before now [] on low high = refl
all_rise clock before now (r ∷ rs) on low high =
    let A : RegisterCell ℕ ℕ → Type 0 = λ r. clock ≡ Some r.clock in
    let is = All-head A r rs on in
    let here : rises before now r ≡ true = rise_high (bit before r.clock) (bit now r.clock) (low r.clock is) (high r.clock is) in
    let one : ◌≡◌ {A = ℕ} (cond (rises before now r) 1 0) 1 = ap {B = ℕ} (λ b. cond b 1 0) here in
    let later : count_by (rises before now) rs ≡ length rs = all_rise clock before now rs (All-tail A r rs on) low high in
    sum_by-cons (λ (r : RegisterCell ℕ ℕ). cond (rises before now r) 1 0) r rs ∙ omega arith

clock_shown : (c : Circuit) (start : List Bool) (before : Option Moment) (tick : Tick) (now : Moment) → MomentFollows c start before tick now → ClockIs c.clock tick.clock now.nets
clock_shown c start before tick now follows net is = bit_shown now.nets net tick.clock (follows.nets.shows_clock net is)

module _ (c : Circuit) (on : OnClock c.clock c.registers) (start : List Bool) (width : ℕ) where
  -- behind some moment
  edges_behind : (before : Moment) (inputs : List Bool) (rows : List (List Bool)) (history : List Moment) → LawfulFrom c start (Some before) (wave_from width inputs rows) history
      → edges_from c (Some before) history ≡ length rows * length c.registers
  edges_behind before inputs [] [] lawful = absurd lawful
  edges_behind before inputs [] (low ∷ []) lawful =
      let none : count_by (rises before.nets low.nets) c.registers ≡ 0 = none_rises c.clock before.nets low.nets c.registers on (clock_shown c start (Some before) _ low lawful.0) in
      omega arith
  edges_behind before inputs [] (low ∷ more ∷ history) lawful = absurd lawful.1
  edges_behind before inputs (row ∷ rows) [] lawful = absurd lawful
  edges_behind before inputs (row ∷ rows) (low ∷ []) lawful = absurd lawful.1
  edges_behind before inputs (row ∷ rows) (low ∷ high ∷ history) lawful =
      let is_low = clock_shown c start (Some before) _ low lawful.0 in
      let none : count_by (rises before.nets low.nets) c.registers ≡ 0 = none_rises c.clock before.nets low.nets c.registers on is_low in
      let all : count_by (rises low.nets high.nets) c.registers ≡ length c.registers = all_rise c.clock low.nets high.nets c.registers on is_low (clock_shown c start (Some low) _ high lawful.1.0) in
      let later : edges_from c (Some high) history ≡ length rows * length c.registers = edges_behind high row rows history lawful.1.1 in
      omega arith

  -- from the first moment on
  edges_all_on : (inputs : List Bool) (rows : List (List Bool)) (history : List Moment) → LawfulFrom c start None (wave_from width inputs rows) history
      → edges_from c None history ≡ length rows * length c.registers
  edges_all_on inputs [] [] lawful = absurd lawful
  edges_all_on inputs [] (low ∷ []) lawful = omega arith
  edges_all_on inputs [] (low ∷ more ∷ history) lawful = absurd lawful.1
  edges_all_on inputs (row ∷ rows) [] lawful = absurd lawful
  edges_all_on inputs (row ∷ rows) (low ∷ []) lawful = absurd lawful.1
  edges_all_on inputs (row ∷ rows) (low ∷ high ∷ history) lawful =
      let is_low = clock_shown c start None _ low lawful.0 in
      let all : count_by (rises low.nets high.nets) c.registers ≡ length c.registers = all_rise c.clock low.nets high.nets c.registers on is_low (clock_shown c start (Some low) _ high lawful.1.0) in
      let later : edges_from c (Some high) history ≡ length rows * length c.registers = edges_behind high row rows history lawful.1.1 in
      omega arith

pub edges_without_gaters : (c : Circuit) (rows : List (List Bool)) (history : List Moment) → IsWellFormed c → c.gaters ≡ [] → IsPlayed c rows history
    → edges c history ≡ length rows * length c.registers
edges_without_gaters c rows history good none played =
    let nets : clock_nets c ≡ option_to_list c.clock = ap (λ gaters. option_to_list c.clock ++ map (λ (gater : GatingCell ℕ). gater.output) gaters) none ∙ append-nil (option_to_list c.clock) in
    edges_all_on c (all_on_clock c.clock c.registers (subst (λ nets. All (λ (r : RegisterCell ℕ ℕ). is_in nets r.clock ≡ true) c.registers) nets good.clocked))
    (played_start c) (length (data_inputs c)) [] rows history played
