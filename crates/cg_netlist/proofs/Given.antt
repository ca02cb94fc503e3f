-- The given nets, one kind after another: the data inputs, the clock, the outputs of gating cells and those of registers.
use Rattle.std.proofs.Common.{◌≡◌, ℕ, ◌<◌, true, false, List, ◌++◌, length, Option, None, Some, nat_eq, refl, ap, sym, inl, inr}
use Rattle.std.proofs.Common.{arith}
use Rattle.std.specs.List.{All, IsDistinct}
use Rattle.std.specs.Option.{option_to_list}
use Rattle.std.proofs.lemmas.Bool.{eqb-true, eq-eqb, or_cases, or_left, both_ways}
use Rattle.cg_netlist.specs.Circuit.{Circuit, cell_nets, data_inputs, drivers, gater_outputs, given_nets, register_nets}
use Rattle.cg_net.specs.NetSets.{is_in}
use Rattle.cg_netlist.specs.WellFormed.{IsDriven}
use Rattle.cg_net.proofs.Members.{All-from_members, All-member, distinct_left, is_in_cases, is_in_left, is_in_right}
use Rattle.cg_net.proofs.Members.{distinct_apart, distinct_right}

-- the net of the one that may be there
pub in_option : (o : Option ℕ) (x : ℕ) → is_in (option_to_list o) x ≡ true → o ≡ Some x
in_option None x among = absurd (both_ways false refl among)
in_option (Some y) x among = elim (or_cases (nat_eq x y) false among) [ inl same ↦ ap (λ n. Some n) (sym (eqb-true x y same)) | inr none ↦ absurd (both_ways false refl none) ]

pub from_option : (o : Option ℕ) (x : ℕ) → o ≡ Some x → is_in (option_to_list o) x ≡ true
from_option None x is = absurd (cc)
from_option (Some y) x is = let same : y ≡ x = cc in or_left (nat_eq x y) false (eq-eqb x y (sym same))

-- the inputs and the clock, and the outputs of gating cells behind them
abbrev sources : Circuit → List ℕ
sources c = data_inputs c ++ option_to_list c.clock

abbrev sources_and_gaters : Circuit → List ℕ
sources_and_gaters c = sources c ++ gater_outputs c

-- which kind of given net a net is
pub data Kind (c : Circuit) (x : ℕ) : Type 0 where
  Data : is_in (data_inputs c) x ≡ true → Kind c x
  Clock : c.clock ≡ Some x → Kind c x
  Gate : is_in (gater_outputs c) x ≡ true → Kind c x
  Shown : is_in (register_nets c) x ≡ true → Kind c x

module _ (c : Circuit) where
  -- nets of each kind are given, and given nets are drivers
  source_given : (x : ℕ) → is_in (sources c) x ≡ true → is_in (given_nets c) x ≡ true
  source_given x among = is_in_left (sources_and_gaters c) (register_nets c) x (is_in_left (sources c) (gater_outputs c) x among)

  pub data_given : (x : ℕ) → is_in (data_inputs c) x ≡ true → is_in (given_nets c) x ≡ true
  data_given x among = source_given x (is_in_left (data_inputs c) (option_to_list c.clock) x among)

  pub clock_given : (x : ℕ) → c.clock ≡ Some x → is_in (given_nets c) x ≡ true
  clock_given x is = source_given x (is_in_right (data_inputs c) (option_to_list c.clock) x (from_option c.clock x is))

  pub gater_given : (x : ℕ) → is_in (gater_outputs c) x ≡ true → is_in (given_nets c) x ≡ true
  gater_given x among = is_in_left (sources_and_gaters c) (register_nets c) x (is_in_right (sources c) (gater_outputs c) x among)

  pub register_given : (x : ℕ) → is_in (register_nets c) x ≡ true → is_in (given_nets c) x ≡ true
  register_given x among = is_in_right (sources_and_gaters c) (register_nets c) x among

  pub given_driver : (x : ℕ) → is_in (given_nets c) x ≡ true → is_in (drivers c) x ≡ true
  given_driver x among = is_in_left (given_nets c) (cell_nets c) x among

  -- a given net is of one of the kinds
  pub kind_of : (x : ℕ) → is_in (given_nets c) x ≡ true → Kind c x
  kind_of x among = elim (is_in_cases (sources_and_gaters c) (register_nets c) x among) [
    | inl front ↦ elim (is_in_cases (sources c) (gater_outputs c) x front) [
      | inl source ↦ elim (is_in_cases (data_inputs c) (option_to_list c.clock) x source) [ inl input ↦ Data input | inr clk ↦ Clock (in_option c.clock x clk) ]
      | inr gate ↦ Gate gate
    ]
    | inr register ↦ Shown register
  ]

module _ (c : Circuit) (driven : IsDriven c) where
  pub distinct_given : IsDistinct nat_eq (given_nets c)
  distinct_given = distinct_left (given_nets c) (cell_nets c) driven.once

  pub distinct_cells : IsDistinct nat_eq (cell_nets c)
  distinct_cells = distinct_right (given_nets c) (cell_nets c) driven.once

  pub distinct_gaters : IsDistinct nat_eq (gater_outputs c)
  distinct_gaters = distinct_right (sources c) (gater_outputs c) (distinct_left (sources_and_gaters c) (register_nets c) distinct_given)

  -- no given net is the output of a logic cell, and the clock is not that of a gating cell
  pub given_no_cell : (x : ℕ) → is_in (given_nets c) x ≡ true → is_in (cell_nets c) x ≡ false
  given_no_cell x among = distinct_apart (given_nets c) (cell_nets c) driven.once x among

  pub clock_no_gater : (x : ℕ) → c.clock ≡ Some x → is_in (gater_outputs c) x ≡ false
  clock_no_gater x is = distinct_apart (sources c) (gater_outputs c) (distinct_left (sources_and_gaters c) (register_nets c) distinct_given) x (is_in_right (data_inputs c) (option_to_list c.clock) x (from_option c.clock x is))

  -- drivers are nets
  pub driver_within : (x : ℕ) → is_in (drivers c) x ≡ true → x < length c.names
  driver_within x among = All-member (λ net. net < length c.names) (drivers c) x driven.nets among

  pub given_within : (n : ℕ) (nets : List ℕ) → n ≡ length c.names → ((x : ℕ) → is_in nets x ≡ true → is_in (given_nets c) x ≡ true) → All (λ x. x < n) nets
  given_within n nets is given = All-from_members (λ x. x < n) nets (λ x inside. let below : x < length c.names = driver_within x (given_driver c x (given x inside)) in omega arith)
