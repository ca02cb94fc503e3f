-- A register is on a gating cell where it is not on the clock.
use Rattle.std.proofs.Common.{◌≡◌, ◌<◌, ℕ, true, false, not, length, slice_get, nat_eq, Option, None, Some, sym, ap, ◌∙◌, inl, inr}
use Rattle.std.specs.Option.{option_map_or, option_to_list}
use Rattle.std.proofs.lemmas.Bool.{cases_eq, eq-eqb, ne_eqb}
use Rattle.std.proofs.lemmas.Option.{none-some, same_Some}
use Rattle.cg_machine.proofs.Lists.{all_at}
use Rattle.cg_net.specs.NetSets.{is_in}
use Rattle.cg_net.proofs.Members.{is_in_cases}
use Rattle.cg_netlist.specs.Circuit.{Circuit, RegisterCell, clock_nets, gater_outputs}
use Rattle.cg_netlist.specs.WellFormed.{IsWellFormed}
use Rattle.cg_netlist.proofs.Given.{clock_given, clock_no_gater, driver_within, gater_given, given_driver, in_option}
use Rattle.cg_register_text.specs.Causes.{is_given}

module _ (c : Circuit) (formed : IsWellFormed c) (r : ℕ) (register : RegisterCell ℕ ℕ) (at : slice_get c.registers r ≡ Some register) where
  there : is_given c r ≡ is_in (gater_outputs c) register.clock
  there = ap (λ (o : Option (RegisterCell ℕ ℕ)). option_map_or (λ (cell : RegisterCell ℕ ℕ). is_in (gater_outputs c) cell.clock) o false) at

  pub clock_below : register.clock < length c.names
  clock_below = elim (is_in_cases (option_to_list c.clock) (gater_outputs c) register.clock (all_at (λ (x : RegisterCell ℕ ℕ). is_in (clock_nets c) x.clock ≡ true) c.registers r register formed.clocked at)) [
    | inl clk ↦ driver_within c formed.driven register.clock (given_driver c register.clock (clock_given c register.clock (in_option c.clock register.clock clk)))
    | inr gate ↦ driver_within c formed.driven register.clock (given_driver c register.clock (gater_given c register.clock gate))
  ]

  -- on the clock, and on something else
  pub on_clock : c.clock ≡ Some register.clock → is_given c r ≡ false
  on_clock is = there ∙ clock_no_gater c formed.driven register.clock is

  pub off_clock : (c.clock ≡ Some register.clock → ⊥) → is_given c r ≡ true
  off_clock other = there ∙ elim (is_in_cases (option_to_list c.clock) (gater_outputs c) register.clock (all_at (λ (x : RegisterCell ℕ ℕ). is_in (clock_nets c) x.clock ≡ true) c.registers r register formed.clocked at)) [
    | inl clk ↦ absurd (other (in_option c.clock register.clock clk))
    | inr gate ↦ gate
  ]

  -- as it is found by the clock
  pub given_by_clock : (net clk : ℕ) → c.clock ≡ Some net → clk ≡ register.clock → not (nat_eq net clk) ≡ is_given c r
  given_by_clock net clk is same = elim (cases_eq net register.clock) [
    | inl one ↦ ap not (eq-eqb net clk (one ∙ sym same)) ∙ sym (on_clock (is ∙ ap (λ n. Some n) one))
    | inr other ↦ ap not (ne_eqb net clk (λ one. other (one ∙ same))) ∙ sym (off_clock (λ clock. other (same_Some net register.clock (sym is ∙ clock))))
  ]

  pub given_off_clock : c.clock ≡ None → true ≡ is_given c r
  given_off_clock none = sym (off_clock (λ is. none-some register.clock (sym none ∙ is)))
