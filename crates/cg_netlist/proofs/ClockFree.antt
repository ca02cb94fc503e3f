-- Nets other than the clock do not follow the clock's bit: where nets settle with the clock high, they settle with it low
-- once its own bit is cleared.
use Rattle.std.proofs.Common.{◌≡◌, ◌≢◌, ℕ, ◌<◌, Bool, true, false, List, ◌++◌, length, slice_get, slice_set, Option, None, Some}
use Rattle.std.proofs.Common.{refl, ap, sym, ◌∙◌, subst, inl, inr, arith}
use Rattle.std.proofs.lemmas.Bool.{both_ways}
use Rattle.std.proofs.lemmas.List.{length-set}
use Rattle.std.proofs.lemmas.Option.{same_Some}
use Rattle.std.specs.Option.{option_to_list}
use Rattle.cg_netlist.specs.Circuit.{Circuit, cell_nets, data_inputs, gater_outputs, register_nets, used_nets}
use Rattle.cg_net.specs.NetSets.{is_in}
use Rattle.cg_netlist.specs.Moment.{Settles, function_value, values_at}
use Rattle.cg_netlist.specs.WellFormed.{IsWellFormed}
use Rattle.cg_netlist.proofs.Given.{clock_given, driver_within, given_driver, given_no_cell, distinct_given, from_option}
use Rattle.cg_net.proofs.Members.{distinct_apart, distinct_left, is_in_left, is_in_right, member_at}
use Rattle.cg_net.proofs.TableLemmas.{slice_get-set_other, slice_get-set_same}
use Rattle.cg_netlist.proofs.Values.{at_map, same_values}
use Rattle.cg_netlist.proofs.Used.{input_is_used}

-- nets that are low settle, and show the same at every net that is used
pub record Lowers (c : Circuit) (inputs state gates nets : List Bool) : Type 0 where
  pub low : List Bool
  pub settles : Settles c false inputs state gates low
  pub same : (x : ℕ) → is_in (used_nets c) x ≡ true → slice_get low x ≡ slice_get nets x
  pub apart : (x : ℕ) → c.clock ≢ Some x → slice_get low x ≡ slice_get nets x

module _ (c : Circuit) (good : IsWellFormed c) (inputs state gates : List Bool) where
  module _ (clk : ℕ) (is : c.clock ≡ Some clk) (nets : List Bool) (clock : Bool) (settles : Settles c clock inputs state gates nets) where
    low : List Bool
    low = slice_set nets clk false

    unused : (x : ℕ) → is_in (used_nets c) x ≡ true → x ≡ clk → ⊥
    unused x among e = both_ways (is_in (used_nets c) clk) (good.apart clk (is_in_left (option_to_list c.clock) (gater_outputs c) clk (from_option c.clock clk is))) (subst (λ y. is_in (used_nets c) y ≡ true) e among)

    other : (x : ℕ) → (x ≡ clk → ⊥) → slice_get low x ≡ slice_get nets x
    unfolding low
    other x differ = slice_get-set_other nets clk x false differ

    same_at : (xs : List ℕ) → is_in xs clk ≡ false → values_at low xs ≡ values_at nets xs
    same_at xs out = same_values low nets xs (λ x among. other x (λ e. both_ways (is_in xs clk) out (subst (λ y. is_in xs y ≡ true) e among)))

    clk_no_cell : is_in (cell_nets c) clk ≡ false
    clk_no_cell = given_no_cell c good.driven clk (clock_given c clk is)

    clk_no_data : is_in (data_inputs c) clk ≡ false
    clk_no_data = elim (Rattle.std.proofs.lemmas.Bool.cases_Bool (is_in (data_inputs c) clk)) [
      | inl among ↦ absurd (both_ways (is_in (option_to_list c.clock) clk) (distinct_apart (data_inputs c) (option_to_list c.clock) (distinct_left (data_inputs c ++ option_to_list c.clock) (gater_outputs c) (distinct_left (data_inputs c ++ option_to_list c.clock ++ gater_outputs c) (register_nets c) (distinct_given c good.driven))) clk among) (from_option c.clock clk is))
      | inr out ↦ out
    ]

    clk_no_gater : is_in (gater_outputs c) clk ≡ false
    clk_no_gater = Rattle.cg_netlist.proofs.Given.clock_no_gater c good.driven clk is

    clk_no_register : is_in (register_nets c) clk ≡ false
    clk_no_register = distinct_apart (data_inputs c ++ option_to_list c.clock ++ gater_outputs c) (register_nets c) (distinct_given c good.driven) clk (is_in_left (data_inputs c ++ option_to_list c.clock) (gater_outputs c) clk (is_in_right (data_inputs c) (option_to_list c.clock) clk (from_option c.clock clk is)))

    lowers_at : Lowers c inputs state gates nets
    unfolding low
    lowers_at = record {
      low = slice_set nets clk false;
      settles = record {
        long = length-set nets clk false ∙ settles.long;
        shows_clock = λ net at.
            let same : clk ≡ net = same_Some clk net (sym is ∙ at) in
            subst (λ y. slice_get (slice_set nets clk false) y ≡ Some false) same (slice_get-set_same nets clk false (let below : clk < length c.names = driver_within c good.driven clk (given_driver c clk (clock_given c clk is)) in omega (arith, settles.long)));
        shows_inputs = same_at (data_inputs c) clk_no_data ∙ settles.shows_inputs;
        shows_gaters = same_at (gater_outputs c) clk_no_gater ∙ settles.shows_gaters;
        shows_state = same_at (register_nets c) clk_no_register ∙ settles.shows_state;
        holds = λ k cell at.
            let out : cell.output ≡ clk → ⊥ = λ e. both_ways (is_in (cell_nets c) clk) clk_no_cell (subst (λ y. is_in (cell_nets c) y ≡ true) e (member_at (cell_nets c) k cell.output (at_map (λ cell. cell.output) c.cells k cell at))) in
            other cell.output out ∙ (settles.holds k cell at ∙ ap (λ bits. Some (function_value cell.function bits)) (sym (same_values (slice_set nets clk false) nets cell.inputs (λ x among. other x (unused x (input_is_used c k x cell at among))))));
      };
      same = λ x among. other x (unused x among);
      apart = λ x differ. other x (λ e. differ (is ∙ ap Some (sym e)));
    }

  pub lowers : (nets : List Bool) (clock : Bool) → Settles c clock inputs state gates nets → Lowers c inputs state gates nets
  lowers nets clock settles = go c.clock refl
    where
      go : (o : Option ℕ) → c.clock ≡ o → Lowers c inputs state gates nets
      go (Some clk) is = lowers_at clk is nets clock settles
      go None is = record { low = nets; settles = record { long = settles.long; shows_clock = λ net at. absurd (let z : None ≡ Some net = sym is ∙ at in cc); shows_inputs = settles.shows_inputs; shows_gaters = settles.shows_gaters; shows_state = settles.shows_state; holds = settles.holds }; same = λ x among. refl; apart = λ x differ. refl }
