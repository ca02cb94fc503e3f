-- A netlist without gating cells is left as it is.
use Rattle.std.proofs.Common.{◌≡◌, ℕ, ◌≤◌, Bool, true, false, List, [], ◌∷◌, length, map, unwrap_or, nat_eq, refl, ap, sym, ◌∙◌}
use Rattle.std.proofs.Common.{subst, inl, inr, arith}
use Rattle.std.specs.List.{All, IsDistinct}
use Rattle.std.specs.Option.{option_to_list}
use Rattle.std.proofs.lemmas.Bool.{both_ways}
use Rattle.std.proofs.lemmas.List.Elements.{All-head, All-tail}
use Rattle.cg_netlist_telling.proofs.OrderedNames.{named_ordered}
use Rattle.cg_netlist.proofs.Given.{in_option}
use Rattle.cg_net.proofs.Members.{is_in_cases}
use Rattle.cg_netlist_parts.proofs.AtMostOne.{says_one}
use Rattle.cg_netlist_parts.proofs.SaidByItsParts.{none_left, says_own}
use Rattle.cg_netlist.specs.Circuit.{Circuit, GatingCell, RegisterCell, clock_nets, gater_outputs}
use Rattle.cg_net.specs.NetSets.{is_in}
use Rattle.cg_netlist.specs.Netlist.{IsNetlist}
use Rattle.cg_netlist_parts.specs.Says.{Says, parts_from}
use Rattle.cg_net.specs.Names.{NetName}
use Rattle.cg_netlist.specs.Wiring.{named}
use Rattle.cg_extract.proofs.Bare.{bare_formed, bare_netlist, in_order}
use Rattle.cg_extract.proofs.BareParts.{outputs_once}
use Rattle.cg_extract.specs.Lifted.{bare, on_clock, ungated}

pub nothing : {X : Type 0} (xs : List X) → length xs ≤ 0 → xs ≡ []
nothing [] few = refl
nothing (x ∷ xs) few = absurd (omega (arith, few))

module _ (c : Circuit) (whole : IsNetlist c) (none : c.gaters ≡ []) where
  abbrev IsClocked : RegisterCell ℕ ℕ → Type 0
  IsClocked r = is_in (clock_nets c) r.clock ≡ true

  abbrev no : RegisterCell NetName NetName → Bool
  no r = false

  -- each register is on the clock
  same_clock : (r : RegisterCell ℕ ℕ) → IsClocked r → unwrap_or c.clock 0 ≡ r.clock
  same_clock r clocked = elim (is_in_cases (option_to_list c.clock) (gater_outputs c) r.clock clocked) [
    | inl clk ↦ ap (λ o. unwrap_or o 0) (in_option c.clock r.clock clk)
    | inr gate ↦ absurd (both_ways false refl (sym (ap (λ gaters. is_in (map (λ (g : GatingCell ℕ). g.output) gaters) r.clock) none) ∙ gate))
  ]

  same_registers : (rs : List (RegisterCell ℕ ℕ)) → All IsClocked rs → map (on_clock c) rs ≡ rs
  same_registers [] clocked = refl
  same_registers (r ∷ rs) clocked =
      ap (λ net. record r { clock = net } ∷ map (on_clock c) rs) (same_clock r (All-head IsClocked r rs clocked))
      ∙ ap (λ l. r ∷ l) (same_registers rs (All-tail IsClocked r rs clocked))

  ungated_same : ungated c ≡ c
  ungated_same = let registers = same_registers c.registers whole.well_formed.clocked in λ i. record c { gaters = sym none i; registers = registers i }

  -- two netlists of the same parts are the same
  pub bare_same : IsDistinct nat_eq c.outputs → bare c ≡ c
  bare_same once =
      let parts : parts_from no (named (bare c)) ≡ parts_from no (named c) = ap (parts_from no) (named_ordered (ungated c) (bare_formed c whole) (in_order c whole) ∙ ap named ungated_same) in
      says_one c.model (parts_from no (named c)) (bare c) c
      (subst (λ ps. Says c.model ps (bare c)) parts (says_own (bare c) no (bare_netlist c whole) (outputs_once c whole once) (none_left (named (bare c)))))
      (says_own c no whole once (none_left (named c)))
