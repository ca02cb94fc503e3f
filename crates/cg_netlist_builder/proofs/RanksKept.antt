-- The logic cells of a netlist have the ranks that they have by their nets' numbers of mention.
use Rattle.std.proofs.Common.{◌≡◌, ℕ, ◌==◌, Bool, true, false, nat_eq, List, [], ◌∷◌, ◌++◌, not, slice_get, Some, sym, ap, ◌∙◌, subst, refl}
use Rattle.std.proofs.Common.{arith, inl, inr}
use Rattle.std.specs.List.{AllByRecursion, IsDistinct, filter, position_or_len}
use Rattle.std.specs.Option.{option_to_list}
use Rattle.std.proofs.lemmas.Bool.{or_left, or_right}
use Rattle.std.proofs.lemmas.Bool.Decides.{eqb_tells}
use Rattle.std.proofs.lemmas.Option.{same_Some, slice_get_within}
use Rattle.cg_netlist.specs.Circuit.{LogicCell}
use Rattle.cg_net.specs.NetSets.{is_in}
use Rattle.cg_netlist.specs.Ranks.{ranks_of}
use Rattle.cg_netlist.specs.Wiring.{among, driven_by_cells, driven_by_gaters, driven_by_registers}
use Rattle.cg_netlist_builder.specs.inner.Heard.{IsReady}
use Rattle.cg_netlist_builder.specs.inner.Numbers.{Numbers, made_of, ordered_numbers, ordered_place, wired_numbers}
use Rattle.cg_net.proofs.Members.{is_in_left, is_in_right, place_of_member}
use Rattle.cg_netlist.proofs.NetOrder.{place_is}
use Rattle.cg_netlist.proofs.RenumberedRanks.{renumbered_ranks}
use Rattle.cg_netlist_builder.proofs.OrderPlaces.{absent}

itself : (x : ℕ) → (x == x) ≡ true
itself x = elim (eqb_tells x x) [ inl e ↦ e.0 | inr e ↦ absurd (e.1 refl) ]

module _ (order : List ℕ) (once : IsDistinct nat_eq order) where
  place : ℕ → ℕ
  place net = position_or_len (nat_eq net) order

  -- two nets at one place of the order, of which one stands there, are one
  one_net : (o net : ℕ) → is_in order o ≡ true → place o ≡ place net → o ≡ net
  unfolding place
  one_net o net there same =
      let at = place_of_member order o there in
      let first = place_is order at.0 o once at.1 in
      go at.0 at.1 first (is_in order net) refl
    where
      go : (k : ℕ) → slice_get order k ≡ Some o → position_or_len (nat_eq o) order ≡ k → (b : Bool) → is_in order net ≡ b → o ≡ net
      go k at first true stands =
          let other = place_of_member order net stands in
          let second = place_is order other.0 net once other.1 in
          let k_is : k ≡ other.0 = sym first ∙ (same ∙ second) in
          same_Some o net (sym at ∙ (ap (slice_get order) k_is ∙ other.1))
      go k at first false lacks = absurd (omega (arith, slice_get_within order k o at, first, same, absent order net lacks))

  told_apart : (o net : ℕ) → is_in order o ≡ true → (place o == place net) ≡ (o == net)
  told_apart o net there = elim (eqb_tells o net) [
    | inl e ↦ subst (λ x. (place o == place x) ≡ (o == x)) e.1 (itself (place o) ∙ sym (itself o))
    | inr e ↦ elim (eqb_tells (place o) (place net)) [
      | inl same ↦ absurd (e.1 (one_net o net there same.1))
      | inr differ ↦ differ.0 ∙ sym e.0
    ]
  ]

  each_told : (cells : List (LogicCell ℕ)) → ((x : ℕ) → is_in (driven_by_cells cells) x ≡ true → is_in order x ≡ true) → (net : ℕ) → AllByRecursion (λ cell. (place cell.output == place net) ≡ (cell.output == net)) cells
  each_told [] all net = tt
  each_told (cell ∷ cells) all net = (
    told_apart cell.output net (all cell.output (or_left (nat_eq cell.output cell.output) (is_in (driven_by_cells cells) cell.output) (itself cell.output))),
    each_told cells (λ x among. all x (or_right (nat_eq x cell.output) (is_in (driven_by_cells cells) x) among)) net,
  )

pub ranks_kept : (model : List ℕ) (n : Numbers) → IsReady n → ranks_of n.cells ≡ ranks_of (made_of model n).cells
unfolding place
ranks_kept model n ready =
    let w = wired_numbers n in
    let front = n.inputs ++ filter (λ net. not (among nat_eq n.inputs net)) (option_to_list w.clock) in
    let cells = driven_by_cells n.cells in
    let gaters = driven_by_gaters w.gaters in
    sym (renumbered_ranks (ordered_place n) n.cells (each_told (ordered_numbers n) ready.once n.cells
    (λ x stands. is_in_left (front ++ cells ++ gaters) (driven_by_registers w.registers) x (is_in_left (front ++ cells) gaters x (is_in_right front cells x stands)))))
