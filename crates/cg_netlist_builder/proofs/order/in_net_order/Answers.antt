use Rattle.std.proofs.Common.{◌≡◌, ◌<◌, ℕ, nat_eq, length, map, slice_get, refl, sym, ◌∙◌, ap, subst, arith}
use Rattle.std.specs.List.{AllByRecursion, IsDistinct, position_or_len}
use Rattle.std.specs.Option.{option_to_list}
use Rattle.cg_netlist_builder.specs.inner.Renumbering.{number_in}
use Rattle.cg_netlist_builder.specs.inner.Numbers.{Numbers, drivers_by, made_of, ordered_numbers, ordered_place, wired_numbers}
use Rattle.cg_netlist.specs.Wiring.{circuit, map_wiring}
use Rattle.cg_net.specs.Names.{net_name}
use Rattle.cg_netlist.proofs.ByRank.{if_ok}
use Rattle.cg_netlist_builder.proofs.ToldNets.{asked_of, clock_within, ordered_is, ordered_within, wired_within, wiring_agrees}
use Rattle.cg_netlist_parts.proofs.ToldByNames.{nets_weaker}
use Rattle.cg_netlist_builder.proofs.order.in_net_order.Goals as goal

pub order-requires-clause-clocks : goal.order-requires-clause-clocks
order-requires-clause-clocks c =
    let n = c.args.told in
    subst (AllByRecursion (λ net. net < length n.names)) (sym (c.first_of-clock.ensures ∙ ap (λ xs. option_to_list (slice_get xs 0)) (c.deref.ensures.value ∙ c.in_ok-roots.ensures))) (clock_within n c.requires.numbers)

pub places-requires-clause-nets : goal.places-requires-clause-nets
places-requires-clause-nets c =
    let n : Numbers = c.args.told in
    let order = c.in_ok-order.ensures ∙ (ap (λ ks. drivers_by nat_eq n.inputs ks n.cells n.gaters n.registers) (c.first_of-clock.ensures ∙ ap (λ xs. option_to_list (slice_get xs 0)) (c.deref.ensures.value ∙ c.in_ok-roots.ensures)) ∙ ordered_is n c.requires.numbers) in
    asked_of n c.requires.numbers (ordered_numbers n) c.deref-2.result.now c.len.result (c.len.ensures.count ∙ ap (λ d. length d.names) c.told.view_is) (c.deref-2.ensures.value ∙ order) (ordered_within n c.requires.numbers)

pub places-requires-clause-once : goal.places-requires-clause-once
places-requires-clause-once c =
    let n : Numbers = c.args.told in
    let order = c.in_ok-order.ensures ∙ (ap (λ ks. drivers_by nat_eq n.inputs ks n.cells n.gaters n.registers) (c.first_of-clock.ensures ∙ ap (λ xs. option_to_list (slice_get xs 0)) (c.deref.ensures.value ∙ c.in_ok-roots.ensures)) ∙ ordered_is n c.requires.numbers) in
    subst (IsDistinct nat_eq) (sym (c.deref-2.ensures.value ∙ order)) c.requires.once

pub places-requires-clause-few : goal.places-requires-clause-few
places-requires-clause-few c =
    let n : Numbers = c.args.told in
    let order = c.in_ok-order.ensures ∙ (ap (λ ks. drivers_by nat_eq n.inputs ks n.cells n.gaters n.registers) (c.first_of-clock.ensures ∙ ap (λ xs. option_to_list (slice_get xs 0)) (c.deref.ensures.value ∙ c.in_ok-roots.ensures)) ∙ ordered_is n c.requires.numbers) in
    omega (arith, ap length (c.deref-2.ensures.value ∙ order), c.requires.few)

pub renumbered-requires-clause-nets : goal.renumbered-requires-clause-nets
renumbered-requires-clause-nets c =
    let n : Numbers = c.args.told in
    let order = c.in_ok-order.ensures ∙ (ap (λ ks. drivers_by nat_eq n.inputs ks n.cells n.gaters n.registers) (c.first_of-clock.ensures ∙ ap (λ xs. option_to_list (slice_get xs 0)) (c.deref.ensures.value ∙ c.in_ok-roots.ensures)) ∙ ordered_is n c.requires.numbers) in
    asked_of n c.requires.numbers (ordered_numbers n) c.in_ok-order.order.items (length n.names) refl order (ordered_within n c.requires.numbers)

pub renumbered-requires-clause-few : goal.renumbered-requires-clause-few
renumbered-requires-clause-few c =
    let n : Numbers = c.args.told in
    let order = c.in_ok-order.ensures ∙ (ap (λ ks. drivers_by nat_eq n.inputs ks n.cells n.gaters n.registers) (c.first_of-clock.ensures ∙ ap (λ xs. option_to_list (slice_get xs 0)) (c.deref.ensures.value ∙ c.in_ok-roots.ensures)) ∙ ordered_is n c.requires.numbers) in
    omega (arith, ap length order, c.requires.few)

pub returns : goal.returns
returns c =
    let n : Numbers = c.args.told in
    let order = c.in_ok-order.ensures ∙ (ap (λ ks. drivers_by nat_eq n.inputs ks n.cells n.gaters n.registers) (c.first_of-clock.ensures ∙ ap (λ xs. option_to_list (slice_get xs 0)) (c.deref.ensures.value ∙ c.in_ok-roots.ensures)) ∙ ordered_is n c.requires.numbers) in
    let names : map (net_name n.names) c.in_ok-order.order.items ≡ map (net_name n.names) (ordered_numbers n) = ap (map (net_name n.names)) order in
    let num : ℕ → ℕ = number_in c.deref-3.result.now in
    let tells : (net : ℕ) → net < length n.names → num net ≡ ordered_place n net = λ net lt. ap (λ ps. number_in ps net) c.deref-3.ensures.value ∙ (c.in_ok-places.ensures.tells net (omega (arith, lt, c.len.ensures.count, ap (λ d. length d.names) c.told.view_is)) ∙ ap (position_or_len (nat_eq net)) (c.deref-2.ensures.value ∙ order)) in
    let wired = wiring_agrees num (ordered_place n) (wired_numbers n) (nets_weaker (λ net. net < length n.names) (λ net. num net ≡ ordered_place n net) tells (wired_numbers n) (wired_within n c.requires.numbers c.requires.clocked)) in
    if_ok (λ parts. parts ≡ circuit c.args.model (map (net_name n.names) c.in_ok-order.order.items) (map_wiring num (wired_numbers n))) (λ parts. parts ≡ made_of c.args.model n) c.renumbered.result
    (λ parts is. is ∙ (ap (λ ns. circuit c.args.model ns (map_wiring num (wired_numbers n))) names ∙ ap (circuit c.args.model (map (net_name n.names) (ordered_numbers n))) wired)) c.renumbered.ensures
