use Rattle.std.proofs.Common.{◌&&◌, ◌||◌, ℕ, List, false, length, is_none, sym, ◌∙◌, ap, subst}
use Rattle.std.specs.List.{AllByRecursion}
use Rattle.std.specs.Option.{option_map_or}
use Rattle.cg_netlist.specs.Circuit.{LogicCell}
use Rattle.cg_net.specs.NetSets.{is_in}
use Rattle.cg_net.specs.Marks.{AreMarksOf}
use Rattle.cg_netlist.specs.Chains.{chain}
use Rattle.cg_netlist.specs.Ranks.{is_unranked, ranks_of}
use Rattle.cg_netlist.specs.Places.{CellWithin}
use Rattle.cg_netlist_builder.specs.inner.Numbers.{driving_gater, gater_rank, gated, used}
use Rattle.cg_netlist_builder.proofs.Checks.{chain_within, gaters_found}
use Rattle.cg_netlist_builder.proofs.MarkLemmas.{same_first}
use Rattle.cg_netlist_builder.proofs.ReadyNumbers.{chain_unranked}
use Rattle.cg_netlist_builder.proofs.finish.bad_gater.Goals as goal

pub cell_ranks-requires : goal.cell_ranks-requires
cell_ranks-requires c =
    let n = c.args.told.now in
    let P : List (LogicCell ℕ) → ℕ → Type 0 = λ ks m. AllByRecursion (CellWithin m) ks in
    subst (P c.deref.result.now) (sym (c.len.ensures.count ∙ ap (λ d. length d.names) c.told.view_is)) (subst (λ ks. P ks (length n.names)) (sym (c.deref.ensures.value ∙ c.in_ok-chain.ensures)) (chain_within (length n.names) n.gaters c.requires.numbers.gaters))

pub unranked_marks-requires-clause-cells : goal.unranked_marks-requires-clause-cells
unranked_marks-requires-clause-cells c =
    let n = c.args.told.now in
    let P : List (LogicCell ℕ) → ℕ → Type 0 = λ ks m. AllByRecursion (CellWithin m) ks in
    subst (P c.deref-2.result.now) (sym (c.len-2.ensures.count ∙ ap (λ d. length d.names) c.told.view_is)) (subst (λ ks. P ks (length n.names)) (sym (c.deref-2.ensures.value ∙ c.in_ok-chain.ensures)) (chain_within (length n.names) n.gaters c.requires.numbers.gaters))

pub unranked_marks-requires-clause-ranks : goal.unranked_marks-requires-clause-ranks
unranked_marks-requires-clause-ranks c = c.deref-3.ensures.value ∙ (c.in_ok-ranks.ensures ∙ ap ranks_of (c.deref.ensures.value ∙ sym c.deref-2.ensures.value))

pub returns : goal.returns
returns c =
    let n = c.args.told.now in
    let table : AreMarksOf c.in_ok-unreached.unreached.items c.len-2.result (is_unranked (chain n.gaters)) = subst (λ ks. AreMarksOf c.in_ok-unreached.unreached.items c.len-2.result (is_unranked ks)) (c.deref-2.ensures.value ∙ c.in_ok-chain.ensures) c.in_ok-unreached.ensures in
    same_first (λ net. is_in (gated n) net && (is_in (used n) net || is_unranked (chain n.gaters) net)) (λ net. is_in (gated n) net && (is_in (used n) net || option_map_or (λ k. is_none (gater_rank n.gaters k)) (driving_gater n.gaters net) false)) (length n.names) c.first_bad_gater.result
    (λ net lt. ap (λ b. is_in (gated n) net && (is_in (used n) net || b)) (chain_unranked n.gaters net))
    (gaters_found c.in_ok-gated.gated.items c.args.used.now c.in_ok-unreached.unreached.items c.deref-4.result.now c.deref-5.result.now (length n.names) c.len-2.result (gated n) (used n) (is_unranked (chain n.gaters)) c.first_bad_gater.result c.deref-4.ensures.value c.deref-5.ensures.value
    (c.len-2.ensures.count ∙ ap (λ d. length d.names) c.told.view_is) c.in_ok-gated.ensures c.requires.used table c.first_bad_gater.ensures)
