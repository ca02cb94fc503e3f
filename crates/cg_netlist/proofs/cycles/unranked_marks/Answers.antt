use Rattle.std.proofs.Common.{◌≡◌, ℕ, ◌<◌, length, false, is_none, ◌∙◌, ap}
use Rattle.std.specs.Option.{option_map_or}
use Rattle.cg_net.specs.Marks.{AreMarksOf}
use Rattle.cg_netlist.specs.inner.Ranking.{entry}
use Rattle.cg_netlist.specs.Ranks.{driving_cell, is_unranked}
use Rattle.cg_netlist.proofs.ByRank.{if_ok}
use Rattle.cg_netlist.proofs.Unranked.{is_graph_of, ranked_under, unranked_table}
use Rattle.cg_netlist.proofs.cycles.unranked_marks.Goals as goal

pub unranked-requires : goal.unranked-requires
unranked-requires c =
    let graph = is_graph_of c.args.count c.deref.result.now c.args.cells.now c.requires.cells (ap length c.deref.ensures.value ∙ c.in_ok-drivers.ensures.fits) (λ net lt. ap (λ ds. entry ds net) c.deref.ensures.value ∙ c.in_ok-drivers.ensures.tells net lt) in
    ranked_under c.deref.result.now c.args.ranks.now c.args.cells.now graph c.requires.ranks

pub returns : goal.returns
returns c =
    let fits = ap length c.deref.ensures.value ∙ c.in_ok-drivers.ensures.fits in
    let tells : (net : ℕ) → net < c.args.count → entry c.deref.result.now net ≡ driving_cell c.args.cells.now net = λ net lt. ap (λ ds. entry ds net) c.deref.ensures.value ∙ c.in_ok-drivers.ensures.tells net lt in
    let graph = is_graph_of c.args.count c.deref.result.now c.args.cells.now c.requires.cells fits tells in
    if_ok (λ marks. AreMarksOf marks.items (length c.deref.result.now) (λ net. option_map_or (λ k. is_none (entry c.args.ranks.now k)) (entry c.deref.result.now net) false)) (λ marks. AreMarksOf marks.items c.args.count (is_unranked c.args.cells.now)) c.unranked.result
    (λ marks table. unranked_table c.args.count marks.items c.deref.result.now c.args.ranks.now c.args.cells.now graph fits tells c.requires.ranks table) c.unranked.ensures
