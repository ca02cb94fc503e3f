use Rattle.std.proofs.Common.{◌≤◌, length, sym, ◌∙◌, ap, subst, arith}
use Rattle.cg_netlist.specs.inner.Ranking.{HasVisited, unsearched}
use Rattle.cg_netlist.proofs.SearchLemmas.{none_visited, ranks_found}
use Rattle.cg_netlist.proofs.ranks.search.Goals as goal

pub loop-cell-init : goal.loop-cell-init
loop-cell-init c =
    subst (λ s. HasVisited c.args.fan_in.now s 0) (sym (c.in_ok-ranking.ensures ∙ ap unsearched c.len.ensures)) (none_visited c.args.fan_in.now)

pub returns : goal.returns
returns c =
    let all : length c.args.fan_in.now ≤ c.loop-cell.cell = omega (arith, c.loop-cell-test.false, c.len-cell-end.ensures) in
    c.into_ranks.ensures
    ∙ ranks_found c.args.fan_in.now c.loop-cell.ranking c.loop-cell.cell c.requires c.loop-cell.invariant all
