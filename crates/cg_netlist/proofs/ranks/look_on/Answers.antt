use Rattle.std.proofs.Common.{◌≡◌, ℕ, Some, get_or, sym, ◌∙◌}
use Rattle.std.specs.List.{slice_get}
use Rattle.std.proofs.lemmas.Option.{slice_get-get_or}
use Rattle.cg_netlist.specs.inner.Ranking.{entry}
use Rattle.cg_netlist.proofs.RankingLemmas.{look_ranked}
use Rattle.cg_netlist.proofs.ranks.look_on.Goals as goal

pub loop-progress-preserved : goal.loop-progress-preserved
loop-progress-preserved c =
    let above = c.args.above.now in
    let p = c.loop-progress.progress in
    let cell : ℕ = get_or above p.place 0 in
    let is : slice_get above p.place ≡ Some cell = slice_get-get_or above p.place 0 c.loop-progress-test.true in
    let ranked : entry c.args.ranks.now cell ≡ Some c.in-Some.rank = sym c.entry.ensures ∙ c.in-Some.is in
    record {
      cell = c.loop-progress.invariant.cell;
      looked = rw c.max-progress.ensures (look_ranked c.args.ranks.now above p cell c.in-Some.rank c.loop-progress.invariant.looked is ranked);
    }
