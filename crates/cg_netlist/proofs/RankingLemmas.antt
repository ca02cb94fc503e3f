-- Lemmas on looking at the cells above a cell one by one.
use Rattle.std.proofs.Common.{ℕ, ◌+◌, ◌≡◌, List, [], ◌∷◌, ◌++◌, Option, Some, map, max, take}
use Rattle.std.proofs.Common.{ap, ◌∙◌, arith, slice_get}
use Rattle.cg_net.proofs.TableLemmas.{take_next}
use Rattle.std.specs.Option.{option_map}
use Rattle.std.proofs.lemmas.List.{map-append}
use Rattle.std.proofs.lemmas.Option.{slice_get_within}
use Rattle.cg_netlist.specs.declared.ranks.Progress.{Progress}
use Rattle.cg_netlist.specs.Ranks.{next_rank}
use Rattle.cg_netlist.specs.inner.Ranking.{HasLooked, entry}
use Rattle.cg_netlist.proofs.RankLemmas.{next_rank-push}

-- the search looks at one more cell, which has a rank
pub look_ranked : (ranks : List (Option ℕ)) (js : List ℕ) (p : Progress) (k r : ℕ) → HasLooked ranks js p
    → slice_get js p.place ≡ Some k → entry ranks k ≡ Some r → HasLooked ranks js (record { cell = p.cell; place = p.place + 1; rank = max p.rank (r + 1) })
look_ranked ranks js p k r looked is ranked =
    let before = map (entry ranks) (take p.place js) in
    let more : map (entry ranks) (take (p.place + 1) js) ≡ before ++ Some r ∷ [] =
    ap (map (entry ranks)) (take_next js p.place k is)
    ∙ (map-append (entry ranks) (take p.place js) (k ∷ []) ∙ ap (λ o. before ++ o ∷ []) ranked) in
    let m : max (r + 1) p.rank ≡ max p.rank (r + 1) = omega arith in
    record {
      place = omega (arith, slice_get_within js p.place k is);
      rank = ap next_rank more ∙ (next_rank-push before r ∙ (ap (option_map (max (r + 1))) looked.rank ∙ ap Some m));
    }
