use Rattle.std.proofs.Common.{◌≡◌, sym, ◌∙◌, ap, subst}
use Rattle.std.proofs.lemmas.Result.{IfOk-weaker}
use Rattle.cg_netlist.specs.inner.Ranking.{NamesCells, ranks_in}
use Rattle.cg_netlist.specs.Ranks.{ranks_of}
use Rattle.cg_netlist.proofs.DriverGraph.{names_cells, ranks_are}
use Rattle.cg_netlist.proofs.ranks.ranks.Goals as goal

pub search-requires : goal.search-requires
search-requires c =
    subst NamesCells (sym c.in_ok-fan_in.ensures) (names_cells c.args.drivers.now c.args.cells.now c.requires.graph)

pub returns : goal.returns
returns c =
    let same : ranks_in c.in_ok-fan_in.fan_in ≡ ranks_of c.args.cells.now =
    ap ranks_in c.in_ok-fan_in.ensures ∙ ranks_are c.args.drivers.now c.args.cells.now c.requires.graph c.requires.drivers in
    IfOk-weaker c.search.result (λ ranks. ranks.items ≡ ranks_in c.in_ok-fan_in.fan_in) (λ ranks. ranks.items ≡ ranks_of c.args.cells.now)
    (λ ranks found. found ∙ same) c.search.ensures
